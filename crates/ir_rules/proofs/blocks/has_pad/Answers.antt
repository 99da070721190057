use Rattle.std.proofs.Common.{ℕ, arith}
use Rattle.ir_module.proofs.Each.{one_further}
use Rattle.ir_operands.proofs.Tests.{refused}
use Rattle.ir_rules.specs.Blocks.{SegHasPad}
use Rattle.ir_rules.proofs.Pads.{func_found, func_none}
use Rattle.ir_rules.proofs.blocks.has_pad.Goals as goal

pub loop-k-init : goal.loop-k-init
loop-k-init c = (omega arith, λ k a l. absurd (omega (arith, a, l)))

pub loop-k-preserved : goal.loop-k-preserved
loop-k-preserved c = (
  omega (arith, c.loop-k.invariant.0),
  one_further (λ (k : ℕ). SegHasPad c.args.m.now k → ⊥) c.segs_of_func-segs.result.start c.loop-k.k c.loop-k.invariant.1
      (refused c.seg_has_pad.result c.seg_has_pad.ensures c.if-seg_has_pad.false),
)

pub returns-then-seg_has_pad : goal.returns-then-seg_has_pad
returns-then-seg_has_pad c =
    func_found c.args.m.now c.args.f.0 c.loop-k.k ((c.segs_of_func-segs.ensures c.loop-k.k).1 (c.loop-k.invariant.0, c.loop-k-test.true))
    (c.seg_has_pad.ensures.0 c.if-seg_has_pad.true)

pub returns : goal.returns
returns c =
    func_none c.args.m.now c.args.f.0 c.segs_of_func-segs.result.start c.segs_of_func-segs.result.end c.loop-k.k c.segs_of_func-segs.ensures
    (omega (arith, c.loop-k-test.false)) c.loop-k.invariant.1
