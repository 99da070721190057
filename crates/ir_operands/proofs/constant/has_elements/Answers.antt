use Rattle.std.proofs.Common.{ℕ, arith}
use Rattle.ir_module.specs.declared.op.Written.{Written}
use Rattle.ir_operands.specs.Types.{AreOne}
use Rattle.ir_operands.proofs.Parts.{run_more, run_done}
use Rattle.ir_operands.proofs.constant.has_elements.Goals as goal

pub loop-i-preserved : goal.loop-i-preserved
loop-i-preserved c =
    run_more (λ (i : ℕ) (w : Written). AreOne c.args.numbers.now w.ty c.args.elem) c.args.parts.now c.args.run.first c.loop-i.i _ c.loop-i.invariant
    (omega (arith, c.requires, c.loop-i-test.true)) (c.are_one.ensures.0 c.if-not-are_one.false)

pub returns : goal.returns
returns c =
    run_done (λ (i : ℕ) (w : Written). AreOne c.args.numbers.now w.ty c.args.elem) c.args.parts.now c.args.run.first c.loop-i.i c.args.run.count
    c.loop-i.invariant (omega (arith, c.loop-i-test.false))
