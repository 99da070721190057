use Rattle.std.proofs.Common.{arith, length, ap, ◌∙◌}
use Rattle.ir_module.specs.Places.{spot}
use Rattle.ir_module.proofs.Runs.{read_at}
use Rattle.ir_module.proofs.Spots.{at_spot}
use Rattle.rule_says.proofs.Firsts.{first_none, first_more, first_all}
use Rattle.aa_passing.specs.Returned.{AsksRet, SpeaksRet}
use Rattle.aa_passing.proofs.rets.rets.Goals as goal

pub loop-instr-init : goal.loop-instr-init
loop-instr-init c =
    first_none c.args.m.now c.args.ps.now c.args.seg.now.instrs (λ at i. AsksRet c.args.m.now c.args.k.0 i.op) (λ at i. SpeaksRet c.args.m.now c.args.k.0 i.op)
    c.args.s.now

pub ret-requires-clause-there : goal.ret-requires-clause-there
ret-requires-clause-there c = (
  c.loop-instr.instr-index,
  at_spot c.args.m.now (spot c.args.k.0 c.loop-instr.instr-index) c.args.seg.now c.instr-item.result c.requires.there
      (read_at c.args.seg.now.instrs c.as_slice-instr-items.result.now c.loop-instr.instr-index c.instr-item.result c.as_slice-instr-items.ensures
      (omega (arith, c.loop-instr-test.true, ap length c.as_slice-instr-items.ensures)) c.instr-item.is),
)

pub ret-requires-clause-long : goal.ret-requires-clause-long
ret-requires-clause-long c = ap length c.loop-instr.invariant.masks ∙ c.requires.long

pub loop-instr-preserved : goal.loop-instr-preserved
loop-instr-preserved c =
    first_more c.args.m.now c.args.ps.now c.args.seg.now.instrs (λ at i. AsksRet c.args.m.now c.args.k.0 i.op) (λ at i. SpeaksRet c.args.m.now c.args.k.0 i.op)
    c.args.s.now c.loop-instr.s c.ret.new.s c.loop-instr.instr-index c.instr-item.result
    (read_at c.args.seg.now.instrs c.as_slice-instr-items.result.now c.loop-instr.instr-index c.instr-item.result c.as_slice-instr-items.ensures
    (omega (arith, c.loop-instr-test.true, ap length c.as_slice-instr-items.ensures)) c.instr-item.is) c.loop-instr.invariant c.in_ok-ret.ensures

pub returns : goal.returns
returns c =
    first_all c.args.m.now c.args.ps.now c.args.seg.now.instrs (λ at i. AsksRet c.args.m.now c.args.k.0 i.op) (λ at i. SpeaksRet c.args.m.now c.args.k.0 i.op)
    c.args.s.now c.loop-instr.s c.loop-instr.instr-index
    (omega (arith, c.loop-instr-test.false, ap length c.as_slice-instr-items.ensures)) c.loop-instr.invariant
