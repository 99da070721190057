use Rattle.std.proofs.Common.{arith, refl}
use Rattle.ir_module.specs.WellFormed.{IsShort}
use Rattle.ir_module.proofs.Each.{one_more_read, answered}
use Rattle.ir_module.proofs.few.are_short.Goals as goal

pub loop-instr-preserved : goal.loop-instr-preserved
loop-instr-preserved c =
    one_more_read IsShort c.args.instrs.now c.args.instrs.now c.loop-instr.instr-index c.instr-item.result refl
    c.loop-instr.invariant c.loop-instr-test.true c.instr-item.is (omega (arith, c.operand_count.ensures))

pub returns : goal.returns
returns c = answered IsShort c.args.instrs.now c.loop-instr.instr-index c.loop-instr.invariant (omega arith)
