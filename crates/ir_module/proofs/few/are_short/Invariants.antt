use Rattle.ir_module.specs.WellFormed.{IsShort}
use Rattle.ir_module.proofs.Each.{EachOf}
use Rattle.ir_module.proofs.few.are_short.Given as goal

abbrev pub invariant-loop-instr : goal.invariant-loop-instr
invariant-loop-instr l = EachOf l.instr-index l.instrs IsShort
