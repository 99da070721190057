use Rattle.std.proofs.Common.{length}
use Rattle.ir_module.specs.WellFormed.{IsInstrFormed}
use Rattle.ir_module.proofs.Each.{EachOf}
use Rattle.ir_module.proofs.formed_body.are_instrs_formed.Given as goal

abbrev pub invariant-loop-i : goal.invariant-loop-i
invariant-loop-i l = EachOf l.i l.instrs (IsInstrFormed l.m l.block l.k (length l.instrs))
