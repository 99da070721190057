use Rattle.ir_module.specs.WellFormed.{IsPartFormed}
use Rattle.ir_module.proofs.Each.{EachOf}
use Rattle.ir_module.proofs.formed_data.are_parts_formed.Given as goal

abbrev pub invariant-loop-k : goal.invariant-loop-k
invariant-loop-k l = EachOf l.k l.m.parts (IsPartFormed l.m)
