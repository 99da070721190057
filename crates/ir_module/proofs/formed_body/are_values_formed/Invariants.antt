use Rattle.ir_module.specs.WellFormed.{IsValueFormed}
use Rattle.ir_module.proofs.Each.{EachOf}
use Rattle.ir_module.proofs.formed_body.are_values_formed.Given as goal

abbrev pub invariant-loop-v : goal.invariant-loop-v
invariant-loop-v l = EachOf l.v l.m.values (IsValueFormed l.m)
