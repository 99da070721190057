use Rattle.ir_module.specs.WellFormed.{IsFuncFormed}
use Rattle.ir_module.proofs.Each.{EachOf}
use Rattle.ir_module.proofs.formed_data.are_funcs_formed.Given as goal

abbrev pub invariant-loop-f : goal.invariant-loop-f
invariant-loop-f l = EachOf l.f l.m.funcs (IsFuncFormed l.m)
