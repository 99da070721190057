use Rattle.ir_module.specs.WellFormed.{IsTypeFormed}
use Rattle.ir_module.proofs.Each.{EachOf}
use Rattle.ir_module.proofs.formed_data.are_types_formed.Given as goal

abbrev pub invariant-loop-ty : goal.invariant-loop-ty
invariant-loop-ty l = EachOf l.ty-index l.m.types (IsTypeFormed l.m)
