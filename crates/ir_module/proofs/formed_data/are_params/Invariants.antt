use Rattle.ir_module.specs.WellFormed.{IsParamFormed}
use Rattle.ir_module.proofs.Each.{EachOf}
use Rattle.ir_module.proofs.formed_data.are_params.Given as goal

abbrev pub invariant-loop-k : goal.invariant-loop-k
invariant-loop-k l = EachOf l.k l.params (IsParamFormed l.m l.f)
