use Rattle.ir_module.specs.WellFormed.{IsGlobalFormed}
use Rattle.ir_module.proofs.Each.{EachOf}
use Rattle.ir_module.proofs.formed_data.are_globals_formed.Given as goal

abbrev pub invariant-loop-global : goal.invariant-loop-global
invariant-loop-global l = EachOf l.global-index l.m.globals (λ g global. IsGlobalFormed l.m global)
