use Rattle.ir_module.specs.Formed.{IsType}
use Rattle.ir_module.proofs.Each.{EachOf}
use Rattle.ir_module.proofs.present.are_types.Given as goal

abbrev pub invariant-loop-t : goal.invariant-loop-t
invariant-loop-t l = EachOf l.t-index l.types (λ k t. IsType l.m t)
