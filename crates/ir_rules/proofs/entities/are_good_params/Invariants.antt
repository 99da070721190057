use Rattle.std.proofs.Common.{ℕ}
use Rattle.ir_module.specs.declared.module.Param.{Param}
use Rattle.ir_rules.specs.Operations.{IsGood}
use Rattle.ir_module.proofs.Each.{EachOf}
use Rattle.ir_rules.proofs.entities.are_good_params.Given as goal

abbrev pub invariant-loop-param : goal.invariant-loop-param
invariant-loop-param l = EachOf l.param-index l.params (λ (k : ℕ) (p : Param). IsGood p.attrs)
