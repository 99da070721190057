use Rattle.std.proofs.Common.{ℕ}
use Rattle.ir_module.specs.declared.attrs.ParamAttrs.{ParamAttrs}
use Rattle.ir_rules.specs.Operations.{IsGood}
use Rattle.ir_module.proofs.Each.{EachOf}
use Rattle.ir_rules.proofs.operations.are_good.Given as goal

abbrev pub invariant-loop-attrs : goal.invariant-loop-attrs
invariant-loop-attrs l = EachOf l.attrs-index l.list (λ (k : ℕ) (attrs : ParamAttrs). IsGood attrs)
