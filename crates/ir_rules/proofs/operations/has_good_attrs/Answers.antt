use Rattle.std.proofs.Common.{ℕ}
use Rattle.ir_module.specs.declared.attrs.ParamAttrs.{ParamAttrs}
use Rattle.ir_rules.specs.Operations.{IsGood}
use Rattle.ir_rules.proofs.Told.{each_of}
use Rattle.ir_rules.proofs.operations.has_good_attrs.Goals as goal

pub returns-then-is_good : goal.returns-then-is_good
returns-then-is_good c =
    let all = each_of (λ (k : ℕ) (attrs : ParamAttrs). IsGood attrs) c.as_slice.result.now c.args.call.now.attrs.args c.are_good.result c.as_slice.ensures
    c.are_good.ensures in
    (λ t. record { ret = c.is_good.ensures.0 c.if-is_good.true; args = all.0 t }, λ h. all.1 h.args)
