use Rattle.std.proofs.Common.{ℕ}
use Rattle.ir_module.specs.declared.module.Param.{Param}
use Rattle.ir_rules.specs.Operations.{IsGood}
use Rattle.ir_rules.proofs.Told.{each_of}
use Rattle.ir_rules.proofs.entities.has_good_header.Goals as goal

pub returns-then-is_good : goal.returns-then-is_good
returns-then-is_good c =
    let all = each_of (λ (k : ℕ) (p : Param). IsGood p.attrs) c.as_slice.result.now c.args.func.now.params c.are_good_params.result c.as_slice.ensures
    c.are_good_params.ensures in
    (λ t. record { ret = c.is_good.ensures.0 c.if-is_good.true; params = all.0 t }, λ h. all.1 h.params)
