use Rattle.std.proofs.Common.{ℕ}
use Rattle.ir_module.specs.declared.module.Param.{Param}
use Rattle.ir_operands.specs.Types.{IsScalar, type_of}
use Rattle.ir_rules.proofs.Told.{each_of}
use Rattle.ir_rules.proofs.entities.has_scalar_type.Goals as goal

pub returns-then-may_return : goal.returns-then-may_return
returns-then-may_return c =
    let all = each_of (λ (k : ℕ) (p : Param). IsScalar (type_of c.args.m.now.types p.ty)) c.as_slice.result.now c.args.func.now.params
    c.are_scalar_params.result c.as_slice.ensures c.are_scalar_params.ensures in
    (λ t. record { ret = c.may_return.ensures.0 c.if-may_return.true; params = all.0 t }, λ h. all.1 h.params)
