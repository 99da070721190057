use Rattle.std.proofs.Common.{IsTrue, ◌↔◌, Option, subst, sym}
use Rattle.ir_module.specs.declared.op.Written.{Written}
use Rattle.ir_module.specs.Operands.{optional}
use Rattle.ir_module.specs.Formed.{AreConstants}
use Rattle.ir_module.proofs.WellFormed.{one_constant}
use Rattle.ir_module.proofs.formed_data.is_optional_constant.Goals as goal

pub returns-in-Some : goal.returns-in-Some
returns-in-Some c =
    let one = one_constant c.args.m.now c.in-Some.w in
    subst (λ (o : Option Written). IsTrue c.is_written_constant.result ↔ AreConstants c.args.m.now (optional o)) (sym c.in-Some.is)
    (λ t. one.0 (c.is_written_constant.ensures.0 t), λ h. c.is_written_constant.ensures.1 (one.1 h))
