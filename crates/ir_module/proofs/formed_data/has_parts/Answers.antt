use Rattle.std.proofs.Common.{◌↔◌, IsTrue, List, subst, sym}
use Rattle.attr_ids.specs.declared.ids.TypeId.{TypeId}
use Rattle.ir_types.specs.declared.ir_type.IrType.{IrType}
use Rattle.ir_module.specs.Formed.{IsType}
use Rattle.ir_module.specs.WellFormed.{Each, IsTypeFormed}
use Rattle.ir_module.proofs.WellFormed.{array_parts, struct_parts}
use Rattle.ir_module.proofs.formed_data.has_parts.Goals as goal

pub returns-in-Array : goal.returns-in-Array
returns-in-Array c =
    let one = array_parts c.args.m.now 0 c.in-Array.count c.in-Array.elem in
    subst (λ (t : IrType). IsTrue c.is_type.result ↔ IsTypeFormed c.args.m.now 0 t) (sym c.in-Array.is)
    (λ t. one.0 (c.is_type.ensures.0 t), λ h. c.is_type.ensures.1 (one.1 h))

pub returns-in-Struct : goal.returns-in-Struct
returns-in-Struct c =
    let all = struct_parts c.args.m.now 0 c.in-Struct.fields c.in-Struct.packed in
    subst (λ (t : IrType). IsTrue c.are_types.result ↔ IsTypeFormed c.args.m.now 0 t) (sym c.in-Struct.is) (
      λ t. all.0 (subst (λ (xs : List TypeId). Each xs (λ k y. IsType c.args.m.now y)) c.as_slice.ensures (c.are_types.ensures.0 t)),
      λ h. c.are_types.ensures.1 (subst (λ (xs : List TypeId). Each xs (λ k y. IsType c.args.m.now y)) (sym c.as_slice.ensures) (all.1 h)),
    )
