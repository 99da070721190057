use Rattle.std.proofs.Common.{◌∙◌, ap, sym}
use Rattle.std.proofs.lemmas.Result.{IfOk-weaker}
use Rattle.ir_types.specs.declared.ir_type.IrType.TheVariants.{Struct}
use Rattle.ir_type_equality.specs.Content as spec
use Rattle.ir_type_equality.proofs.content.content.Goals as goal

pub returns-in-Struct : goal.returns-in-Struct
returns-in-Struct c =
    let is = ap (λ fields. Struct fields c.in-Struct.packed) c.as_slice.ensures ∙ sym c.in-Struct.is in
    IfOk-weaker c.struct_content.result _ _ (λ words h. h c.args.t ∙ ap (spec.content c.args.numbers.now c.args.t) is) c.struct_content.ensures
