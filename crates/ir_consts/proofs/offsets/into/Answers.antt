use Rattle.std.proofs.Common.{◌≡◌, ◌<◌, ◌^◌, to_z, None, ◌∙◌, ap, rules}
use Rattle.std.specs.Int.{w64, int_wrap}
use Rattle.ir_operands.specs.Types.{type_of}
use Rattle.ir_consts.specs.Offsets as spec
use Rattle.ir_consts.proofs.Wrapping.{cast_bits}
use Rattle.ir_consts.proofs.offsets.into.Goals as goal

pub returns-in-None : goal.returns-in-None
returns-in-None c =
    let types = c.args.types.now in
    let small : c.field_of.result < 2 ^ 64 = search rules in
    let cast : c.cast_signed.result ≡ to_z w64 c.field_of.result = search (rules, c.cast_signed.ensures) in
    let number : c.unwrap_or.result ≡ spec.number_of types c.args.w.now = search (rules, c.unwrap_or.ensures, c.literal_of.ensures) in
    let none : None ≡ spec.element_of (type_of types c.args.t) = search (rules, c.in-None.is, c.element_of.ensures, c.type_at.ensures) in
    cast_bits c.cast_signed.result c.field_of.result (spec.field_of types c.args.t (type_of types c.args.t) (spec.number_of types c.args.w.now)) cast small
    (c.field_of.ensures ∙ ap (spec.field_of types c.args.t (type_of types c.args.t)) number)
    ∙ ap (λ o. int_wrap w64 (spec.into types c.args.t o c.args.w.now)) none
