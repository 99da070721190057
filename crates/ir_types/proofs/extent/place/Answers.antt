use Rattle.std.proofs.Common.{◌∷◌, ◌++◌, [], refl, ap, ◌∙◌, get_or}
use Rattle.ir_types.specs.Layout.{every}
use Rattle.ir_types.proofs.Layouts.{every_push, numbers_more, number_at}
use Rattle.ir_types.proofs.extent.place.Goals as goal

pub loop-field-init : goal.loop-field-init
loop-field-init c = λ of h. ([], refl, c.new-placing.ensures c.args.packed)

pub loop-field-preserved : goal.loop-field-preserved
loop-field-preserved c = λ of h.
    let before = c.loop-field.invariant of h in
    let i = c.loop-field.field-index in
    let t = (get_or c.args.fields.now i record { 0 = 0 }).0 in
    let part = h t c.in_ok-extent.extent c.in_ok-extent.ensures.some.0 in
    let more = numbers_more c.args.fields.now i record { 0 = 0 } c.loop-field-test.true in
    let all = every_push of _ before.0 t part.0 before.1 part.1 in
    (before.0 ++ part.0 ∷ [], ap (every of) more ∙ all, c.with-placing.ensures before.0 part.0 before.2 part.2)

pub returns-in_err-extent-clause-none : goal.returns-in_err-extent-clause-none
returns-in_err-extent-clause-none c = λ h. record {
  part = (get_or c.args.fields.now c.loop-field.field-index record { 0 = 0 }).0;
  is_part = (c.loop-field.field-index, number_at c.args.fields.now c.loop-field.field-index record { 0 = 0 } c.loop-field-test.true);
  deep = c.in_err-extent.ensures.none refl;
}
