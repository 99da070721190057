use Rattle.std.proofs.Common.{refl, ap, ◌∙◌, get_or}
use Rattle.std.proofs.lemmas.Option.{get_or_from_slice_get}
use Rattle.ir_types.specs.IrType.{numbers}
use Rattle.ir_types.proofs.Layouts.{number_at}
use Rattle.ir_types.proofs.Starts.{has_taken, start_like}
use Rattle.ir_types.proofs.extent.start_of.Goals as goal

pub returns-in_err-placing-clause-none : goal.returns-in_err-placing-clause-none
returns-in_err-placing-clause-none c = λ h.
    let b = c.in_err-placing.ensures.none refl in
    record { part = b.part; is_part = has_taken c.args.fields.now c.args.i b.part b.is_part; deep = b.deep }

pub returns-in_err-field-clause-none : goal.returns-in_err-field-clause-none
returns-in_err-field-clause-none c = λ h. record {
  part = (get_or c.args.fields.now c.args.i record { 0 = 0 }).0;
  is_part = (c.args.i, number_at c.args.fields.now c.args.i record { 0 = 0 } c.requires);
  deep = c.in_err-field.ensures.none refl;
}

pub returns-clause-some : goal.returns-clause-some
returns-clause-some c = λ of h.
    let before = c.in_ok-placing.ensures.some of h in
    let i = c.args.i in
    let t = (get_or c.args.fields.now i record { 0 = 0 }).0 in
    let part = h t c.in_ok-field.field c.in_ok-field.ensures.some.0 in
    let number = get_or_from_slice_get (numbers c.args.fields.now) i t 0 (number_at c.args.fields.now i record { 0 = 0 } c.requires) in (
      before.0,
      part.0,
      before.1,
      ap of number ∙ part.1,
      c.start.ensures.value ∙ start_like c.args.packed c.in_ok-placing.placing.end _ c.in_ok-field.field.align part.0.align before.2.end part.2.align,
    )
