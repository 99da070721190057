use Rattle.std.proofs.Common.{rules, ◌≡◌, sym, ap, ◌∙◌}
use Rattle.ir_tree.specs.declared.types.Ty.TheOpen.Ty-F.{Struct, Packed}
use Rattle.ir_tree.specs.declared.types.Ty.TheViews.{roll-Ty, the_lemmas}
use Rattle.ir_scopes.specs.Faults.{first_in}
use Rattle.ir_type_names.specs.Reading.{reading}
use Rattle.ir_type_names.specs.Unknown.{unknown_in}
use Rattle.ir_type_names.proofs.Missing.{more_found, unknown_struct, unknown_packed}
use Rattle.ir_type_names.proofs.unknown.+unknown.Goals as goal

pub note_parts-loop-part-preserved : goal.note_parts-loop-part-preserved
note_parts-loop-part-preserved t c =
    more_found (unknown_in (reading c.args.source.now)) c.args.parts.now c.loop-part.part-index c.part-item.result c.args.found.now c.loop-part.found
    c.note_unknown.new.found c.loop-part-test.true c.part-item.is c.loop-part.invariant c.note_unknown.ensures

pub note_unknown-returns-in-Struct : goal.note_unknown-returns-in-Struct
note_unknown-returns-in-Struct t c =
    let r = reading c.args.source.now in
    let is : roll-Ty (Struct c.in-Struct.open c.as_slice.result.now) ≡ c.args.ty.now = search (rules, the_lemmas) in
    c.note_parts.ensures ∙ ap (first_in c.args.found.now) (sym (unknown_struct r c.in-Struct.open c.as_slice.result.now) ∙ ap (unknown_in r) is)

pub note_unknown-returns-in-Packed : goal.note_unknown-returns-in-Packed
note_unknown-returns-in-Packed t c =
    let r = reading c.args.source.now in
    let is : roll-Ty (Packed c.in-Packed.open c.as_slice-in-Packed.result.now) ≡ c.args.ty.now = search (rules, the_lemmas) in
    c.note_parts-in-Packed.ensures
    ∙ ap (first_in c.args.found.now) (sym (unknown_packed r c.in-Packed.open c.as_slice-in-Packed.result.now) ∙ ap (unknown_in r) is)
