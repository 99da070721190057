use Rattle.std.proofs.Common.{rules, ◌≡◌, ◌-◌, ◌≤◌, List, [], length, get_or, ◌∙◌, sym, ap, subst, arith}
use Rattle.ir_tree.specs.declared.types.Ty.TheOpen.Ty-F.{Struct, Packed}
use Rattle.ir_tree.specs.declared.types.Ty.TheViews.{roll-Ty, the_lemmas}
use Rattle.ir_attrs.specs.Places.{next, type_last}
use Rattle.ir_attrs.proofs.Ends.{struct_last, packed_last, packed_none, no_parts}
use Rattle.ir_attrs.proofs.places.+type_last.Goals as goal

pub returns-in-len1-up : goal.returns-in-len1-up
returns-in-len1-up t c =
    let is : roll-Ty (Struct c.in-Struct.open c.as_slice.result.now) ≡ c.args.ty.now = search (rules, the_lemmas) in
    c.next-in-len1-up.ensures ∙ ap next c.type_last-in-len1-up.ensures
    ∙ sym (struct_last c.in-Struct.open c.as_slice.result.now c.part-item.result c.in-len1-up.len_at_least c.part-item.is) ∙ ap type_last is

pub returns-in-empty-as_slice : goal.returns-in-empty-as_slice
returns-in-empty-as_slice t c =
    let is : roll-Ty (Packed c.in-Packed.open c.as_slice-in-Packed.result.now) ≡ c.args.ty.now = search (rules, the_lemmas) in
    c.next-in-empty-as_slice-3.ensures ∙ ap next (c.next-in-empty-as_slice-2.ensures ∙ ap next c.next-in-empty-as_slice.ensures)
    ∙ sym (packed_none c.in-Packed.open c.as_slice-in-Packed.result.now
    (no_parts c.as_slice-in-Packed.result.now c.in-empty-as_slice.len_below)) ∙ ap type_last is

pub returns-in-len1-up-as_slice : goal.returns-in-len1-up-as_slice
returns-in-len1-up-as_slice t c =
    let is : roll-Ty (Packed c.in-Packed.open c.as_slice-in-Packed.result.now) ≡ c.args.ty.now = search (rules, the_lemmas) in
    c.next-in-len1-up-as_slice-2.ensures ∙ ap next (c.next-in-len1-up-as_slice.ensures ∙ ap next c.type_last-in-len1-up-as_slice.ensures)
    ∙ sym (packed_last c.in-Packed.open c.as_slice-in-Packed.result.now c.part-item-in-Packed.result c.in-len1-up-as_slice.len_at_least
    c.part-item-in-Packed.is)
    ∙ ap type_last is
