use Rattle.std.proofs.Common.{rules, ◌≡◌, subst}
use Rattle.ir_tree.specs.declared.types.Ty.TheOpen.Ty-F.{Void, Int, Ptr, Array, Struct, Packed, Named}
use Rattle.ir_tree.specs.declared.types.Ty.TheViews.{roll-Ty, the_lemmas}
use Rattle.ir_type_names.specs.Places.{IsMarked, marks_of}
use Rattle.ir_type_names.specs.Tables.{table}
use Rattle.ir_type_names.proofs.Numbering.{if_both, more_numbers, int_number, array_number, struct_number, packed_number}
use Rattle.ir_type_names.proofs.Marking.{more_marked, void_marked, ptr_marked, named_marked, int_marked, array_marked, struct_marked, packed_marked}
use Rattle.ir_type_names.proofs.places.+marking.Goals as goal

pub mark_parts-loop-part-preserved : goal.mark_parts-loop-part-preserved
mark_parts-loop-part-preserved t c =
    let ids = table c.args.ids.now in
    let parts = c.args.parts.now in
    let i = c.loop-part.part-index in
    let part = c.part-item.result in (
      more_numbers ids c.args.kind parts i part c.loop-part.key.items c.push.new.self.items c.in_ok-mark_type.field-0 c.loop-part-test.true c.part-item.is
          c.loop-part.invariant.0 c.in_ok-mark_type.ensures.number c.in_ok-push.ensures.items,
      more_marked (marks_of ids c.args.at) parts i part c.args.places.now c.loop-part.places c.mark_type.new.places c.loop-part-test.true c.part-item.is
          c.loop-part.invariant.1 c.in_ok-mark_type.ensures.marked,
    )

pub mark_type-returns-in-Void : goal.mark_type-returns-in-Void
mark_type-returns-in-Void t c =
    let is : roll-Ty (Void c.in-Void.field-0) ≡ c.args.ty.now = search (rules, the_lemmas) in
    subst (λ ty. IsMarked (table c.args.ids.now) c.args.at ty c.args.places.now c.mark.new.places 0) is
    (void_marked (table c.args.ids.now) c.args.at c.in-Void.field-0 c.args.places.now c.mark.new.places c.mark.ensures)

pub mark_type-returns-in-Ptr : goal.mark_type-returns-in-Ptr
mark_type-returns-in-Ptr t c =
    let is : roll-Ty (Ptr c.in-Ptr.field-0) ≡ c.args.ty.now = search (rules, the_lemmas) in
    subst (λ ty. IsMarked (table c.args.ids.now) c.args.at ty c.args.places.now c.mark-in-Ptr.new.places 1) is
    (ptr_marked (table c.args.ids.now) c.args.at c.in-Ptr.field-0 c.args.places.now c.mark-in-Ptr.new.places c.mark-in-Ptr.ensures)

pub mark_type-returns-in-Named : goal.mark_type-returns-in-Named
mark_type-returns-in-Named t c =
    let is : roll-Ty (Named c.in-Named.name) ≡ c.args.ty.now = search (rules, the_lemmas) in
    subst (λ ty. IsMarked (table c.args.ids.now) c.args.at ty c.args.places.now c.mark-in-Named.new.places c.named-n.result) is
    (named_marked (table c.args.ids.now) c.args.at c.in-Named.name c.named-n.result c.args.places.now c.mark-in-Named.new.places c.named-n.ensures
    c.mark-in-Named.ensures)

pub mark_type-returns-in_ok-key-in-Int : goal.mark_type-returns-in_ok-key-in-Int
mark_type-returns-in_ok-key-in-Int t c =
    let ids = table c.args.ids.now in
    let is : roll-Ty (Int c.in-Int.bits) ≡ c.args.ty.now = search (rules, the_lemmas) in
    if_both c.mark_key.result (λ n number marked. subst (λ ty. IsMarked ids c.args.at ty c.args.places.now c.mark_key.new.places n) is
    (int_marked ids c.args.at c.in-Int.bits n c.args.places.now c.mark_key.new.places
    (int_number ids c.in-Int.bits n c.in_ok-key-in-Int.key.items number c.in_ok-key-in-Int.ensures) marked))
    c.mark_key.ensures.number c.mark_key.ensures.marked

pub mark_type-returns-in_ok-key-in-Array : goal.mark_type-returns-in_ok-key-in-Array
mark_type-returns-in_ok-key-in-Array t c =
    let ids = table c.args.ids.now in
    let is : roll-Ty (Array c.in-Array.open c.in-Array.count c.get.result.now) ≡ c.args.ty.now = search (rules, the_lemmas) in
    if_both c.mark_key-in-Array.result (λ n number marked. subst (λ ty. IsMarked ids c.args.at ty c.args.places.now c.mark_key-in-Array.new.places n) is
    (array_marked ids c.args.at c.in-Array.open c.in-Array.count c.get.result.now n c.args.places.now c.mark_type.new.places c.mark_key-in-Array.new.places
    (array_number ids c.in-Array.open c.in-Array.count c.get.result.now c.in_ok-elem-in-Array.elem n c.in_ok-key-in-Array.key.items number
    c.in_ok-key-in-Array.ensures c.in_ok-elem-in-Array.ensures.number) c.in_ok-elem-in-Array.ensures.marked marked))
    c.mark_key-in-Array.ensures.number c.mark_key-in-Array.ensures.marked

pub mark_type-returns-in_ok-key-in-Struct : goal.mark_type-returns-in_ok-key-in-Struct
mark_type-returns-in_ok-key-in-Struct t c =
    let ids = table c.args.ids.now in
    let is : roll-Ty (Struct c.in-Struct.open c.as_slice.result.now) ≡ c.args.ty.now = search (rules, the_lemmas) in
    if_both c.mark_key-in-Struct.result (λ n number marked. subst (λ ty. IsMarked ids c.args.at ty c.args.places.now c.mark_key-in-Struct.new.places n) is
    (struct_marked ids c.args.at c.in-Struct.open c.as_slice.result.now n c.args.places.now c.mark_parts.new.places c.mark_key-in-Struct.new.places
    (struct_number ids c.in-Struct.open c.as_slice.result.now n c.in_ok-key-in-Struct.key.items number c.in_ok-key-in-Struct.ensures.key)
    c.in_ok-key-in-Struct.ensures.marked marked))
    c.mark_key-in-Struct.ensures.number c.mark_key-in-Struct.ensures.marked

pub mark_type-returns-in_ok-key-in-Packed : goal.mark_type-returns-in_ok-key-in-Packed
mark_type-returns-in_ok-key-in-Packed t c =
    let ids = table c.args.ids.now in
    let is : roll-Ty (Packed c.in-Packed.open c.as_slice-in-Packed.result.now) ≡ c.args.ty.now = search (rules, the_lemmas) in
    if_both c.mark_key-in-Packed.result (λ n number marked. subst (λ ty. IsMarked ids c.args.at ty c.args.places.now c.mark_key-in-Packed.new.places n) is
    (packed_marked ids c.args.at c.in-Packed.open c.as_slice-in-Packed.result.now n c.args.places.now c.mark_parts-in-Packed.new.places
    c.mark_key-in-Packed.new.places
    (packed_number ids c.in-Packed.open c.as_slice-in-Packed.result.now n c.in_ok-key-in-Packed.key.items number c.in_ok-key-in-Packed.ensures.key)
    c.in_ok-key-in-Packed.ensures.marked marked))
    c.mark_key-in-Packed.ensures.number c.mark_key-in-Packed.ensures.marked
