use Rattle.std.proofs.Common.{rules, ◌≡◌, ◌+◌, take, sym, subst}
use Rattle.ir_tree.specs.declared.types.Ty.TheOpen.Ty-F.{Void, Int, Ptr, Array, Struct, Packed, Named}
use Rattle.ir_tree.specs.declared.types.Ty.TheViews.{roll-Ty, the_lemmas}
use Rattle.ir_type_names.specs.Tables.{table, IsTaken, AreTaken}
use Rattle.ir_type_names.proofs.Numbering.{if_ok}
use Rattle.ir_type_names.proofs.Taking.{void_taken, ptr_taken, named_taken, int_taken, array_taken, struct_taken, packed_taken, more_taken}
use Rattle.ir_type_names.proofs.table.TypeIds.+taking.Goals as goal

pub take-returns-in-Void : goal.take-returns-in-Void
take-returns-in-Void t c =
    let old = table c.args.self.now in
    let is : roll-Ty (Void c.in-Void.field-0) ≡ c.args.ty.now = search (rules, the_lemmas) in
    subst (λ ty. IsTaken old ty old 0) is (void_taken old c.in-Void.field-0)

pub take-returns-in-Ptr : goal.take-returns-in-Ptr
take-returns-in-Ptr t c =
    let old = table c.args.self.now in
    let is : roll-Ty (Ptr c.in-Ptr.field-0) ≡ c.args.ty.now = search (rules, the_lemmas) in
    subst (λ ty. IsTaken old ty old 1) is (ptr_taken old c.in-Ptr.field-0)

pub take-returns-in-Named : goal.take-returns-in-Named
take-returns-in-Named t c =
    let old = table c.args.self.now in
    let is : roll-Ty (Named c.in-Named.name) ≡ c.args.ty.now = search (rules, the_lemmas) in
    subst (λ ty. IsTaken old ty old c.named.result) is (named_taken old c.in-Named.name c.named.result c.named.ensures)

pub take-returns-in_ok-key-in-Int : goal.take-returns-in_ok-key-in-Int
take-returns-in_ok-key-in-Int t c =
    let old = table c.args.self.now in
    let new = table c.put.new.self in
    let is : roll-Ty (Int c.in-Int.at) ≡ c.args.ty.now = search (rules, the_lemmas) in
    if_ok c.put.result (λ n put. subst (λ ty. IsTaken old ty new n) is
    (int_taken old new c.in-Int.at n c.in_ok-key-in-Int.key.items c.in_ok-key-in-Int.ensures put)) c.put.ensures

pub take-returns-in_ok-key-in-Array : goal.take-returns-in_ok-key-in-Array
take-returns-in_ok-key-in-Array t c =
    let old = table c.args.self.now in
    let mid = table c.take.new.self in
    let new = table c.put-in-Array.new.self in
    let is : roll-Ty (Array c.in-Array.open c.in-Array.count c.get.result.now) ≡ c.args.ty.now = search (rules, the_lemmas) in
    if_ok c.put-in-Array.result (λ n put. subst (λ ty. IsTaken old ty new n) is
    (array_taken old mid new c.in-Array.open c.in-Array.count c.get.result.now c.in_ok-elem-in-Array.elem n c.in_ok-key-in-Array.key.items
    c.in_ok-elem-in-Array.ensures c.in_ok-key-in-Array.ensures put)) c.put-in-Array.ensures

pub take-returns-in_ok-key-in-Struct : goal.take-returns-in_ok-key-in-Struct
take-returns-in_ok-key-in-Struct t c =
    let old = table c.args.self.now in
    let new = table c.put-in-Struct.new.self in
    let is : roll-Ty (Struct c.in-Struct.open c.as_slice.result.now) ≡ c.args.ty.now = search (rules, the_lemmas) in
    if_ok c.put-in-Struct.result (λ n put. subst (λ ty. IsTaken old ty new n) is
    (struct_taken old (table c.take_parts.new.self) new c.in-Struct.open c.as_slice.result.now c.in_ok-key-in-Struct.key.items n
    c.in_ok-key-in-Struct.ensures put)) c.put-in-Struct.ensures

pub take-returns-in_ok-key-in-Packed : goal.take-returns-in_ok-key-in-Packed
take-returns-in_ok-key-in-Packed t c =
    let old = table c.args.self.now in
    let new = table c.put-in-Packed.new.self in
    let is : roll-Ty (Packed c.in-Packed.open c.as_slice-in-Packed.result.now) ≡ c.args.ty.now = search (rules, the_lemmas) in
    if_ok c.put-in-Packed.result (λ n put. subst (λ ty. IsTaken old ty new n) is
    (packed_taken old (table c.take_parts-in-Packed.new.self) new c.in-Packed.open c.as_slice-in-Packed.result.now c.in_ok-key-in-Packed.key.items n
    c.in_ok-key-in-Packed.ensures put)) c.put-in-Packed.ensures

pub take_parts-loop-part-preserved : goal.take_parts-loop-part-preserved
take_parts-loop-part-preserved t c =
    let old = table c.args.self.now in
    let new = table c.take.new.self in
    let i = c.loop-part.part-index in
    subst (λ key. AreTaken old c.args.kind (take (i + 1) c.args.parts.now) new key) (sym c.in_ok-push.ensures.items)
    (more_taken old (table c.loop-part.self) new c.args.kind c.args.parts.now i c.part-item.result c.loop-part.key.items c.in_ok-take.field-0
    c.loop-part-test.true c.part-item.is c.loop-part.invariant c.in_ok-take.ensures)
