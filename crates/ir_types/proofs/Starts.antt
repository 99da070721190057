-- Where the fields of a struct begin.
use Rattle.std.proofs.Common.{ℕ, zero, suc, ◌<◌, ◌≤◌, ◌^◌, ◌≡◌, refl, sym, ap, subst, ◌∙◌, arith, true, false, Bool, Option, None, Some, Ok, List, [], ◌∷◌}
use Rattle.std.proofs.Common.{length, get_or, take, min}
use Rattle.std.specs.Prelude.{slice_get, slice_index, IsSomeAnd, if◌then◌else◌}
use Rattle.std.specs.Int.{next_multiple_of}
use Rattle.std.specs.List.{fold}
use Rattle.std.proofs.lemmas.Option.{none-some, same_Some}
use Rattle.attr_ids.specs.declared.ids.TypeId.{TypeId}
use Rattle.ir_types.specs.declared.ir_type.IrType.{IrType}
use Rattle.ir_types.specs.declared.ir_type.IrType.TheVariants.{Struct}
use Rattle.ir_types.specs.declared.standing.Extent.{Extent}
use Rattle.ir_types.specs.declared.standing.Standing.{Standing}
use Rattle.ir_types.specs.IrType.{numbers}
use Rattle.ir_types.specs.Layout.{Layout, every, laid_out, layout, struct_of, start_after, end_after, starts_from, greatest}
use Rattle.ir_types.specs.Standing.{AreSound, Agrees, AreSettledBut, Has, IsBlocked, ceiling}
use Rattle.ir_types.specs.TypeTable.{IsJudged, field_start}
use Rattle.ir_types.proofs.Queries.{ok_is}
use Rattle.ir_types.proofs.Layouts.{map_some, joined_some, every_along, layout_entry, layout_more, layout_depth, laid_out_part}
use Rattle.ir_types.proofs.Settling.{laid_if_finite}

start_grows : (packed : Bool) (end : ℕ) (l : Layout) → end ≤ start_after packed end l
start_grows true end l = omega arith
start_grows false end l = omega arith

end_grows : (packed : Bool) (end : ℕ) (ls : List Layout) → end ≤ fold (end_after packed) end ls
end_grows packed end [] = omega arith
end_grows packed end (l ∷ ls) = omega (arith, start_grows packed end l, end_grows packed (end_after packed end l) ls)

-- a field begins after the fields before it
starts_at : (f : ℕ → Option Layout) (packed : Bool) (end : ℕ) (ts : List ℕ) (all before : List Layout) (i : ℕ) (l : Layout) → every f ts ≡ Some all
    → i < length ts → every f (take i ts) ≡ Some before → f (get_or ts i 0) ≡ Some l
    → (start_after packed (fold (end_after packed) end before) l ≡ get_or (starts_from packed end all) i 0) ×
    (fold (end_after packed) end before ≤ fold (end_after packed) end all)
starts_at f packed end [] all before i l e b p at = absurd (omega arith)
starts_at f packed end (t ∷ ts) all before zero l e b p at =
    let split = joined_some (f t) (every f ts) all e in
    let none : [] ≡ before = same_Some [] before p in
    let first : split.0 ≡ l = same_Some split.0 l (sym split.2 ∙ at) in
    let begin : start_after packed end l ≡ get_or (starts_from packed end (split.0 ∷ split.1)) 0 0 = ap (start_after packed end) (sym first) in
    let bound : end ≤ fold (end_after packed) end (split.0 ∷ split.1) = end_grows packed end (split.0 ∷ split.1) in
    subst (λ (xs : List Layout). (start_after packed (fold (end_after packed) end before) l ≡ get_or (starts_from packed end xs) 0 0) ×
    (fold (end_after packed) end before ≤ fold (end_after packed) end xs)) split.4
    (subst (λ (xs : List Layout). (start_after packed (fold (end_after packed) end xs) l ≡ get_or (starts_from packed end (split.0 ∷ split.1)) 0 0) ×
    (fold (end_after packed) end xs ≤ fold (end_after packed) end (split.0 ∷ split.1))) none (begin, bound))
starts_at f packed end (t ∷ ts) all before (suc i) l e b p at =
    let split = joined_some (f t) (every f ts) all e in
    let front = joined_some (f t) (every f (take i ts)) before p in
    let first : split.0 ≡ front.0 = same_Some split.0 front.0 (sym split.2 ∙ front.2) in
    let rest = starts_at f packed (end_after packed end split.0) ts split.1 front.1 i l split.3 (omega arith) front.3 at in
    let same : split.0 ∷ front.1 ≡ before = ap (λ (x : Layout). x ∷ front.1) first ∙ front.4 in
    subst (λ (xs : List Layout). (start_after packed (fold (end_after packed) end before) l ≡ get_or (starts_from packed end xs) (suc i) 0) ×
    (fold (end_after packed) end before ≤ fold (end_after packed) end xs)) split.4
    (subst (λ (xs : List Layout). (start_after packed (fold (end_after packed) end xs) l ≡ get_or (starts_from packed end (split.0 ∷ split.1)) (suc i) 0) ×
    (fold (end_after packed) end xs ≤ fold (end_after packed) end (split.0 ∷ split.1))) same rest)

padded : (packed : Bool) (ls : List Layout) → fold (end_after packed) 0 ls ≤ (struct_of packed ls).size
padded true ls = omega arith
padded false ls = omega arith

-- the fields of a struct that has a layout
pub fields_of : (types : List IrType) (t : ℕ) (fields : List TypeId) (packed : Bool) (l : Layout) → slice_get types t ≡ Some (Struct fields packed)
    → layout types 64 t ≡ Some l
    → (all : List Layout) × (every (layout types 64) (numbers fields) ≡ Some all) × (struct_of packed all ≡ l)
fields_of types t fields packed l at is =
    let from = layout_entry types 63 t l is in
    let type : from.0 ≡ Struct fields packed = same_Some from.0 (Struct fields packed) (sym from.1 ∙ at) in
    let here : laid_out (layout types 63) (Struct fields packed) ≡ Some l = subst (λ (x : IrType). laid_out (layout types 63) x ≡ Some l) type from.2 in
    let all = map_some (struct_of packed) (every (layout types 63) (numbers fields)) l here in (
      all.0,
      every_along (layout types 63) (layout types 64) 0 (greatest (λ x. x.nesting) 0 all.0) (numbers fields) all.0 all.1 (omega arith)
          (λ u q e b. layout_more types 63 u q e),
      all.2,
    )

-- what the code computes for a field
pub start_is : (types : List IrType) (t i start : ℕ) (fields : List TypeId) (packed : Bool) (l : Layout) → slice_get types t ≡ Some (Struct fields packed)
    → layout types 64 t ≡ Some l → l.size ≤ 2 ^ 40 → i < length (numbers fields)
    → (before : List Layout) (field : Layout) → every (layout types 64) (take i (numbers fields)) ≡ Some before
    → layout types 64 (get_or (numbers fields) i 0) ≡ Some field
    → start ≡ start_after packed (min (fold (end_after packed) 0 before) ceiling) field → start ≡ get_or l.starts i 0
start_is types t i start fields packed l at is small inside before field front here e =
    let all = fields_of types t fields packed l at is in
    let from = starts_at (layout types 64) packed 0 (numbers fields) all.0 before i field all.1 inside front here in
    let whole : (struct_of packed all.0).size ≡ l.size = ap (λ (x : Layout). x.size) all.2 in
    let few : fold (end_after packed) 0 before ≤ 2 ^ 40 = omega (arith, from.1, padded packed all.0, whole, small) in
    let exact : min (fold (end_after packed) 0 before) ceiling ≡ fold (end_after packed) 0 before = omega (arith, few) in
    e ∙ ap (λ (n : ℕ). start_after packed n field) exact ∙ from.0 ∙ ap (λ (x : Layout). get_or x.starts i 0) all.2

-- no field of a struct that has a layout is missing
pub not_blocked : (types : List IrType) (ss : List Standing) (t : ℕ) (type : IrType) (l : Layout) → AreSound types ss → AreSettledBut [] types ss
    → slice_get types t ≡ Some type → layout types 64 t ≡ Some l → IsBlocked ss type → ⊥
not_blocked types ss t type l sound settled at is b =
    let from = layout_entry types 63 t l is in
    let here : laid_out (layout types 63) type ≡ Some l = subst (λ (x : IrType). laid_out (layout types 63) x ≡ Some l)
    (same_Some from.0 type (sym from.1 ∙ at)) from.2 in
    let part = laid_out_part (layout types 63) type l b.part here b.is_part in
    let kept = laid_if_finite types ss sound settled 63 b.part part.0 (omega arith) part.1 in
    omega (arith, b.deep kept.0 kept.1, kept.2.nesting, layout_depth types 63 b.part part.0 part.1)

-- the fields before a field are fields
pub has_taken : (fields : List TypeId) (n p : ℕ) → Has (numbers (take n fields)) p → Has (numbers fields) p
has_taken [] zero p h = h
has_taken [] (suc n) p h = h
has_taken (x ∷ xs) zero p (k, at) = absurd (none-some p at)
has_taken (x ∷ xs) (suc n) p (zero, at) = (zero, at)
has_taken (x ∷ xs) (suc n) p (suc k, at) = let rest = has_taken xs n p (k, at) in (suc rest.0, rest.1)

pub numbers_taken : (fields : List TypeId) (n : ℕ) → numbers (take n fields) ≡ take n (numbers fields)
numbers_taken [] zero = refl
numbers_taken [] (suc n) = refl
numbers_taken (x ∷ xs) zero = refl
numbers_taken (x ∷ xs) (suc n) = ap (λ (ts : List ℕ). x.0 ∷ ts) (numbers_taken xs n)

length_numbers : (fields : List TypeId) → length (numbers fields) ≡ length fields
length_numbers [] = refl
length_numbers (x ∷ xs) = ap suc (length_numbers xs)

pub start_like : (packed : Bool) (end end' align align' : ℕ) → end ≡ end' → align ≡ align'
    → (if packed then end else next_multiple_of end align) ≡ (if packed then end' else next_multiple_of end' align')
start_like packed end end' align align' e f = rw (e, f)

-- the type that a query of a field is asked of
pub asked : (types : List IrType) (t : ℕ) (P : IrType → Type 0) → IsSomeAnd (slice_get types t) P → (type : IrType) × (slice_get types t ≡ Some type) × P type
asked types t P h = go (slice_get types t) refl h
  where
    go : (o : Option IrType) → slice_get types t ≡ o → IsSomeAnd o P → (type : IrType) × (slice_get types t ≡ Some type) × P type
    go None e a = absurd a
    go (Some type) e a = (type, e, a)

pub field_is : (types : List IrType) (ss : List Standing) (t i start : ℕ) (fields : List TypeId) (packed : Bool) (e : Extent) → AreSound types ss
    → slice_get types t ≡ Some (Struct fields packed) → i < length fields → IsJudged (layout types 64 t) (Ok e)
    → ((of : ℕ → Option Layout) → Agrees of ss → (ls : List Layout) × (l : Layout) × (every of (numbers (take i fields)) ≡ Some ls) ×
    (of (slice_index (numbers fields) i) ≡ Some l) × (start ≡ start_after packed (min (fold (end_after packed) 0 ls) ceiling) l))
    → Ok start ≡ field_start types t i
field_is types ss t i start fields packed e sound at inside judged says =
    let w = says (layout types 64) sound in
    let front = ap (every (layout types 64)) (sym (numbers_taken fields i)) ∙ w.2 in
    ok_is (layout types 64 t) e (λ l. slice_index l.starts i) start
    (λ l is shows small. start_is types t i start fields packed l at is small (omega (arith, length_numbers fields)) w.0 w.1 front w.3 w.4) judged
