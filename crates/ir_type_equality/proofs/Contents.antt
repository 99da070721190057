-- Types of one content are alike, as far as the numbers tell their parts apart.
use Rattle.std.proofs.Common.{◌≡◌, ◌∙◌, ℕ, Bool, true, false, List, [], ◌∷◌, map, slice_get, get_or, if◌then◌else◌, Option, Some, None}
use Rattle.std.proofs.Common.{arith, refl, ap}
use Rattle.attr_ids.specs.declared.ids.TypeId.{TypeId}
use Rattle.ir_types.specs.declared.ir_type.IrType.{IrType}
use Rattle.ir_types.specs.declared.ir_type.IrType.TheVariants.{Void, Int, Ptr, Array, Struct, Opaque}
use Rattle.ir_type_equality.specs.Equality.{AreAll, AreAlike}
use Rattle.ir_type_equality.specs.Numbers.{HaveOneNumber}
use Rattle.ir_type_equality.specs.Content.{counted, part_number, content}

-- counted numbers are one exactly where the numbers are
counted_one : (o p : Option ℕ) → counted o ≡ counted p → o ≡ p
counted_one None None e = refl
counted_one None (Some n) e = absurd (omega (arith, e))
counted_one (Some n) None e = absurd (omega (arith, e))
counted_one (Some n) (Some m) e = let is : n ≡ m = omega (arith, e) in ap Some is

head_is : (x y : ℕ) (xs ys : List ℕ) → x ∷ xs ≡ y ∷ ys → (x ≡ y) × (xs ≡ ys)
head_is x y xs ys e = (cc, cc)

fields_one : (ns : List ℕ) (ts us : List TypeId) → map (part_number ns) ts ≡ map (part_number ns) us → AreAll (HaveOneNumber ns) ts us
fields_one ns [] [] e = tt
fields_one ns [] (u ∷ us) e = let no : ⊥ = cc in absurd no
fields_one ns (t ∷ ts) [] e = let no : ⊥ = cc in absurd no
fields_one ns (t ∷ ts) (u ∷ us) e =
    let both = head_is (part_number ns t) (part_number ns u) (map (part_number ns) ts) (map (part_number ns) us) e in
    (counted_one (slice_get ns t.0) (slice_get ns u.0) both.0, fields_one ns ts us both.1)

fields_same : (ns : List ℕ) (ts us : List TypeId) → AreAll (HaveOneNumber ns) ts us → map (part_number ns) ts ≡ map (part_number ns) us
fields_same ns [] [] h = refl
fields_same ns [] (u ∷ us) h = absurd h
fields_same ns (t ∷ ts) [] h = absurd h
fields_same ns (t ∷ ts) (u ∷ us) h =
    ap (λ n. n ∷ map (part_number ns) ts) (ap counted h.0) ∙ ap (λ xs. part_number ns u ∷ xs) (fields_same ns ts us h.1)

abbrev bit : Bool → ℕ
bit b = if b then 1 else 0

bit_is : (a b : Bool) → bit a ≡ bit b → a ≡ b
bit_is true true e = refl
bit_is false false e = refl
bit_is true false e = absurd (omega (arith, e))
bit_is false true e = absurd (omega (arith, e))

-- one content, so alike
pub alike_of : (ns : List ℕ) (t u : ℕ) (a b : IrType) → content ns t a ≡ content ns u b → AreAlike (HaveOneNumber ns) t u a b
alike_of ns t u Void Void e = tt
alike_of ns t u Ptr Ptr e = tt
alike_of ns t u Opaque Opaque e = (head_is t u [] [] (head_is 2 2 (t ∷ []) (u ∷ []) e).1).0
alike_of ns t u (Int width) (Int other) e = (head_is width other [] [] (head_is 3 3 (width ∷ []) (other ∷ []) e).1).0
alike_of ns t u (Array count elem) (Array size item) e =
    let tail = head_is count size (part_number ns elem ∷ []) (part_number ns item ∷ []) (head_is 4 4 _ _ e).1 in
    (tail.0, counted_one (slice_get ns elem.0) (slice_get ns item.0) (head_is (part_number ns elem) (part_number ns item) [] [] tail.1).0)
alike_of ns t u (Struct fields packed) (Struct others is_packed) e =
    let tail = head_is _ _ _ _ (head_is 5 5 _ _ e).1 in (bit_is packed is_packed tail.0, fields_one ns fields others tail.1)
alike_of ns t u _ _ e = absurd (omega (arith, ap (λ (xs : List ℕ). get_or xs 0 9) e))

-- alike, so one content
pub content_of : (ns : List ℕ) (t u : ℕ) (a b : IrType) → AreAlike (HaveOneNumber ns) t u a b → content ns t a ≡ content ns u b
content_of ns t u Void Void h = refl
content_of ns t u Ptr Ptr h = refl
content_of ns t u Opaque Opaque h = ap (λ n. 2 ∷ n ∷ []) h
content_of ns t u (Int width) (Int other) h = ap (λ n. 3 ∷ n ∷ []) h
content_of ns t u (Array count elem) (Array size item) h =
    ap (λ n. 4 ∷ n ∷ part_number ns elem ∷ []) h.0 ∙ ap (λ n. 4 ∷ size ∷ n ∷ []) (ap counted h.1)
content_of ns t u (Struct fields packed) (Struct others is_packed) h =
    ap (λ (b : Bool). 5 ∷ (if b then 1 else 0) ∷ map (part_number ns) fields) h.0
    ∙ ap (λ xs. 5 ∷ (if is_packed then 1 else 0) ∷ xs) (fields_same ns fields others h.1)
content_of ns t u _ _ h = absurd h
