-- Names of positions in a list, and the marks that tell an input's number.
use Rattle.std.proofs.Common.{◌≡◌, ◌≢◌, ℕ, zero, suc, ◌+◌, ◌<◌, ◌≤◌, Bool, true, false, eqb, ◌||◌, List, [], ◌∷◌, ◌++◌, length, length-set, map, get_or, set}
use Rattle.std.proofs.Common.{slice_get, slice_index, Some, refl, ap, sym, ◌∙◌, subst, inl, inr, arith, eqb-true, eq-eqb, get_or-set_same, get_or-set_other}
use Rattle.std.specs.List.{list_any}
use Rattle.std.proofs.lemmas.List.{length-map}
use Rattle.std.proofs.lemmas.Bool.{or_cases, cases_lt, both_ways, false_from_ne_true, cond-true, cond-false}
use Rattle.std.proofs.lemmas.Option.{slice_get_read, slice_get-get_or, get_or_from_slice_get, same_Some}
use Rattle.std.proofs.lemmas.Map.Keys.{any_passes_from_place, IsDistinct-from_apart}
use Rattle.std.proofs.lemmas.Map.Steps.{length-le_from_distinct_below}
use Rattle.attr_ids.specs.declared.ids.PosId.{PosId}
use Rattle.shelf.proofs.Shelf.{get_there, get_push, get_kept}
use Rattle.rule_terms.specs.Names.{has_name, with_name}
use Rattle.rule_terms.specs.Pool.{IsMarked}
use Rattle.rule_terms.specs.Pool.{AreApart}

-- a position is its number
pub same_position : (p q : PosId) → p.0 ≡ q.0 → p ≡ q
same_position p q e = ap (λ (n : ℕ). let r : PosId = record { 0 = n } in r) e

-- a name of the list stands at a place of it
pub has_name-place : (names : List PosId) (p : PosId) → has_name names p ≡ true → (k : ℕ) × (slice_get names k ≡ Some p)
has_name-place [] p e = cc
has_name-place (q ∷ qs) p e = elim (or_cases (eqb p.0 q.0) (has_name qs p) e) [
  | inl is ↦ (zero, ap Some (sym (same_position p q (eqb-true p.0 q.0 is))))
  | inr is ↦ let place = has_name-place qs p is in (suc place.0, place.1)
]

pub has_name-at : (names : List PosId) (k : ℕ) (p : PosId) → slice_get names k ≡ Some p → has_name names p ≡ true
has_name-at names k p e = any_passes_from_place (λ (q : PosId). eqb p.0 q.0) names k p e (eq-eqb p.0 p.0 refl)

-- where the mark of a position leads elsewhere, it is no input
pub unmarked : (inputs : List PosId) (marks : List ℕ) (p : PosId) → IsMarked inputs marks → (slice_get inputs (slice_index marks p.0) ≡ Some p → ⊥) →
    has_name inputs p ≡ false
unmarked inputs marks p marked other = false_from_ne_true (has_name inputs p) (λ is.
    let place = has_name-place inputs p is in
    other (rw (marked place.0 p place.1).1 place.1))

pub IsMarked-push : (inputs : List PosId) (marks : List ℕ) (p : PosId) → IsMarked inputs marks → p.0 < length marks → has_name inputs p ≡ false →
    IsMarked (inputs ++ p ∷ []) (set marks p.0 (length inputs))
IsMarked-push inputs marks p marked within new k q e = elim (get_push inputs p q k e) [
  | inl is ↦ (rw length-set (marked k q is).0, other is)
  | inr last ↦ rw (sym last.1, last.0) (rw length-set within, get_or-set_same marks p.0 (length inputs) 0 within)
]
  where
    other : slice_get inputs k ≡ Some q → slice_index (set marks p.0 (length inputs)) q.0 ≡ k
    other is =
        let apart : q.0 ≢ p.0 = λ same. both_ways (has_name inputs p) new (subst (λ r. has_name inputs r ≡ true) (same_position q p same)
        (has_name-at inputs k q is)) in
        get_or-set_other marks p.0 q.0 (length inputs) 0 apart ∙ (marked k q is).1

number_at : (ps : List PosId) (k : ℕ) (p : PosId) (d : ℕ) → slice_get ps k ≡ Some p → get_or (map (λ (q : PosId). q.0) ps) k d ≡ p.0
number_at [] k p d e = cc
number_at (q ∷ qs) zero p d e = ap (λ (r : PosId). r.0) (same_Some q p e)
number_at (q ∷ qs) (suc k) p d e = number_at qs k p d e

any_number : (ps : List PosId) (p : PosId) → list_any (eqb p.0) (map (λ (q : PosId). q.0) ps) ≡ has_name ps p
any_number [] p = refl
any_number (q ∷ qs) p = ap (λ b. eqb p.0 q.0 || b) (any_number qs p)

-- marked inputs stand once each
pub apart_from_marks : (inputs : List PosId) (marks : List ℕ) → IsMarked inputs marks → AreApart inputs (length marks)
apart_from_marks inputs marks marked = record {
  within = λ k p e. (marked k p e).0;
  apart = λ i j p q e f same. sym (marked i p e).1 ∙ ap (λ n. slice_index marks n) same ∙ (marked j q f).1;
}

-- inputs that stand once each are no more than the positions
pub length-le_apart : (inputs : List PosId) (count : ℕ) → AreApart inputs count → length inputs ≤ count
length-le_apart inputs count inputs_apart =
    subst (λ n. n ≤ count) (length-map inputs (λ (q : PosId). q.0)) (length-le_from_distinct_below numbers count (IsDistinct-from_apart eqb numbers distinct)
    below)
  where
    numbers : List ℕ
    numbers = map (λ (q : PosId). q.0) inputs

    distinct : (i j : ℕ) (d : ℕ) → i < j → j < length numbers → eqb (get_or numbers i d) (get_or numbers j d) ≡ false
    distinct i j d l m = false_from_ne_true (eqb (get_or numbers i d) (get_or numbers j d)) (λ is.
        let long : length numbers ≡ length inputs = length-map inputs (λ (q : PosId). q.0) in
        let first = get_there inputs i (omega arith) in
        let second = get_there inputs j (omega arith) in
        let same : first.0.0 ≡ second.0.0 = sym (number_at inputs i first.0 d first.1) ∙ eqb-true (get_or numbers i d) (get_or numbers j d) is ∙
        number_at inputs j second.0 d second.1 in
        let one : i ≡ j = inputs_apart.apart i j first.0 second.0 first.1 second.1 same in
        absurd (omega arith))

    below : (q : ℕ) → list_any (eqb q) numbers ≡ true → q < count
    below q is =
        let p : PosId = record { 0 = q } in
        let place = has_name-place inputs p (sym (any_number inputs p) ∙ is) in
        inputs_apart.within place.0 p place.1

pub length-le_marked : (inputs : List PosId) (marks : List ℕ) → IsMarked inputs marks → length inputs ≤ length marks
length-le_marked inputs marks marked = length-le_apart inputs (length marks) (apart_from_marks inputs marks marked)

-- one more input is marked
pub mark_more : (inputs : List PosId) (marks : List ℕ) (number : ℕ) (d : PosId) → AreApart inputs (length marks) → number < length inputs →
    ((k : ℕ) (p : PosId) → k < number → slice_get inputs k ≡ Some p → slice_index marks p.0 ≡ k) →
    (k : ℕ) (p : PosId) → k < number + 1 → slice_get inputs k ≡ Some p → slice_index (set marks (get_or inputs number d).0 number) p.0 ≡ k
mark_more inputs marks number d inputs_apart within before k p l e =
    let here : slice_get inputs number ≡ Some (get_or inputs number d) = slice_get-get_or inputs number d within in
    elim (cases_lt k number) [
      | inl below ↦
          let other : p.0 ≢ (get_or inputs number d).0 = λ same. let one : k ≡ number = inputs_apart.apart k number p (get_or inputs number d) e here same in
          absurd (omega arith) in
          get_or-set_other marks (get_or inputs number d).0 p.0 number 0 other ∙ before k p below e
      | inr last ↦
          let one : k ≡ number = omega arith in
          let same : p ≡ get_or inputs number d = same_Some p (get_or inputs number d) (sym e ∙ ap (slice_get inputs) one ∙ here) in
          ap (λ q. slice_index (set marks (get_or inputs number d).0 number) q.0) same
          ∙ get_or-set_same marks (get_or inputs number d).0 number 0 (inputs_apart.within number (get_or inputs number d) here)
          ∙ sym one
    ]

-- what is marked of a list is marked of a list that goes on as it
pub marked_front : (front back : List PosId) (marks : List ℕ) → IsMarked (front ++ back) marks → IsMarked front marks
marked_front front back marks marked k p e = marked k p (get_kept front back k p e)

-- a position for which the test of its mark failed is no input
pub not_input : (inputs xs : List PosId) (marks : List ℕ) (p : PosId) (mark : ℕ) (b : Bool) → IsMarked inputs marks → p.0 < length marks →
    mark ≡ get_or marks p.0 mark → xs ≡ inputs → (slice_get xs mark ≡ Some p → b ≡ true) → b ≡ false → has_name inputs p ≡ false
not_input inputs xs marks p mark b marked within read same test failed =
    let here : slice_index marks p.0 ≡ mark = get_or_from_slice_get marks p.0 mark 0 (slice_get_read marks (length marks) p.0 mark refl within read) in
    unmarked inputs marks p marked (λ is. both_ways b failed (test (rw (same, ← here) is)))

pub with_name-there : (names : List PosId) (p : PosId) → has_name names p ≡ true → with_name names p ≡ names
with_name-there names p is = cond-true (has_name names p) names (names ++ p ∷ []) is

pub with_name-new : (names : List PosId) (p : PosId) → has_name names p ≡ false → with_name names p ≡ names ++ p ∷ []
with_name-new names p is = cond-false (has_name names p) names (names ++ p ∷ []) is
