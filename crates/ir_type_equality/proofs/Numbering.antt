-- Things that are numbered by the places of their contents in a list.
use Rattle.std.proofs.Common.{◌≡◌, ◌+◌, ◌<◌, ◌≤◌, ◌↔◌, ◌∙◌, ◌⊎◌, ℕ, zero, suc, Bool, true, false, List, [], ◌∷◌, ◌++◌, length, slice_get, get_or, Some, cond}
use Rattle.std.proofs.Common.{arith, ap, subst, sym, refl, inl, inr}
use Rattle.std.specs.List.{IsDistinct}
use Rattle.std.proofs.lemmas.Bool.{true≢false}
use Rattle.std.proofs.lemmas.Bool.Decides.{eqb_tells}
use Rattle.std.proofs.lemmas.Option.{slice_get_within, get_or_from_slice_get}
use Rattle.std.proofs.lemmas.Map.Keys.{apart_from_distinct}

-- no two keys say one content
abbrev pub AreApart : {K : Type 0} → (K → List ℕ) → List K → Type 0
AreApart {K} said keys = (i j : ℕ) (a b : K) → slice_get keys i ≡ Some a → slice_get keys j ≡ Some b → said a ≡ said b → i ≡ j

-- the first n things have numbers, each the place of a key that says its content
pub record AreNumbered {K : Type 0} (said : K → List ℕ) (content : ℕ → List ℕ) (keys : List K) (numbers : List ℕ) (n : ℕ) : Type 0 where
  pub few : length keys ≤ n
  pub long : length numbers ≡ n
  pub apart : AreApart said keys
  pub each : (t : ℕ) → t < n → (r : ℕ) × (k : K) × (slice_get numbers t ≡ Some r) × (slice_get keys r ≡ Some k) × (said k ≡ content t)

-- an element keeps its place where one more is put at the end
pub kept : {X : Type 0} → (xs : List X) (y : X) (i : ℕ) (x : X) → slice_get xs i ≡ Some x → slice_get (xs ++ y ∷ []) i ≡ Some x
kept [] y i x e = let no : ⊥ = cc in absurd no
kept (z ∷ xs) y zero x e = e
kept (z ∷ xs) y (suc i) x e = kept xs y i x e

-- the one that was put there stands at the end
pub put : {X : Type 0} → (xs : List X) (y : X) (i : ℕ) → i ≡ length xs → slice_get (xs ++ y ∷ []) i ≡ Some y
put [] y zero e = refl
put [] y (suc i) e = absurd (omega (arith, e))
put (x ∷ xs) y zero e = absurd (omega (arith, e))
put (x ∷ xs) y (suc i) e = put xs y i (omega (arith, e))

-- a key keeps its place where one more is inserted
pub kept_inserted : {K : Type 0} → (is_there : Bool) (keys : List K) (y : K) (i : ℕ) (k : K) → slice_get keys i ≡ Some k
    → slice_get (cond is_there keys (keys ++ y ∷ [])) i ≡ Some k
kept_inserted true keys y i k e = e
kept_inserted false keys y i k e = kept keys y i k e

-- one more thing, whose content the key at its number says
pub one_more : {K : Type 0} → (said : K → List ℕ) (content : ℕ → List ℕ) (keys more : List K) (numbers : List ℕ) (n r : ℕ) (k : K)
    → AreNumbered said content keys numbers n → ((i : ℕ) (x : K) → slice_get keys i ≡ Some x → slice_get more i ≡ Some x) → length more ≤ n + 1 →
    AreApart said more
    → slice_get more r ≡ Some k → said k ≡ content n → AreNumbered said content more (numbers ++ r ∷ []) (n + 1)
one_more {K} said content keys more numbers n r k h grows few apart at says = record {
  few = few;
  apart = apart;
  long = longer numbers n h.long;
  each = λ t l. elim (eqb_tells t n) [
    | inl (_, same) ↦ (r, k, put numbers r t (omega (arith, h.long, same)), at, says ∙ ap content (sym same))
    | inr (_, other) ↦
        (let old = h.each t (omega (arith, l, other)) in
        (old.0, old.1, kept numbers r t old.0 old.2, grows old.0 old.1 old.3, old.4))
  ];
}
  where
    longer : (xs : List ℕ) (m : ℕ) → length xs ≡ m → length (xs ++ r ∷ []) ≡ m + 1
    longer [] m e = omega (arith, e)
    longer (x ∷ xs) zero e = absurd (omega (arith, e))
    longer (x ∷ xs) (suc m) e = let rest : length (xs ++ r ∷ []) ≡ m + 1 = longer xs m (omega (arith, e)) in omega (arith, rest)

-- keys of which no two are equal stand at one place each
pub one_place : {K : Type 0} → (eq : K → K → Bool) (keys : List K) (i j : ℕ) (a b : K) → IsDistinct eq keys → slice_get keys i ≡ Some a
    → slice_get keys j ≡ Some b → eq a b ≡ true → eq b a ≡ true → i ≡ j
one_place {K} eq keys i j a b apart at_i at_j same back = elim (eqb_tells i j) [
  | inl (_, is) ↦ is
  | inr (_, other) ↦
      (let a_is : get_or keys i a ≡ a = get_or_from_slice_get keys i a a at_i in
      let b_is : get_or keys j a ≡ b = get_or_from_slice_get keys j b a at_j in
      let below_i = slice_get_within keys i a at_i in
      let below_j = slice_get_within keys j b at_j in
      by_order a_is b_is below_i below_j (order i j other))
]
  where
    order : (x y : ℕ) → (x ≡ y → ⊥) → (x < y) ⊎ (y < x)
    order zero zero n = absurd (n refl)
    order zero (suc y) n = inl (omega arith)
    order (suc x) zero n = inr (omega arith)
    order (suc x) (suc y) n = elim (order x y (λ e. n (ap suc e))) [ inl l ↦ inl (omega (arith, l)) | inr l ↦ inr (omega (arith, l)) ]

    by_order : get_or keys i a ≡ a → get_or keys j a ≡ b → i < length keys → j < length keys → (i < j) ⊎ (j < i) → i ≡ j
    by_order a_is b_is below_i below_j (inl l) =
        let f : eq (get_or keys i a) (get_or keys j a) ≡ false = apart_from_distinct eq keys i j a apart l below_j in
        let t : eq (get_or keys i a) (get_or keys j a) ≡ true = ap (λ x. eq x (get_or keys j a)) a_is ∙ ap (eq a) b_is ∙ same in
        absurd (true≢false (sym t ∙ f))
    by_order a_is b_is below_i below_j (inr l) =
        let f : eq (get_or keys j a) (get_or keys i a) ≡ false = apart_from_distinct eq keys j i a apart l below_i in
        let t : eq (get_or keys j a) (get_or keys i a) ≡ true = ap (λ x. eq x (get_or keys i a)) b_is ∙ ap (eq b) a_is ∙ back in
        absurd (true≢false (sym t ∙ f))

-- keys of which no two are equal say contents that differ
pub apart_by : {K : Type 0} → (eq : K → K → Bool) (said : K → List ℕ) (keys : List K) → ((a b : K) → said a ≡ said b → eq a b ≡ true) → IsDistinct eq keys
    → AreApart said keys
apart_by eq said keys is apart i j a b at_i at_j same = one_place eq keys i j a b apart at_i at_j (is a b same) (is b a (sym same))

-- two things have one number exactly where their contents are one
pub told_apart : {K : Type 0} → (said : K → List ℕ) (content : ℕ → List ℕ) (keys : List K) (numbers : List ℕ) (n t u : ℕ)
    → AreNumbered said content keys numbers n → t < n → u < n → (slice_get numbers t ≡ slice_get numbers u) ↔ (content t ≡ content u)
told_apart {K} said content keys numbers n t u h lt lu =
    let x = h.each t lt in
    let y = h.each u lu in (
      λ same.
          let one : x.0 ≡ y.0 = cc in
          let key : slice_get keys x.0 ≡ Some y.1 = subst (λ (r : ℕ). slice_get keys r ≡ Some y.1) (sym one) y.3 in
          let keys_one : x.1 ≡ y.1 = cc in
          sym x.4 ∙ ap said keys_one ∙ y.4,
      λ same.
          let one : x.0 ≡ y.0 = h.apart x.0 y.0 x.1 y.1 x.3 y.3 (x.4 ∙ same ∙ sym y.4) in
          x.2 ∙ ap Some one ∙ sym y.2,
    )
