-- What holds of each element of a list, read from the front.
use Rattle.std.proofs.Common.{◌≡◌, ◌+◌, ◌<◌, ◌≤◌, ◌∙◌, ◌↔◌, ℕ, zero, suc, List, [], ◌∷◌, length, map, slice_get, get_or, Some, None}
use Rattle.std.proofs.Common.{arith, ap, subst, sym, refl, inl, inr, IsTrue, true}
use Rattle.std.specs.Option.{option_map}
use Rattle.std.proofs.lemmas.Option.{slice_get_within, slice_get-map, slice_get-get_or}
use Rattle.std.proofs.lemmas.Bool.Decides.{eqb_tells}
use Rattle.ir_module.specs.WellFormed.{Each}
use Rattle.ir_module.proofs.Runs.{read_at}

-- P holds of each of the first n elements, at its place
abbrev pub EachOf : {X : Type 0} → ℕ → List X → (ℕ → X → Type 0) → Type 0
EachOf {X} n xs P = (k : ℕ) (x : X) → k < n → slice_get xs k ≡ Some x → P k x

-- what holds of the first i elements and of the next holds of the first i + 1
pub one_more : {X : Type 0} → (P : ℕ → X → Type 0) (xs : List X) (i : ℕ) (x : X) → EachOf i xs P → slice_get xs i ≡ Some x → P i x
    → EachOf (i + 1) xs P
one_more {X} P xs i x h e p k y l f = elim (eqb_tells k i) [
  | inl (_, same) ↦
      (let here : slice_get xs i ≡ Some y = subst (λ (n : ℕ). slice_get xs n ≡ Some y) same f in
      let is : x ≡ y = cc in
      subst (λ (n : ℕ). P n y) (sym same) (subst (λ (z : X). P i z) is p))
  | inr (_, other) ↦ h k y (omega arith) f
]

-- the same, where the element was read of a slice of the list
pub one_more_read : {X : Type 0} → (P : ℕ → X → Type 0) (xs ys : List X) (i : ℕ) (x : X) → ys ≡ xs → EachOf i xs P
    → i < length ys → x ≡ get_or ys i x → P i x → EachOf (i + 1) xs P
one_more_read {X} P xs ys i x same h l is p =
    one_more P xs i x h (read_at xs ys i x same (subst (λ (zs : List X). i < length zs) same l) is) p

-- the same, where it was copied
pub one_more_copied : {X : Type 0} → (P : ℕ → X → Type 0) (xs ys : List X) (i : ℕ) (d : X) → ys ≡ xs → EachOf i xs P
    → i < length ys → P i (get_or ys i d) → EachOf (i + 1) xs P
one_more_copied {X} P xs ys i d same h l p =
    let x : X = get_or ys i d in
    one_more P xs i x h (subst (λ (zs : List X). slice_get zs i ≡ Some x) same (slice_get-get_or ys i d l)) p

-- past the end of the list nothing is added
pub one_more_none : {X : Type 0} → (P : ℕ → X → Type 0) (xs : List X) (i : ℕ) → EachOf i xs P → None ≡ slice_get xs i → EachOf (i + 1) xs P
one_more_none {X} P xs i h e k y l f = elim (eqb_tells k i) [
  | inl (_, same) ↦
      (let here : slice_get xs i ≡ Some y = subst (λ (n : ℕ). slice_get xs n ≡ Some y) same f in
      let no : ⊥ = cc in
      absurd no)
  | inr (_, other) ↦ h k y (omega arith) f
]

-- what holds of as many elements as there are holds of each
pub each_of_all : {X : Type 0} → (P : ℕ → X → Type 0) (xs : List X) (n : ℕ) → EachOf n xs P → length xs ≤ n → Each xs P
each_of_all P xs n h l k x e = let inside = slice_get_within xs k x e in h k x (omega arith) e

-- what holds of each image holds of each element for it
pub each_mapped : {X Y : Type 0} → (P : ℕ → Y → Type 0) (v : X → Y) (xs : List X) → Each xs (λ k x. P k (v x)) → Each (map v xs) P
each_mapped P v [] h k y e = cc
each_mapped P v (x ∷ xs) h zero y e = let is : v x ≡ y = cc in subst (P 0) is (h 0 x refl)
each_mapped P v (x ∷ xs) h (suc k) y e = each_mapped (λ n z. P (suc n) z) v xs (λ n z f. h (suc n) z f) k y e

-- and the other way round
pub each_unmapped : {X Y : Type 0} → (P : ℕ → Y → Type 0) (v : X → Y) (xs : List X) → Each (map v xs) P → Each xs (λ k x. P k (v x))
each_unmapped P v xs h k x e = h k (v x) (slice_get-map v xs k ∙ ap (option_map v) e)

-- what holds of each element holds of the first and of each of the others
pub each_headed : {X : Type 0} → (Q : X → Type 0) (x : X) (xs : List X) → Each (x ∷ xs) (λ k y. Q y) ↔ (Q x × Each xs (λ k y. Q y))
each_headed {X} Q x xs = (
  λ h. (h 0 x refl, λ k y e. h (suc k) y e),
  λ h. headed Q x xs h.0 h.1,
)
  where
    headed : {X : Type 0} → (Q : X → Type 0) (x : X) (xs : List X) → Q x → Each xs (λ k y. Q y) → Each (x ∷ xs) (λ k y. Q y)
    headed Q x xs q h zero y e = let is : x ≡ y = cc in subst Q is q
    headed Q x xs q h (suc k) y e = h k y e

-- what holds of each number from `low` to before i, and of i, holds of each to before i + 1
pub one_further : (P : ℕ → Type 0) (low i : ℕ) → ((k : ℕ) → low ≤ k → k < i → P k) → P i → (k : ℕ) → low ≤ k → k < i + 1 → P k
one_further P low i h p k above below = elim (eqb_tells k i) [
  | inl (_, same) ↦ subst P (sym same) p
  | inr (_, other) ↦ h k above (omega arith)
]

-- a loop that has gone through the list answers truly
pub answered : {X : Type 0} → (P : ℕ → X → Type 0) (xs : List X) (n : ℕ) → EachOf n xs P → length xs ≤ n → IsTrue true ↔ Each xs P
answered P xs n h l = (λ t. each_of_all P xs n h l, λ e. refl)
