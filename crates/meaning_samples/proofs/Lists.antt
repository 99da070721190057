-- Tests of lists, and what they say.
use Rattle.std.proofs.Common.{◌≡◌, ◌⊎◌, inl, inr, ℕ, zero, suc, ◌<◌, ◌==◌, ◌&&◌, ◌||◌, not, Bool, true, false, List, [], ◌∷◌, slice_get, Some}
use Rattle.std.proofs.Common.{refl, sym, ap, subst, ◌∙◌, true≢false, arith}
use Rattle.std.specs.List.{list_any, list_all}
use Rattle.ir_machine.specs.Memory.{all_below}
use Rattle.std.proofs.lemmas.Bool.{and_parts, or_cases}
use Rattle.std.proofs.lemmas.Bool.Decides.{eqb_tells}

-- a test does not answer both
pub clash : {A : Type 0} (b : Bool) → b ≡ true → b ≡ false → A
clash b t f = absurd (true≢false (sym t ∙ f))

pub not_false : (b : Bool) → not b ≡ false → b ≡ true
not_false true e = refl
not_false false e = sym e

pub not_true : (b : Bool) → not b ≡ true → b ≡ false
not_true true e = sym e
not_true false e = refl

pub false_or : (x y : Bool) → (x || y) ≡ false → (x ≡ false) × (y ≡ false)
false_or true y e = absurd (true≢false e)
false_or false y e = (refl, e)

pub false_and : (x y : Bool) → (x && y) ≡ false → (x ≡ false) ⊎ (y ≡ false)
false_and true y e = inr e
false_and false y e = inl refl

pub both_true : (x y : Bool) → x ≡ true → y ≡ true → (x && y) ≡ true
both_true x y s t = subst (λ b. (b && y) ≡ true) (sym s) t

-- a number is itself
pub same_number : (n : ℕ) → (n == n) ≡ true
same_number n = elim (eqb_tells n n) [
  | inl (t, is) ↦ t
  | inr (t, other) ↦ absurd (other refl)
]

-- each element passes
pub all_at : {X : Type 0} (p : X → Bool) (xs : List X) (k : ℕ) (x : X) → list_all p xs ≡ true → slice_get xs k ≡ Some x → p x ≡ true
all_at p [] k x all at = cc
all_at p (y ∷ ys) zero x all at = let e : y ≡ x = cc in subst (λ z. p z ≡ true) e (and_parts (p y) (list_all p ys) all).0
all_at p (y ∷ ys) (suc k) x all at = all_at p ys k x (and_parts (p y) (list_all p ys) all).1 at

-- one does not
pub not_all : {X : Type 0} (p : X → Bool) (xs : List X) → list_all p xs ≡ false → (k : ℕ) × (x : X) × (slice_get xs k ≡ Some x) × (p x ≡ false)
not_all p [] e = absurd (true≢false e)
not_all p (y ∷ ys) e = elim (false_and (p y) (list_all p ys) e) [
  | inl fails ↦ (0, y, refl, fails)
  | inr fails ↦ let later = not_all p ys fails in (suc later.0, later.1, later.2, later.3)
]

-- one passes
pub any_there : {X : Type 0} (p : X → Bool) (xs : List X) → list_any p xs ≡ true → (k : ℕ) × (x : X) × (slice_get xs k ≡ Some x) × (p x ≡ true)
any_there p [] e = absurd (true≢false (sym e))
any_there p (y ∷ ys) e = elim (or_cases (p y) (list_any p ys) e) [
  | inl so ↦ (0, y, refl, so)
  | inr so ↦ let later = any_there p ys so in (suc later.0, later.1, later.2, later.3)
]

-- where one passes, some do
pub any_at : {X : Type 0} (p : X → Bool) (xs : List X) (k : ℕ) (x : X) → slice_get xs k ≡ Some x → p x ≡ true → list_any p xs ≡ true
any_at p [] k x at so = cc
any_at p (y ∷ ys) zero x at so = let e : y ≡ x = cc in subst (λ b. (b || list_any p ys) ≡ true) (sym (ap p e ∙ so)) refl
any_at p (y ∷ ys) (suc k) x at so = by (p y) (any_at p ys k x at so)
  where
    by : (b : Bool) → list_any p ys ≡ true → (b || list_any p ys) ≡ true
    by true later = refl
    by false later = later

-- every number below n passes
pub below_at : (n : ℕ) (test : ℕ → Bool) → all_below n test ≡ true → (k : ℕ) → k < n → test k ≡ true
below_at zero test all k low = absurd (omega (arith, low))
below_at (suc n) test all k low =
    let parts = and_parts (test n) (all_below n test) all in
    elim (eqb_tells k n) [
      | inl (t, is) ↦ subst (λ j. test j ≡ true) (sym is) parts.0
      | inr (t, other) ↦ below_at n test parts.1 k (omega (arith, low, other))
    ]
