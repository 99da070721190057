-- Whether something on a list is so.
use Rattle.std.proofs.Common.{◌≡◌, ◌+◌, ◌||◌, ℕ, zero, suc, Bool, true, false, List, [], ◌∷◌, take, slice_get, Some, refl, sym, ap, ◌∙◌, inl, inr}
use Rattle.std.specs.List.{list_any}
use Rattle.std.proofs.lemmas.Bool.{or_left, or_right, or_cases}
use Rattle.std.proofs.lemmas.List.Folds.{list_any_more}
use Rattle.std.proofs.lemmas.Option.{slice_get_within, get_or_from_slice_get}

-- with one more element
pub any_next : {X : Type 0} (f : X → Bool) (xs : List X) (k : ℕ) (x : X) → slice_get xs k ≡ Some x →
    list_any f (take (k + 1) xs) ≡ (list_any f (take k xs) || f x)
any_next f xs k x e =
    list_any_more f xs k x (slice_get_within xs k x e) ∙ ap (λ y. list_any f (take k xs) || f y) (get_or_from_slice_get xs k x x e)

-- with one more that is not so
pub none_next : {X : Type 0} (f : X → Bool) (xs : List X) (k : ℕ) (x : X) → slice_get xs k ≡ Some x → false ≡ list_any f (take k xs) → f x ≡ false →
    false ≡ list_any f (take (k + 1) xs)
none_next f xs k x e none other = sym (any_next f xs k x e ∙ (ap (λ b. b || f x) (sym none) ∙ other))

-- where an element is so
pub any_at : {X : Type 0} (f : X → Bool) (xs : List X) (k : ℕ) (x : X) → slice_get xs k ≡ Some x → f x ≡ true → list_any f xs ≡ true
any_at f [] k x e h = absurd (cc)
any_at f (y ∷ ys) zero x e h = or_left (f y) (list_any f ys) (ap f (let same : y ≡ x = cc in same) ∙ h)
any_at f (y ∷ ys) (suc k) x e h = or_right (f y) (list_any f ys) (any_at f ys k x e h)

-- some element is so
pub any_there : {X : Type 0} (f : X → Bool) (xs : List X) → list_any f xs ≡ true → (k : ℕ) × (x : X) × (slice_get xs k ≡ Some x) × (f x ≡ true)
any_there f [] h = absurd (cc)
any_there f (y ∷ ys) h = elim (or_cases (f y) (list_any f ys) h) [
  | inl here ↦ (0, y, refl, here)
  | inr later ↦ let w = any_there f ys later in (suc w.0, w.1, w.2, w.3)
]
