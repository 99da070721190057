-- General lemmas that std does not state, named as std names its own: `get` is what stands at a place of a list.
use Rattle.std.proofs.Common.{◌≡◌, ◌≢◌, ◌⊎◌, ◌+◌, ◌<◌, ◌==◌, ℕ, zero, suc, true, not, List, [], ◌∷◌, ◌++◌, length, map, replicate, set, slice_get, Some, refl}
use Rattle.std.proofs.Common.{sym, ap, inl, inr, arith}
use Rattle.std.proofs.lemmas.Option.{none-some, same_Some}

-- ---- numbers

-- what is not 0 is more than 0
pub positive : (n : ℕ) → not (n == 0) ≡ true → 0 < n
positive zero e = absurd (cc)
positive (suc n) e = omega arith

-- ---- what stands at a place

-- something stands at each place of a list
pub get_there : {X : Type 0} (xs : List X) (k : ℕ) → k < length xs → (x : X) × (slice_get xs k ≡ Some x)
get_there [] k l = absurd (omega arith)
get_there (x ∷ xs) zero l = (x, refl)
get_there (x ∷ xs) (suc k) l = get_there xs k (omega (arith, l))

-- what stands in a list stands there in a longer one
pub get_kept : {X : Type 0} (xs ys : List X) (k : ℕ) (x : X) → slice_get xs k ≡ Some x → slice_get (xs ++ ys) k ≡ Some x
get_kept [] ys k x e = absurd (none-some x e)
get_kept (y ∷ xs) ys zero x e = e
get_kept (y ∷ xs) ys (suc k) x e = get_kept xs ys k x e

-- within the first of two lists, both together are as the first
pub get_left : {X : Type 0} (xs ys : List X) (k : ℕ) → k < length xs → slice_get (xs ++ ys) k ≡ slice_get xs k
get_left [] ys k l = absurd (omega arith)
get_left (x ∷ xs) ys zero l = refl
get_left (x ∷ xs) ys (suc k) l = get_left xs ys k (omega (arith, l))

-- behind the first of two lists stands the second
pub get_right : {X : Type 0} (xs ys : List X) (k n : ℕ) → k ≡ length xs + n → slice_get (xs ++ ys) k ≡ slice_get ys n
get_right [] ys k n e = ap (slice_get ys) (omega (arith, e))
get_right (x ∷ xs) ys zero n e = absurd (omega (arith, e))
get_right (x ∷ xs) ys (suc k) n e = get_right xs ys k n (omega (arith, e))

-- behind the last of a list stands what was put there
pub get_behind : {X : Type 0} (xs : List X) (x : X) (ys : List X) → slice_get (xs ++ x ∷ ys) (length xs) ≡ Some x
get_behind [] x ys = refl
get_behind (y ∷ xs) x ys = get_behind xs x ys

-- what stands in a list with one more stood there before, or is the new one at the end
pub get_push : {X : Type 0} (xs : List X) (x y : X) (k : ℕ) → slice_get (xs ++ x ∷ []) k ≡ Some y → (slice_get xs k ≡ Some y) ⊎ ((k ≡ length xs) × (x ≡ y))
get_push [] x y zero e = inr (refl, same_Some x y e)
get_push [] x y (suc k) e = absurd (none-some y e)
get_push (z ∷ xs) x y zero e = inl e
get_push (z ∷ xs) x y (suc k) e = elim (get_push xs x y k e) [
  | inl before ↦ inl before
  | inr last ↦ inr (ap suc last.0, last.1)
]

-- what stands in a list of which one place was written is what was written, or it stood there before
pub get_set : {X : Type 0} (xs : List X) (i : ℕ) (x : X) (k : ℕ) (y : X) → slice_get (set xs i x) k ≡ Some y
    → ((k ≡ i) × (x ≡ y)) ⊎ ((k ≢ i) × (slice_get xs k ≡ Some y))
get_set [] i x k y e = absurd (none-some y e)
get_set (z ∷ xs) zero x zero y e = inl (refl, same_Some x y e)
get_set (z ∷ xs) zero x (suc k) y e = inr ((λ h. omega (arith, h)), e)
get_set (z ∷ xs) (suc i) x zero y e = inr ((λ h. omega (arith, h)), e)
get_set (z ∷ xs) (suc i) x (suc k) y e = elim (get_set xs i x k y e) [
  | inl here ↦ inl (ap suc here.0, here.1)
  | inr other ↦ inr ((λ h. other.0 (omega (arith, h))), other.1)
]

-- at the place that was written stands what was written
pub get_set_same : {X : Type 0} (xs : List X) (i : ℕ) (x : X) → i < length xs → slice_get (set xs i x) i ≡ Some x
get_set_same [] i x l = absurd (omega arith)
get_set_same (y ∷ xs) zero x l = refl
get_set_same (y ∷ xs) (suc i) x l = get_set_same xs i x (omega (arith, l))

-- every other place is as it was
pub get_set_other : {X : Type 0} (xs : List X) (i k : ℕ) (x : X) → k ≢ i → slice_get (set xs i x) k ≡ slice_get xs k
get_set_other [] i k x ne = refl
get_set_other (y ∷ xs) zero zero x ne = absurd (ne refl)
get_set_other (y ∷ xs) zero (suc k) x ne = refl
get_set_other (y ∷ xs) (suc i) zero x ne = refl
get_set_other (y ∷ xs) (suc i) (suc k) x ne = get_set_other xs i k x (λ h. ne (ap suc h))

-- to write what stands there changes nothing
pub set_same : {X : Type 0} (xs : List X) (i : ℕ) (x : X) → slice_get xs i ≡ Some x → set xs i x ≡ xs
set_same [] i x e = refl
set_same (y ∷ xs) zero x e = ap (λ z. z ∷ xs) (sym (same_Some y x e))
set_same (y ∷ xs) (suc i) x e = ap (λ l. y ∷ l) (set_same xs i x e)

-- only x stands in a list of x alone
pub get_replicate : {X : Type 0} (n : ℕ) (x : X) (k : ℕ) (y : X) → slice_get (replicate n x) k ≡ Some y → x ≡ y
get_replicate zero x k y e = absurd (none-some y e)
get_replicate (suc n) x zero y e = same_Some x y e
get_replicate (suc n) x (suc k) y e = get_replicate n x k y e

-- ---- lists that are mapped

-- two functions that agree on what stands in a list give one list
pub map_agree : {X Y : Type 0} (f g : X → Y) (xs : List X) → ((k : ℕ) (x : X) → slice_get xs k ≡ Some x → f x ≡ g x) → map f xs ≡ map g xs
map_agree f g [] same = refl
map_agree f g (x ∷ xs) same =
    let here = same 0 x refl in
    let rest = map_agree f g xs (λ k. same (suc k)) in
    λ i. here i ∷ rest i

-- a function that gives y on each gives a list of y alone
pub map_all : {X Y : Type 0} (f : X → Y) (y : Y) (xs : List X) → ((k : ℕ) (x : X) → slice_get xs k ≡ Some x → f x ≡ y) → map f xs ≡ replicate (length xs) y
map_all f y [] same = refl
map_all f y (x ∷ xs) same =
    let here = same 0 x refl in
    let rest = map_all f y xs (λ k. same (suc k)) in
    λ i. here i ∷ rest i
