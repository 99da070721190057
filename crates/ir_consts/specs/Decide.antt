-- Decisions: each says of a claim that it holds, or that it does not.
use Rattle.std.proofs.Common.{◌≡◌, ℕ, zero, suc, ◌<◌, ◌⊎◌, inl, inr, Bool, true, false, List, length, slice_get, Option, None, Some, IsSome, suc-le-suc}
use Rattle.std.proofs.Common.{Result, Ok, Err, refl, subst, sym, ap}
use Rattle.std.specs.Prelude.{unwrap_or, is_ok}
use Rattle.std.proofs.Math.Nat.{not-suc-le-zero, le_of_suc-le-suc, zero-lt-suc}
use Rattle.std.proofs.lemmas.Bool.{cases_eq, false≢true}
use Rattle.std.proofs.lemmas.Option.{none-some, slice_get_within}

abbrev pub Decided : Type 0 → Type 0
Decided P = P ⊎ (P → ⊥)

-- of a claim that says the same
pub same : {P Q : Type 0} → (P → Q) → (Q → P) → Decided P → Decided Q
same f g (inl p) = inl (f p)
same f g (inr n) = inr (λ q. n (g q))

pub both : {P Q : Type 0} → Decided P → Decided Q → Decided (P × Q)
both (inl p) (inl q) = inl (p, q)
both (inl p) (inr n) = inr (λ x. n x.1)
both (inr n) d = inr (λ x. n x.0)

pub denied : {P : Type 0} → Decided P → Decided (P → ⊥)
denied (inl p) = inr (λ n. n p)
denied (inr n) = inl n

pub always : Decided (Unit {0})
always = inl tt

pub never : Decided ⊥
never = inr (λ h. h)

-- ---- equations
pub numbers : (m n : ℕ) → Decided (m ≡ n)
numbers m n = cases_eq m n

pub bools : (a b : Bool) → Decided (a ≡ b)
bools true true = inl refl
bools true false = inr (λ e. false≢true (sym e))
bools false true = inr false≢true
bools false false = inl refl

pub some_is : {X : Type 0} (x y : X) → Some x ≡ Some y → x ≡ y
some_is x y e = ap (λ o. unwrap_or o x) e

pub options : (a b : Option ℕ) → Decided (a ≡ b)
options None None = inl refl
options None (Some n) = inr (none-some n)
options (Some m) None = inr (λ e. none-some m (sym e))
options (Some m) (Some n) = same (ap Some) (some_is m n) (numbers m n)

pub some : {X : Type 0} → (o : Option X) → Decided (IsSome o)
some None = inr false≢true
some (Some x) = inl refl

pub ok : {X E : Type 0} → (r : Result X E) → Decided ((x : X) × (r ≡ Ok x))
ok (Ok x) = inl (x, refl)
ok (Err e) = inr (λ h. false≢true (ap is_ok h.1))

-- ---- claims of each thing
-- of the one thing, if there is one
pub one : {X : Type 0} (P : X → Type 0) → ((x : X) → Decided (P x)) → (o : Option X) → Decided ((x : X) → o ≡ Some x → P x)
one P d None = inl (λ x at. absurd (none-some x at))
one P d (Some y) = same (λ p x at. subst P (some_is y x at) p) (λ h. h y refl) (d y)

first_and_rest : (P : ℕ → Type 0) (n : ℕ) → P 0 → ((i : ℕ) → i < n → P (suc i)) → (i : ℕ) → i < suc n → P i
first_and_rest P n p h zero l = p
first_and_rest P n p h (suc i) l = h i (le_of_suc-le-suc l)

-- of each number below one
pub below : (P : ℕ → Type 0) → ((i : ℕ) → Decided (P i)) → (n : ℕ) → Decided ((i : ℕ) → i < n → P i)
below P d zero = inl (λ i l. absurd (not-suc-le-zero l))
below P d (suc n) = same (λ h. first_and_rest P n h.0 h.1) (λ h. (h 0 (zero-lt-suc n), λ i l. h (suc i) (suc-le-suc l)))
    (both (d 0) (below (λ i. P (suc i)) (λ i. d (suc i)) n))

-- of each thing of a list, with its place
pub each : {X : Type 0} (P : ℕ → X → Type 0) → ((k : ℕ) (x : X) → Decided (P k x)) → (xs : List X)
    → Decided ((k : ℕ) (x : X) → slice_get xs k ≡ Some x → P k x)
each {X} P d xs = same (λ h k x at. h k (slice_get_within xs k x at) x at) (λ h k l x at. h k x at)
    (below (λ k. (x : X) → slice_get xs k ≡ Some x → P k x) (λ k. one (P k) (d k) (slice_get xs k)) (length xs))
