-- What tests answer that end early.
use Rattle.std.proofs.Common.{◌≡◌, ◌<◌, ◌↔◌, ◌∙◌, ℕ, Bool, false, List, length, get_or, slice_get, Some, IsTrue, sym}
use Rattle.std.proofs.lemmas.Bool.{true≢false}
use Rattle.std.proofs.lemmas.Option.{slice_get-get_or}
use Rattle.ir_module.specs.WellFormed.{Each}

-- what a test refuses does not hold
pub refused : {P : Type 0} → (b : Bool) → IsTrue b ↔ P → b ≡ false → P → ⊥
refused b h e p = true≢false (sym (h.1 p) ∙ e)

-- a test that refuses answers for what does not hold
pub denied : {P : Type 0} → (P → ⊥) → IsTrue false ↔ P
denied never = (λ t. absurd (true≢false (sym t)), λ p. absurd (never p))

-- a list with an element of which P does not hold
pub each_broken : {X : Type 0} → (P : ℕ → X → Type 0) (xs : List X) (i : ℕ) (d : X) → i < length xs → (P i (get_or xs i d) → ⊥) → IsTrue false ↔ Each xs P
each_broken {X} P xs i d l never = denied {P = Each xs P} (λ h. never (h i (get_or xs i d) (slice_get-get_or xs i d l)))

-- the same, where the element is there
pub each_denied : {X : Type 0} → (P : ℕ → X → Type 0) (xs : List X) (i : ℕ) (x : X) → slice_get xs i ≡ Some x → (P i x → ⊥) → IsTrue false ↔ Each xs P
each_denied {X} P xs i x at never = denied {P = Each xs P} (λ h. never (h i x at))

-- the second of two tests, where the first holds
pub second : {P Q : Type 0} → (b : Bool) → P → IsTrue b ↔ Q → IsTrue b ↔ (P × Q)
second b p h = (λ t. (p, h.0 t), λ e. h.1 e.1)

-- the first of two tests, where it is refused
pub first : {P Q : Type 0} → (b : Bool) → IsTrue b ↔ P → b ≡ false → IsTrue b ↔ (P × Q)
first b h e = (λ t. absurd (true≢false (sym t ∙ e)), λ pq. h.1 pq.0)
