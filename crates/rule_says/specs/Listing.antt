-- What is met in for each element of a list.
use Rattle.std.specs.Prelude.{◌≡◌, ◌<◌, ℕ, Bool, List, slice_get, Some}
use Rattle.facts.specs.declared.pos.Pos.{Pos}
use Rattle.facts.specs.Facts.{Fact}

-- what is asked for each of the first k elements
abbrev pub AskFirst : {X : Type 0} → ℕ → List X → (ℕ → X → (Fact → Bool) → Pos → ℕ → Type 0) → (Fact → Bool) → Pos → ℕ → Type 0
AskFirst {X} k xs asks held p bit = (j : ℕ) (x : X) → j < k → slice_get xs j ≡ Some x → asks j x held p bit

-- what is spoken of for one of them
abbrev pub SpeakFirst : {X : Type 0} → ℕ → List X → (ℕ → X → Pos → Fact → Type 0) → Pos → Fact → Type 0
SpeakFirst {X} k xs speaks p y = (j : ℕ) × (x : X) × (j < k) × (slice_get xs j ≡ Some x) × speaks j x p y

-- what is asked for each element
abbrev pub AskAll : {X : Type 0} → List X → (ℕ → X → (Fact → Bool) → Pos → ℕ → Type 0) → (Fact → Bool) → Pos → ℕ → Type 0
AskAll {X} xs asks held p bit = (j : ℕ) (x : X) → slice_get xs j ≡ Some x → asks j x held p bit

-- what is spoken of for one element
abbrev pub SpeakAny : {X : Type 0} → List X → (ℕ → X → Pos → Fact → Type 0) → Pos → Fact → Type 0
SpeakAny {X} xs speaks p y = (j : ℕ) × (x : X) × (slice_get xs j ≡ Some x) × speaks j x p y
