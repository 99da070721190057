-- What is found out about many rules and places: that all hold, or the first fault, by rule and then by offset.
use Rattle.std.specs.Prelude.{◌≡◌, ◌⊎◌, ◌<◌, ◌≤◌, ◌==◌, ◌||◌, ◌&&◌, ℕ, Bool, List, [], ◌∷◌, Option, None, Some, slice_get, if◌then◌else◌, nat_lt}
use Rattle.ir_verify.specs.declared.rule.Rule.{Rule}
use Rattle.ir_verify.specs.declared.broken.Broken.{Broken}
use Rattle.ir_verify.specs.Rules.{number}

-- a has a lesser rule than b, or the same at no greater an offset
abbrev pub IsNoLater : Broken → Broken → Type 0
IsNoLater a b = (number a.rule ≤ number b.rule) × (number a.rule ≡ number b.rule → a.at ≤ b.at)

abbrev pub is_later : Broken → Broken → Bool
is_later a b = nat_lt (number b.rule) (number a.rule) || (number a.rule == number b.rule) && nat_lt b.at a.at

-- the first of what was found at two places
abbrev pub first_of : Option Broken → Option Broken → Option Broken
first_of None y = y
first_of (Some a) None = Some a
first_of (Some a) (Some b) = if is_later a b then Some b else Some a

abbrev pub broken : Rule → ℕ → Broken
broken rule at = record { rule = rule; at = at }

-- the fault of a rule, unless it is kept
abbrev pub unless : Bool → Rule → ℕ → Option Broken
unless kept rule at = if kept then None else Some (broken rule at)

-- nothing was found, and all holds and nothing fails; or the first fault of all
abbrev pub Judged : Type 0 → (Broken → Type 0) → Option Broken → Type 0
Judged Holds Fails None = Holds × ((b : Broken) → Fails b → ⊥)
Judged Holds Fails (Some a) = Fails a × ((b : Broken) → Fails b → IsNoLater a b)

-- ---- rules at one offset

-- what each of these rules demands holds
abbrev pub AllIn : List Rule → (Rule → Type 0) → Type 0
AllIn [] Demands = Unit {0}
AllIn (r ∷ rs) Demands = Demands r × AllIn rs Demands

-- a rule fails at an offset
abbrev pub BreaksAt : Rule → ℕ → Type 0 → Broken → Type 0
BreaksAt rule at Holds b = (b.rule ≡ rule) × (b.at ≡ at) × (Holds → ⊥)

-- one of these rules does
abbrev pub OneIn : List Rule → ℕ → (Rule → Type 0) → Broken → Type 0
OneIn [] at Demands b = ⊥
OneIn (r ∷ rs) at Demands b = BreaksAt r at (Demands r) b ⊎ OneIn rs at Demands b

-- these rules at one offset are judged
abbrev pub JudgedIn : List Rule → ℕ → (Rule → Type 0) → Option Broken → Type 0
JudgedIn rs at Demands found = Judged (AllIn rs Demands) (OneIn rs at Demands) found

-- all rules hold at a place, or one fails, at its offset
abbrev pub Keeps : (Rule → Type 0) → Type 0
Keeps Demands = (r : Rule) → Demands r

abbrev pub Breaks : ℕ → (Rule → Type 0) → Broken → Type 0
Breaks at Demands b = (b.at ≡ at) × (Demands b.rule → ⊥)

-- ---- the elements of a list

-- the fault is one of an element of a list
abbrev pub IsOf : {X : Type 0} → List X → (ℕ → X → Broken → Type 0) → Broken → Type 0
IsOf {X} xs Fails b = (k : ℕ) × (x : X) × (slice_get xs k ≡ Some x) × Fails k x b
