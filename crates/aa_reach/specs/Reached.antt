-- The facts of reach: which bodies a row does not reach by calls.
use Rattle.std.specs.Prelude.{◌≡◌, ℕ, Bool, true, false}
use Rattle.ir_module.specs.declared.module.Module.{Module}
use Rattle.facts.specs.declared.pos.Pos.{Pos}
use Rattle.facts.specs.declared.pos.Pos.TheVariants as pos
use Rattle.facts.specs.Facts.{Fact}
use Rattle.facts.specs.Masks.{is_bit}
use Rattle.facts.specs.Names.{Speaks}
use Rattle.facts.specs.Justified.{Rule}

-- the position is a word of a row
abbrev pub is_reach : Pos → Bool
is_reach (pos.Reach row k) = true
is_reach _ = false

-- what is asked of a bit of a row: that its rule holds, where the position has it
abbrev pub AsksReach : Module → (Fact → Bool) → Pos → ℕ → Type 0
AsksReach m held p bit = is_reach p ≡ true → is_bit m p bit ≡ true → Rule m held p bit

-- what the rules of reach speak of at a position
abbrev pub SpeaksReach : Module → Pos → Fact → Type 0
SpeaksReach m p y = (bit : ℕ) × (is_reach p ≡ true) × (is_bit m p bit ≡ true) × Speaks m p bit y
