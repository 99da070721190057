-- The facts of what is passed and returned: what pointer parameters of bodies have at each entry, and what bodies return.
use Rattle.std.specs.Prelude.{◌≡◌, ℕ, Bool, true, false}
use Rattle.ir_module.specs.declared.module.Module.{Module}
use Rattle.facts.specs.declared.pos.Pos.{Pos}
use Rattle.facts.specs.declared.pos.Pos.TheVariants as pos
use Rattle.facts.specs.Facts.{Fact}
use Rattle.facts.specs.Masks.{is_bit}
use Rattle.facts.specs.Names.{Speaks}
use Rattle.facts.specs.Justified.{Rule}

-- the position is an entry or a return
abbrev pub is_passing : Pos → Bool
is_passing (pos.Entry f at) = true
is_passing (pos.Return f) = true
is_passing _ = false

-- what is asked of their bits: that its rule holds, where the position has it
abbrev pub AsksPassing : Module → (Fact → Bool) → Pos → ℕ → Type 0
AsksPassing m held p bit = is_passing p ≡ true → is_bit m p bit ≡ true → Rule m held p bit

-- what the rules speak of at a position
abbrev pub SpeaksPassing : Module → Pos → Fact → Type 0
SpeaksPassing m p y = (bit : ℕ) × (is_passing p ≡ true) × (is_bit m p bit ≡ true) × Speaks m p bit y
