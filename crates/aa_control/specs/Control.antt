-- The facts of control: that no run comes to a segment, and how a body ends: unwinding, returning, and with what it has freed.
use Rattle.std.specs.Prelude.{◌≡◌, nat_le, ℕ, Bool, true, false}
use Rattle.lattice_words.specs.declared.function.TheConstants.{NOFREE}
use Rattle.ir_module.specs.declared.module.Module.{Module}
use Rattle.facts.specs.declared.pos.Pos.{Pos}
use Rattle.facts.specs.declared.pos.Pos.TheVariants as pos
use Rattle.facts.specs.Facts.{Fact}
use Rattle.facts.specs.Masks.{is_bit}
use Rattle.facts.specs.Names.{Speaks}
use Rattle.facts.specs.Justified.{Rule}

-- the bit is one of control
abbrev pub is_control : Pos → ℕ → Bool
is_control (pos.Segment k) bit = true
is_control (pos.Function f) bit = nat_le bit NOFREE
is_control (pos.Effect k) bit = nat_le bit NOFREE
is_control _ bit = false

-- what is asked of a bit of control: that its rule holds, where the position has it
abbrev pub AsksControl : Module → (Fact → Bool) → Pos → ℕ → Type 0
AsksControl m held p bit = is_control p bit ≡ true → is_bit m p bit ≡ true → Rule m held p bit

-- what the rules of control speak of at a position
abbrev pub SpeaksControl : Module → Pos → Fact → Type 0
SpeaksControl m p y = (bit : ℕ) × (is_control p bit ≡ true) × (is_bit m p bit ≡ true) × Speaks m p bit y
