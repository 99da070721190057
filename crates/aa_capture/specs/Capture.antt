-- The facts of uses: what the uses of a pointer do not do with it (LangRef, "Pointer Capture", `readonly`, `writeonly`).
use Rattle.std.specs.Prelude.{◌≡◌, nat_le, ℕ, Bool, true, false}
use Rattle.lattice_words.specs.declared.value.TheConstants.{CAPTURED_BY_RETURN_ALONE}
use Rattle.ir_module.specs.declared.module.Module.{Module}
use Rattle.facts.specs.declared.pos.Pos.{Pos}
use Rattle.facts.specs.declared.pos.Pos.TheVariants as pos
use Rattle.facts.specs.Facts.{Fact}
use Rattle.facts.specs.Masks.{is_bit}
use Rattle.facts.specs.Names.{Speaks}
use Rattle.facts.specs.Justified.{Rule}

-- the bit is one of uses: those behind the classes of blocks
abbrev pub is_capture : Pos → ℕ → Bool
is_capture (pos.Value v) bit = nat_le CAPTURED_BY_RETURN_ALONE bit
is_capture _ bit = false

-- what is asked of a bit of uses: that its rule holds, where the position has it
abbrev pub AsksCapture : Module → (Fact → Bool) → Pos → ℕ → Type 0
AsksCapture m held p bit = is_capture p bit ≡ true → is_bit m p bit ≡ true → Rule m held p bit

-- what the rules of uses speak of at a position
abbrev pub SpeaksCapture : Module → Pos → Fact → Type 0
SpeaksCapture m p y = (bit : ℕ) × (is_capture p bit ≡ true) × (is_bit m p bit ≡ true) × Speaks m p bit y
