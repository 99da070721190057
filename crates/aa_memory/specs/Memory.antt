-- The facts of memory: which accesses a body, or one segment of it, does not make at a location of LangRef's `memory(..)`.
use Rattle.std.specs.Prelude.{◌≡◌, nat_le, ℕ, Bool, true, false}
use Rattle.lattice_words.specs.declared.function.TheConstants.{NO_READ_OF_DEFAULT}
use Rattle.ir_module.specs.declared.module.Module.{Module}
use Rattle.facts.specs.declared.pos.Pos.{Pos}
use Rattle.facts.specs.declared.pos.Pos.TheVariants as pos
use Rattle.facts.specs.Facts.{Fact}
use Rattle.facts.specs.Masks.{is_bit}
use Rattle.facts.specs.Names.{Speaks}
use Rattle.facts.specs.Justified.{Rule}

-- the bit is one of memory: those behind the bits of control
abbrev pub is_memory : Pos → ℕ → Bool
is_memory (pos.Function f) bit = nat_le NO_READ_OF_DEFAULT bit
is_memory (pos.Effect k) bit = nat_le NO_READ_OF_DEFAULT bit
is_memory _ bit = false

-- what is asked of a bit of memory: that its rule holds, where the position has it
abbrev pub AsksMemory : Module → (Fact → Bool) → Pos → ℕ → Type 0
AsksMemory m held p bit = is_memory p bit ≡ true → is_bit m p bit ≡ true → Rule m held p bit

-- what the rules of memory speak of at a position
abbrev pub SpeaksMemory : Module → Pos → Fact → Type 0
SpeaksMemory m p y = (bit : ℕ) × (is_memory p bit ≡ true) × (is_bit m p bit ≡ true) × Speaks m p bit y
