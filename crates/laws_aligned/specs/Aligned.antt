-- The facts that the law of alignment speaks of, and the runs in which it holds.
use Rattle.std.specs.Prelude.{◌&&◌, not, Bool, List}
use Rattle.lattice_words.specs.Ladders.{is_byte_bit}
use Rattle.ir_module.specs.declared.module.Module.{Module}
use Rattle.facts.specs.Facts.{Fact}
use Rattle.ir_machine.specs.Runs.{Done}
use Rattle.law_premises.specs.Premises.{InHonestRuns}
use Rattle.law_premises.specs.Types.{HasTypes, HasItsBits}
use Rattle.law_premises.specs.Indices.{HasIndices}

-- the set without the facts that speak of bytes
abbrev pub but_bytes : (Fact → Bool) → Fact → Bool
but_bytes held x = held x && not (is_byte_bit x.bit)

-- for every honest run of a well formed module whose types tell pointers from all else, and how far indices lead, and every set
-- that justifies itself, of facts that are bits of the masks
abbrev pub InTypedHonestRuns : (Module → (Fact → Bool) → List Done → Type 0) → Type 0
InTypedHonestRuns Q = InHonestRuns (λ m held steps. HasTypes m → HasIndices m → HasItsBits m held → Q m held steps)
