-- The system of a module: its masks, with the rules of all its positions met in.
use Rattle.std.specs.Prelude.{◌≡◌, ◌↔◌, ◌+◌, ℕ, Bool, true, zero, suc, slice_get, length, Some}
use Rattle.attr_ids.specs.declared.ids.PosId.{PosId}
use Rattle.ir_module.specs.declared.module.Module.{Module}
use Rattle.facts.specs.declared.pos.Pos.{Pos}
use Rattle.facts.specs.Facts.{Fact}
use Rattle.facts.specs.Masks.{is_bit}
use Rattle.facts.specs.Names.{Speaks, Names}
use Rattle.facts.specs.Justified.{Rule}
use Rattle.rule_terms.specs.System.{System, IsSystem, with_masks, inputs_of}
use Rattle.positions.specs.Numbering.{Numbered}
use Rattle.rule_says.specs.Meeting.{Meets, IsInput}

-- what is asked of a bit of a position: its rule
abbrev pub AsksRule : Module → (Fact → Bool) → Pos → ℕ → Type 0
AsksRule m held p bit = is_bit m p bit ≡ true → Rule m held p bit

-- what the rules of a position speak of
abbrev pub SpeaksRule : Module → Pos → Fact → Type 0
SpeaksRule m p y = (bit : ℕ) × (is_bit m p bit ≡ true) × Speaks m p bit y

-- into the masks was met in that each rule holds
pub record IsSystemOf (m : Module) (ps : Numbered) (s : System) : Type 0 where
  pub system : IsSystem s
  pub masks : s.masks ≡ ps.masks
  pub meets : Meets m ps (with_masks ps.masks) s (AsksRule m) (SpeaksRule m)

-- the inputs of each position are the positions that its rules name
abbrev pub AreInputs : Module → Numbered → System → Type 0
AreInputs m ps s = (n : ℕ) (p : Pos) → slice_get ps.list n ≡ Some p → (q : PosId) →
    IsInput s n q ↔ ((r : Pos) × (slice_get ps.list q.0 ≡ Some r) × Names m p r)

-- how many inputs the positions below n have together
abbrev pub inputs_below : System → ℕ → ℕ
inputs_below s zero = 0
inputs_below s (suc n) = inputs_below s n + length (inputs_of s n)

-- how many inputs the positions of a system have together
abbrev pub input_count : System → ℕ
input_count s = inputs_below s (length s.masks)
