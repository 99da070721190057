-- What is gathered of a module once, so that each rule looks it up.
use Rattle.std.specs.Prelude.{ℕ, ◌≡◌, ◌+◌, ◌<◌, ◌==◌, if◌then◌else◌, ◌↔◌, Bool, true, List, length, count_by, slice_get, Some}
use Rattle.ir_module.specs.declared.op.Instr.{Instr}
use Rattle.ir_module.specs.declared.edge.Edge.{Edge}
use Rattle.ir_module.specs.declared.module.Module.{Module}
use Rattle.ir_rules.specs.declared.survey.Survey.{Survey}
use Rattle.ir_rules.specs.Blocks.{IsPhi, ArePhisTo, edge_count, terminator, unwind_of, IsUnwoundTo, StartsWithPad}

-- so many instructions at the front of a list are phis, and the next one, if there is one, is none
pub record IsPhiCount (instrs : List Instr) (n : ℕ) : Type 0 where
  pub phis : ArePhisTo n instrs
  pub stop : (x : Instr) → slice_get instrs n ≡ Some x → IsPhi x.op → ⊥

-- for each block a list of the blocks from which edges lead to it, with repeats
pub record AreSources (m : Module) (sources : List (List ℕ)) : Type 0 where
  pub long : length sources ≡ length m.blocks
  pub counts : (b x : ℕ) (row : List ℕ) → slice_get sources b ≡ Some row → count_by (λ y. y == x) row ≡ edge_count m x b

-- each list has got the number of a block for each edge that leads from there to it, and nothing else has changed
pub record Adds (old new : List (List ℕ)) (from : ℕ) (out : List Edge) : Type 0 where
  pub long : length new ≡ length old
  pub counts : (b x : ℕ) (before after : List ℕ) → slice_get old b ≡ Some before → slice_get new b ≡ Some after
      → count_by (λ y. y == x) after ≡ count_by (λ y. y == x) before + (if from == x then count_by (λ e. e.to.0 == b) out else 0)

-- a mark for each of so many things, which tells P
pub record AreMarks (P : ℕ → Type 0) (count : ℕ) (marks : List Bool) : Type 0 where
  pub long : length marks ≡ count
  pub marked : (b : ℕ) → b < count → (slice_get marks b ≡ Some true) ↔ P b

-- the terminator of one of the first n blocks unwinds to block number b
abbrev pub IsUnwoundBefore : Module → ℕ → ℕ → Type 0
IsUnwoundBefore m n b = (x : ℕ) × (x < n) × (unwind_of (terminator m x) ≡ Some (record { 0 = b }))

-- what is gathered of a module: for each block the blocks from which edges lead to it, whether an unwind edge leads to it,
-- and whether it starts with a landing pad
pub record IsSurveyOf (m : Module) (survey : Survey) : Type 0 where
  pub sources : AreSources m survey.sources
  pub unwound : AreMarks (IsUnwoundTo m) (length m.blocks) survey.unwound
  pub pads : AreMarks (StartsWithPad m) (length m.blocks) survey.pads
