-- Dead segments: no run comes to them.
use Rattle.std.specs.Prelude.{◌≡◌, ◌⊎◌, ◌==◌, ◌+◌, ℕ, Bool, true, false, slice_get, Some}
use Rattle.ir_module.specs.declared.op.Instr.{Instr}
use Rattle.ir_module.specs.declared.edge.Edge.{Edge}
use Rattle.ir_module.specs.declared.module.Block.{Block}
use Rattle.ir_module.specs.declared.module.Spot.{Spot}
use Rattle.ir_module.specs.declared.module.Module.{Module}
use Rattle.ir_module.specs.Places.{instr_at, entry_of, first_block_in, IsSegInBlock}
use Rattle.ir_module.specs.Edges.{IsEdgeAt}
use Rattle.ir_module.specs.Calls.{is_call, direct_callee, is_open}
use Rattle.facts.specs.Kinds.{NoReturn}
use Rattle.facts.specs.Bodies.{is_body}
use Rattle.facts.specs.Facts.{Fact, dead_at}
use Rattle.facts.specs.Promises.{call_has, CallSpeaks}
use Rattle.facts.specs.DeadEdges.{is_dead_edge, EdgeSpeaks}

-- ---- where a segment stands

-- segment k is the first of body f
abbrev pub IsEntry : Module → ℕ → ℕ → Type 0
IsEntry m f k = (is_body m f ≡ true) × ((entry_of m f).seg.0 ≡ k)

-- block i is the first of its body
abbrev pub is_first_block : Module → ℕ → Block → Bool
is_first_block m i b = first_block_in (slice_get m.funcs b.func.0) == i

-- segment k is the first of block i, which is not the first of its body
pub record IsStart (m : Module) (i k : ℕ) : Type 0 where
  pub block : Block
  pub at_block : slice_get m.blocks i ≡ Some block
  pub first : block.first_seg ≡ k
  pub not_entry : is_first_block m i block ≡ false

-- the spot stands in the segment before segment k, in the same block
pub record IsBefore (m : Module) (s : Spot) (k : ℕ) : Type 0 where
  pub block : ℕ
  pub next : s.seg.0 + 1 ≡ k
  pub here : IsSegInBlock m block s.seg.0
  pub there : IsSegInBlock m block k

-- ---- the rule

-- the body is not open, and each direct call of it stands in a dead segment
pub record IsUncalled (m : Module) (held : Fact → Bool) (f : ℕ) : Type 0 where
  pub closed : is_open m f ≡ false
  pub callers : (s : Spot) (instr : Instr) → instr_at m s ≡ Some instr → direct_callee m instr.op ≡ Some (record { 0 = f }) → held (dead_at s) ≡ true

-- each edge into block i is dead
abbrev pub IsUnreached : Module → (Fact → Bool) → ℕ → Type 0
IsUnreached m held i = (t : Spot) (n : ℕ) (e : Edge) → IsEdgeAt m t n e → e.to.0 ≡ i → is_dead_edge m held t e ≡ true

-- the call that ends the segment before does not return, if that segment is not dead
abbrev pub IsBehindNoReturn : Module → (Fact → Bool) → ℕ → Type 0
IsBehindNoReturn m held k = (s : Spot) (instr : Instr) → IsBefore m s k → instr_at m s ≡ Some instr → is_call instr.op ≡ true →
    held (dead_at s) ≡ false → call_has m held NoReturn instr.op ≡ true

-- Segment k is dead: as the first of a body, as the first of another block, or as a later one of its block.
pub record IsDead (m : Module) (held : Fact → Bool) (k : ℕ) : Type 0 where
  pub entry : (f : ℕ) → IsEntry m f k → IsUncalled m held f
  pub start : (i : ℕ) → IsStart m i k → IsUnreached m held i
  pub later : IsBehindNoReturn m held k

-- ---- what the rule speaks of

-- the segments of the direct calls of the body
abbrev pub CallersSpeak : Module → ℕ → Fact → Type 0
CallersSpeak m f y = (s : Spot) × (instr : Instr) × (instr_at m s ≡ Some instr) × (direct_callee m instr.op ≡ Some (record { 0 = f })) × (y ≡ dead_at s)

-- whether the edges into the block are dead
abbrev pub EdgesSpeak : Module → ℕ → Fact → Type 0
EdgesSpeak m i y = (t : Spot) × (n : ℕ) × (e : Edge) × IsEdgeAt m t n e × (e.to.0 ≡ i) × EdgeSpeaks m t e y

-- the segment before, and the callee of its call
abbrev pub BeforeSpeaks : Module → ℕ → Fact → Type 0
BeforeSpeaks m k y = (s : Spot) × (instr : Instr) × IsBefore m s k × (instr_at m s ≡ Some instr) × (is_call instr.op ≡ true) ×
    ((y ≡ dead_at s) ⊎ CallSpeaks m NoReturn instr.op y)

-- what the rule of a dead segment speaks of
abbrev pub DeadSpeaks : Module → ℕ → Fact → Type 0
DeadSpeaks m k y = ((f : ℕ) × IsEntry m f k × CallersSpeak m f y) ⊎ (((i : ℕ) × IsStart m i k × EdgesSpeak m i y) ⊎ BeforeSpeaks m k y)
