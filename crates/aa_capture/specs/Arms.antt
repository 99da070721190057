-- What is asked for the arms of phis, by the edges of one terminator.
use Rattle.std.specs.Prelude.{◌≡◌, ◌⊎◌, ◌<◌, ◌≤◌, ◌==◌, ◌&&◌, not, ℕ, Bool, true, false, MatchBool, length, List, slice_get, Some}
use Rattle.lattice_words.specs.declared.value.TheConstants.{ALL_USES}
use Rattle.ir_module.specs.declared.op.Operand.TheVariants as operand
use Rattle.ir_module.specs.declared.op.Written.{Written}
use Rattle.ir_module.specs.declared.op.Arm.{Arm}
use Rattle.ir_module.specs.declared.op.Op.{Op}
use Rattle.ir_module.specs.declared.op.Op.TheVariants as op
use Rattle.ir_module.specs.declared.op.Instr.{Instr}
use Rattle.ir_module.specs.declared.edge.Way.{Way}
use Rattle.ir_module.specs.declared.edge.Edge.{Edge}
use Rattle.ir_module.specs.declared.module.Module.{Module}
use Rattle.ir_module.specs.Edges.{edges}
use Rattle.ir_module.specs.Places.{IsSegInBlock}
use Rattle.ir_module.specs.Calls.{inner_callee, is_promised}
use Rattle.facts.specs.declared.pos.Pos.{Pos}
use Rattle.facts.specs.Kinds.{UseFact, use_bit}
use Rattle.facts.specs.Facts.{Fact, value, dead}
use Rattle.facts.specs.Masks.{is_bit}
use Rattle.facts.specs.DeadEdges.{takes_other, is_unused, is_never, WaySpeaks}
use Rattle.facts.specs.Uses.{ResultUsed, ResultUseSpeaks}
use Rattle.rule_terms.specs.declared.term.NewTerm.{NewTerm}
use Rattle.rule_terms.specs.declared.term.NewTerm.TheOpen.{NewTerm-F as new}
use Rattle.rule_terms.specs.declared.term.NewTerm.TheViews.{roll-NewTerm}
use Rattle.positions.specs.Numbering.{Numbered}
use Rattle.rule_says.specs.declared.calls.CallPromise.{CallPromise}
use Rattle.rule_says.specs.Calls.{promise_of}
use Rattle.rule_says.specs.Listing.{AskAll, SpeakAny}
use Rattle.aa_memory.specs.declared.accesses.Callee.{Callee}
use Rattle.aa_memory.specs.Accesses.{number_of}
use Rattle.aa_memory.specs.Asked.{IsKnown}
use Rattle.aa_capture.specs.Asked.{AsksArm, SpeaksArm}

-- ---- terminators and edges

-- the last segment of block b
pub record IsLastSeg (m : Module) (b q : ℕ) : Type 0 where
  pub within : IsSegInBlock m b q
  pub last : (k : ℕ) → IsSegInBlock m b k → k ≤ q

abbrev pub is_invoke : Op → Bool
is_invoke (op.Invoke call normal unwind) = true
is_invoke _ = false

-- the edge leads to the block
abbrev pub is_to : ℕ → Edge → Bool
is_to block e = e.to.0 == block

-- the edge leads there, and no literal keeps it from being taken
abbrev pub is_open_to : Module → Op → ℕ → Edge → Bool
is_open_to m o block e = (e.to.0 == block) && not (takes_other m o e.way)

-- what decides of the call that it keeps the promise
pub record IsCallee (m : Module) (promise : CallPromise) (o : Op) (callee : Callee) : Type 0 where
  pub body : inner_callee m o ≡ number_of callee.body
  pub promised : is_promised m (promise_of promise) o ≡ callee.promised

-- ---- terms

-- the edge of an `invoke` is not used
abbrev pub AsksUnused : Module → Instr → Way → (Fact → Bool) → ℕ → Type 0
AsksUnused m t way held bit = is_unused m held t.op way ≡ true

-- the term where an edge stays open, else all bits, which name the same
abbrev pub IsOver : NewTerm → Bool → NewTerm → Type 0
IsOver t open' of = MatchBool open' (t ≡ of) (t ≡ roll-NewTerm (new.Or (roll-NewTerm (new.Const ALL_USES)) of))

-- ---- one arm

-- by edge e of terminator t of segment q, which leads to the block, the phi takes the operand: it has a fact of uses only if the phi has it
abbrev pub AsksEdge : Module → ℕ → Instr → ℕ → Instr → Written → Edge → (Fact → Bool) → Pos → ℕ → Type 0
AsksEdge m q t block i w e held p bit = e.to.0 ≡ block → (kind : UseFact) (v : ℕ) → w.val ≡ operand.Value (record { 0 = v }) → p ≡ value v →
    bit ≡ use_bit kind → is_bit m p bit ≡ true → held (dead q) ≡ false → is_never m held e.way (Some t) ≡ false → ResultUsed held kind i

abbrev pub SpeaksEdge : Module → ℕ → Instr → ℕ → Instr → Written → Edge → Pos → Fact → Type 0
SpeaksEdge m q t block i w e p y = (e.to.0 ≡ block) × (kind : UseFact) × (v : ℕ) × (w.val ≡ operand.Value (record { 0 = v })) × (p ≡ value v) ×
    (is_bit m p (use_bit kind) ≡ true) × ((y ≡ dead q) ⊎ (WaySpeaks m e.way (Some t) y ⊎ ResultUseSpeaks kind i y))

-- each edge of the terminator
abbrev pub AsksEdges : Module → ℕ → Instr → ℕ → Instr → Written → (Fact → Bool) → Pos → ℕ → Type 0
AsksEdges m q t block i w = AskAll (edges t.op) (λ n e. AsksEdge m q t block i w e)

abbrev pub SpeaksEdges : Module → ℕ → Instr → ℕ → Instr → Written → Pos → Fact → Type 0
SpeaksEdges m q t block i w = SpeakAny (edges t.op) (λ n e. SpeaksEdge m q t block i w e)

-- ---- all arms

-- what the arms name is there
abbrev pub AreArmsKnown : Module → Numbered → List Arm → Type 0
AreArmsKnown m ps arms = (j : ℕ) (arm : Arm) → slice_get arms j ≡ Some arm → IsKnown ps arm.val × (arm.from.0 < length m.blocks)

abbrev pub AsksEach : Module → ℕ → Instr → List Arm → (Fact → Bool) → Pos → ℕ → Type 0
AsksEach m k i arms = AskAll arms (λ j arm. AsksArm m k i arm)

abbrev pub SpeaksEach : Module → ℕ → Instr → List Arm → Pos → Fact → Type 0
SpeaksEach m k i arms = SpeakAny arms (λ j arm. SpeaksArm m k i arm)
