-- What is asked of the segments to which control goes, by where it comes from: the outside, a call, an edge, and the call before.
use Rattle.std.specs.Prelude.{◌≡◌, ◌⊎◌, ◌+◌, ℕ, Bool, true, false, Some}
use Rattle.lattice_words.specs.declared.segment.TheConstants.{DEAD}
use Rattle.ir_module.specs.declared.op.Op.{Op}
use Rattle.ir_module.specs.declared.op.Instr.{Instr}
use Rattle.ir_module.specs.declared.edge.Way.{Way}
use Rattle.ir_module.specs.declared.edge.Way.TheVariants as way
use Rattle.ir_module.specs.declared.edge.Edge.{Edge}
use Rattle.ir_module.specs.declared.module.Seg.{Seg}
use Rattle.ir_module.specs.declared.module.Module.{Module}
use Rattle.ir_module.specs.Places.{IsSegInBlock}
use Rattle.ir_module.specs.Edges.{edges}
use Rattle.ir_module.specs.Calls.{is_call, direct_callee, is_open}
use Rattle.facts.specs.declared.pos.Pos.{Pos}
use Rattle.facts.specs.Kinds.{NoReturn}
use Rattle.facts.specs.Facts.{Fact, segment, dead}
use Rattle.facts.specs.Masks.{is_bit}
use Rattle.facts.specs.Promises.{call_has, CallSpeaks}
use Rattle.facts.specs.DeadEdges.{is_never, WaySpeaks}
use Rattle.facts.specs.Dead.{IsEntry, IsStart}
use Rattle.rule_says.specs.Listing.{AskAll, SpeakAny}

-- ---- from the outside

-- the first segment of an open body is not dead
abbrev pub AsksOpen : Module → ℕ → (Fact → Bool) → Pos → ℕ → Type 0
AsksOpen m f held p bit = (k : ℕ) → IsEntry m f k → p ≡ segment k → is_bit m p bit ≡ true → is_open m f ≡ false

-- that is no fact
abbrev pub SpeaksOpen : Module → ℕ → Pos → Fact → Type 0
SpeaksOpen m f p y = ⊥

-- ---- from an instruction of segment q

-- the first segment of a body that is called is dead only if segment q is
abbrev pub AsksCalled : Module → ℕ → Op → (Fact → Bool) → Pos → ℕ → Type 0
AsksCalled m q o held p bit = (f k : ℕ) → direct_callee m o ≡ Some (record { 0 = f }) → IsEntry m f k → p ≡ segment k → is_bit m p bit ≡ true →
    held (dead q) ≡ true

abbrev pub SpeaksCalled : Module → ℕ → Op → Pos → Fact → Type 0
SpeaksCalled m q o p y = (f : ℕ) × (k : ℕ) × (direct_callee m o ≡ Some (record { 0 = f })) × IsEntry m f k × (p ≡ segment k) ×
    (is_bit m p DEAD ≡ true) × (y ≡ dead q)

-- where an edge leads, the segment is dead only if segment q is or the edge is never taken
abbrev pub AsksEdge : Module → ℕ → Instr → Edge → (Fact → Bool) → Pos → ℕ → Type 0
AsksEdge m q i e held p bit = (k : ℕ) → IsStart m e.to.0 k → p ≡ segment k → is_bit m p bit ≡ true → held (dead q) ≡ false →
    is_never m held e.way (Some i) ≡ true

abbrev pub SpeaksEdge : Module → ℕ → Instr → Edge → Pos → Fact → Type 0
SpeaksEdge m q i e p y = (k : ℕ) × IsStart m e.to.0 k × (p ≡ segment k) × (is_bit m p DEAD ≡ true) × ((y ≡ dead q) ⊎ WaySpeaks m e.way (Some i) y)

-- behind a call, the segment is dead only if segment q is or the call does not return
abbrev pub AsksBehind : Module → ℕ → Op → (Fact → Bool) → Pos → ℕ → Type 0
AsksBehind m q o held p bit = (b : ℕ) → IsSegInBlock m b q → IsSegInBlock m b (q + 1) → is_call o ≡ true → p ≡ segment (q + 1) →
    is_bit m p bit ≡ true → held (dead q) ≡ false → call_has m held NoReturn o ≡ true

abbrev pub SpeaksBehind : Module → ℕ → Op → Pos → Fact → Type 0
SpeaksBehind m q o p y = (b : ℕ) × IsSegInBlock m b q × IsSegInBlock m b (q + 1) × (is_call o ≡ true) × (p ≡ segment (q + 1)) ×
    (is_bit m p DEAD ≡ true) × ((y ≡ dead q) ⊎ CallSpeaks m NoReturn o y)

-- each edge of a terminator
abbrev pub AsksEdges : Module → ℕ → Instr → (Fact → Bool) → Pos → ℕ → Type 0
AsksEdges m q i = AskAll (edges i.op) (λ n e. AsksEdge m q i e)

abbrev pub SpeaksEdges : Module → ℕ → Instr → Pos → Fact → Type 0
SpeaksEdges m q i = SpeakAny (edges i.op) (λ n e. SpeaksEdge m q i e)

-- one instruction
abbrev pub AsksFrom : Module → ℕ → Instr → (Fact → Bool) → Pos → ℕ → Type 0
AsksFrom m q i held p bit = AsksCalled m q i.op held p bit × (AsksEdges m q i held p bit × AsksBehind m q i.op held p bit)

abbrev pub SpeaksFrom : Module → ℕ → Instr → Pos → Fact → Type 0
SpeaksFrom m q i p y = SpeaksCalled m q i.op p y ⊎ (SpeaksEdges m q i p y ⊎ SpeaksBehind m q i.op p y)

-- ---- all together

-- each instruction of segment q
abbrev pub AsksOut : Module → ℕ → Seg → (Fact → Bool) → Pos → ℕ → Type 0
AsksOut m q seg = AskAll seg.instrs (λ at i. AsksFrom m q i)

abbrev pub SpeaksOut : Module → ℕ → Seg → Pos → Fact → Type 0
SpeaksOut m q seg = SpeakAny seg.instrs (λ at i. SpeaksFrom m q i)

-- each segment
abbrev pub AsksOuts : Module → (Fact → Bool) → Pos → ℕ → Type 0
AsksOuts m = AskAll m.segs (λ q seg. AsksOut m q seg)

abbrev pub SpeaksOuts : Module → Pos → Fact → Type 0
SpeaksOuts m = SpeakAny m.segs (λ q seg. SpeaksOut m q seg)

-- each function
abbrev pub AsksOpens : Module → (Fact → Bool) → Pos → ℕ → Type 0
AsksOpens m = AskAll m.funcs (λ f func. AsksOpen m f)

abbrev pub SpeaksOpens : Module → Pos → Fact → Type 0
SpeaksOpens m = SpeakAny m.funcs (λ f func. SpeaksOpen m f)

-- both
abbrev pub AsksDeads : Module → (Fact → Bool) → Pos → ℕ → Type 0
AsksDeads m held p bit = AsksOpens m held p bit × AsksOuts m held p bit

abbrev pub SpeaksDeads : Module → Pos → Fact → Type 0
SpeaksDeads m p y = SpeaksOpens m p y ⊎ SpeaksOuts m p y

-- ---- terms

-- what stands at the terminator keeps the edge from being taken
abbrev pub AsksNever : Module → Instr → Way → (Fact → Bool) → ℕ → Type 0
AsksNever m i e held bit = is_never m held e (Some i) ≡ true

-- ---- ways

abbrev pub is_normal : Way → Bool
is_normal way.Normal = true
is_normal _ = false

abbrev pub is_unwind : Way → Bool
is_unwind way.Unwind = true
is_unwind _ = false
