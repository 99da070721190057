-- What a law takes as given of a set of facts and of each step of a run, where other laws or the verifier show it.
use Rattle.std.specs.Prelude.{◌≡◌, ◌++◌, ℕ, Bool, true, false, List, [], ◌∷◌, slice_get, Some}
use Rattle.std.specs.List.{AllByRecursion}
use Rattle.ir_module.specs.declared.op.Call.{Call}
use Rattle.ir_module.specs.declared.op.Written.{Written}
use Rattle.ir_module.specs.declared.op.Instr.{Instr}
use Rattle.ir_module.specs.declared.edge.Edge.{Edge}
use Rattle.ir_module.specs.declared.module.Spot.{Spot}
use Rattle.ir_module.specs.declared.module.Module.{Module}
use Rattle.ir_module.specs.Places.{instr_at}
use Rattle.ir_module.specs.Edges.{IsEdgeAt}
use Rattle.ir_module.specs.Calls.{call_of}
use Rattle.ir_module.specs.WellFormed.{IsWellFormed}
use Rattle.facts.specs.Bodies.{is_pointer}
use Rattle.facts.specs.Facts.{Fact}
use Rattle.facts.specs.DeadEdges.{is_dead_edge}
use Rattle.facts.specs.Justified.{Justified}
use Rattle.ir_machine.specs.declared.choice.Choice.{Choice}
use Rattle.ir_machine.specs.declared.choice.Value.{Value}
use Rattle.ir_machine.specs.Frames.{At, Active, BodyFrame, Frame, Body, call_of as call_in, State, Return, Event}
use Rattle.ir_machine.specs.Edges.{behind_phis}
use Rattle.ir_machine.specs.Runs.{Done, IsOpening, run}
use Rattle.ir_machine.specs.Meanings.{IsBy}
use Rattle.ir_machine.specs.Honest.{IsHonest}
use Rattle.fact_meanings.specs.Runs.{StandsLive}

-- ---- sets and runs

-- each fact of the set is justified by the set; a set that supports itself is one
abbrev pub JustifiesItself : Module → (Fact → Bool) → Type 0
JustifiesItself m held = (x : Fact) → held x ≡ true → Justified m held x

-- for every well formed module, every set that justifies itself, every opening state, and all choices of an honest run
abbrev pub InHonestRuns : (Module → (Fact → Bool) → List Done → Type 0) → Type 0
InHonestRuns Q = (m : Module) → IsWellFormed m → (held : Fact → Bool) → JustifiesItself m held → (opening : State) → IsOpening m opening →
    (choices : List Choice) → IsHonest m (run m opening choices) → Q m held (run m opening choices)

-- ---- control

-- each frame stands in a segment that is not dead
abbrev pub StandLive : (Fact → Bool) → List Frame → Type 0
StandLive held stack = AllByRecursion (StandsLive held) stack

-- The frame stood in the stack before the step, and is on top after it, over the same frames, as `now`: so it has gone on from
-- where it stood.
pub record GoesOn (d : Done) (frame now : BodyFrame) : Type 0 where
  pub above : List Frame
  pub below : List Frame
  pub before : d.before.stack ≡ above ++ (Body frame ∷ below)
  pub next : d.next.stack ≡ Body now ∷ below

-- an edge of the terminator at spot `from` that is not dead leads to the block behind whose phis spot `to` lies
pub record IsByLiveEdge (m : Module) (held : Fact → Bool) (from to : Spot) : Type 0 where
  pub number : ℕ
  pub edge : Edge
  pub is_edge : IsEdgeAt m from number edge
  pub live : is_dead_edge m held from edge ≡ false
  pub arrives : to ≡ behind_phis m edge.to.0

-- each frame that goes on from an instruction with edges has gone along one that is not dead
abbrev pub TakesLiveEdges : Module → (Fact → Bool) → Done → Type 0
TakesLiveEdges m held d = (frame now : BodyFrame) (n : ℕ) (e : Edge) → GoesOn d frame now → IsEdgeAt m frame.spot n e →
    IsByLiveEdge m held frame.spot now.spot

-- what the laws of control show of a step
pub record IsControlled (m : Module) (held : Fact → Bool) (d : Done) : Type 0 where
  pub live : StandLive held d.before.stack
  pub edges : TakesLiveEdges m held d

-- ---- types

-- an argument of the frame's call, as it was passed, has no origins where it is not written as a pointer
abbrev pub PassesPointers : Module → Frame → Type 0
PassesPointers m frame = (s : Spot) (instr : Instr) (call : Call) (k : ℕ) (w : Written) (x : Value) → (call_in frame).made ≡ At s →
    instr_at m s ≡ Some instr → call_of instr.op ≡ Some call → slice_get call.args k ≡ Some w → slice_get (call_in frame).passed k ≡ Some x →
    is_pointer m w.ty ≡ false → x.origins ≡ []

-- what a call returns to an instruction has no origins where the instruction's result is no pointer
abbrev pub ReturnsPointers : Module → Event → Type 0
ReturnsPointers m e = (a : Active) (s : Spot) (instr : Instr) (x : Value) → IsBy a e → e.what ≡ Return (Some x) → a.call.made ≡ At s →
    instr_at m s ≡ Some instr → is_pointer m instr.ty ≡ false → x.origins ≡ []

-- Pointers keep their types: what goes into a call and comes out of it, and is not written as a pointer, is none. Typed operands,
-- results and returns give this.
pub record KeepsTypes (m : Module) (d : Done) : Type 0 where
  pub args : AllByRecursion (PassesPointers m) d.next.stack
  pub returns : AllByRecursion (ReturnsPointers m) d.events
