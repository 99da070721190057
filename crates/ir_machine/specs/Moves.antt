-- What steps are made of. A step is a list of small moves, computed whole from the state before it; a move has no
-- condition of its own.
use Rattle.std.specs.Prelude.{ℕ, ◌+◌, ◌++◌, Bool, true, false, if◌then◌else◌, List, [], ◌∷◌, Option, None, Some}
use Rattle.ir_module.specs.declared.module.Spot.{Spot}
use Rattle.ir_machine.specs.declared.choice.Value.{Value}
use Rattle.ir_machine.specs.declared.choice.Byte.{Byte}
use Rattle.ir_machine.specs.Memory.{Kind, Memory, Shape, Life, Dead, put, grown, turned, filled, is_alloca_of}
use Rattle.ir_machine.specs.Frames.{BodyFrame, OutsideFrame, Frame, Body, Outside, call_of, State, What, Event, event}

-- the small moves
pub data Move : Type 0 where
  -- something happens, by the frame on top
  Says : (what : What) → Move
  -- a new block, live and of undef bytes
  Grows : (shape : Shape) → Move
  -- a block is live, closed or dead from now on
  Turns : (block : ℕ) (life : Life) → Move
  -- a block has these bytes from now on
  Fills : (block : ℕ) (bytes : ℕ → Byte) → Move
  -- the outside keeps one more value
  Keeps : (value : Value) → Move
  -- the module frame on top has made a value
  Sets : (value : ℕ) (x : Value) → Move
  -- the module frame on top stands elsewhere
  Goes : (spot : Spot) → Move
  -- the outside frame on top has one more value in hand
  Takes : (x : Value) → Move
  -- a call begins
  Begins : (frame : Frame) → Move
  -- the frame on top is taken away, and its allocas are dead
  Ends : Move

-- ---- what moves do

-- the state with another memory
abbrev pub with_memory : State → Memory → State
with_memory t mem = record t { memory = mem }

-- the frame with one more value made
abbrev pub with_value : ℕ → Value → BodyFrame → BodyFrame
with_value v x frame = record frame { values = put v (Some x) frame.values }

-- the frame at another spot
abbrev pub at_spot : Spot → BodyFrame → BodyFrame
at_spot spot frame = record frame { spot = spot }

-- the frame with one more value in hand
abbrev pub with_hand : Value → OutsideFrame → OutsideFrame
with_hand x frame = record frame { hand = frame.hand ++ (x ∷ []) }

-- the frame on top has made a value
abbrev pub set_on_top : ℕ → Value → List Frame → List Frame
set_on_top v x (Body frame ∷ below) = Body (with_value v x frame) ∷ below
set_on_top v x stack = stack

-- the frame on top stands at a spot
abbrev pub gone_on_top : Spot → List Frame → List Frame
gone_on_top spot (Body frame ∷ below) = Body (at_spot spot frame) ∷ below
gone_on_top spot stack = stack

-- the frame on top has one more value in hand
abbrev pub taken_on_top : Value → List Frame → List Frame
taken_on_top x (Outside frame ∷ below) = Outside (with_hand x frame) ∷ below
taken_on_top x stack = stack

-- a call begins: it has the next number, and the state knows how many blocks there are
abbrev pub begun : State → Frame → State
begun t frame = record {
  memory = t.memory;
  kept = t.kept;
  born = put t.next_call t.memory.count t.born;
  next_call = t.next_call + 1;
  stack = frame ∷ t.stack;
}

-- the block is an alloca of the call on top
abbrev pub is_alloca_on : List Frame → Kind → Bool
is_alloca_on [] kind = false
is_alloca_on (top ∷ below) kind = is_alloca_of (call_of top).number kind

-- the allocas of the call on top are dead
abbrev pub without_top : List Frame → Memory → Memory
without_top stack mem = record mem { life = λ n. if is_alloca_on stack (mem.shape n).kind then Dead else mem.life n }

-- the frames under the one on top
abbrev pub under_top : List Frame → List Frame
under_top [] = []
under_top (top ∷ below) = below

-- the frame on top is taken away, and the allocas of its call are dead
abbrev pub ended : State → State
ended t = record t { memory = without_top t.stack t.memory; stack = under_top t.stack }

-- the state after a move
abbrev pub moved : State → Move → State
moved t (Says what) = t
moved t (Grows shape) = with_memory t (grown shape t.memory)
moved t (Turns block life) = with_memory t (turned block life t.memory)
moved t (Fills block bytes) = with_memory t (filled block bytes t.memory)
moved t (Keeps value) = record t { kept = t.kept ++ (value ∷ []) }
moved t (Sets v x) = record t { stack = set_on_top v x t.stack }
moved t (Goes spot) = record t { stack = gone_on_top spot t.stack }
moved t (Takes x) = record t { stack = taken_on_top x t.stack }
moved t (Begins frame) = begun t frame
moved t Ends = ended t

-- the state after these moves
abbrev pub after : State → List Move → State
after t [] = t
after t (x ∷ moves) = after (moved t x) moves

-- the event of a move, if it is one that says something
abbrev pub event_of : State → Move → List Event
event_of t (Says what) = event t.stack what ∷ []
event_of t _ = []

-- the events of these moves, each with the calls that stood at its moment
abbrev pub said : State → List Move → List Event
said t [] = []
said t (x ∷ moves) = event_of t x ++ said (moved t x) moves

-- these things happen, and then the moves are made
abbrev pub says : List What → List Move → List Move
says [] moves = moves
says (what ∷ more) moves = Says what ∷ says more moves

-- ---- what may stand in a move's way

-- something is given, or the behaviour is undefined, or the run is over, where the choice does not fit
pub data Outcome (A : Type 0) : Type 0 where
  Gives : (x : A) → Outcome A
  Undefined : Outcome A
  Over : Outcome A

-- a step's moves, if it is done
abbrev pub Plan : Type 0
Plan = Outcome (List Move)

-- with what is given it goes on
abbrev pub with : {A B : Type 0} → Outcome A → (A → Outcome B) → Outcome B
with (Gives x) next = next x
with Undefined next = Undefined
with Over next = Over

-- the run is over where there is none
abbrev pub found : {A : Type 0} → Option A → Outcome A
found None = Over
found (Some x) = Gives x

-- the behaviour is undefined where the test fails
abbrev pub needs : {A : Type 0} → Bool → Outcome A → Outcome A
needs true next = next
needs false next = Undefined

-- the choice does not fit where the test fails
abbrev pub fits : {A : Type 0} → Bool → Outcome A → Outcome A
fits true next = next
fits false next = Over

-- the step that does these moves
abbrev pub does : List Move → Plan
does moves = Gives moves
