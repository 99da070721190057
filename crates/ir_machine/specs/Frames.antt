-- The states of the machine: memory and frames of calls, one on another; and the events that a step makes.
use Rattle.std.specs.Prelude.{ℕ, List, map, Option, None, Some}
use Rattle.ir_module.specs.declared.module.Spot.{Spot}
use Rattle.ir_machine.specs.declared.choice.Mark.{Mark}
use Rattle.ir_machine.specs.declared.choice.Value.{Value}
use Rattle.ir_machine.specs.Memory.{Memory}

-- how a call begins: as the lowest frame of a run, where the outside enters an open body, or at a call instruction
pub data Made : Type 0 where
  Lowest : Made
  Entered : Made
  At : (spot : Spot) → Made

-- What stays the same of a call from its beginning on. Numbers of calls are never used again. `born` is how many blocks
-- there were; `passed` has all arguments as they are passed, with their marks; `args` has them as the call has them: the
-- parameters of a body after the entry rule, all arguments of an outer call as passed.
pub record Begun : Type 0 where
  pub number : ℕ
  pub made : Made
  pub born : ℕ
  pub passed : List Value
  pub args : List Value

-- a frame that runs a body: it stands at a spot, and each value of the body that it has made has a number
pub record BodyFrame : Type 0 where
  pub call : Begun
  pub func : ℕ
  pub spot : Spot
  pub values : ℕ → Option Value

-- a frame that runs code which the module does not show, with the values that came to it
pub record OutsideFrame : Type 0 where
  pub call : Begun
  pub hand : List Value

-- a frame of the stack
pub data Frame : Type 0 where
  Body : (frame : BodyFrame) → Frame
  Outside : (frame : OutsideFrame) → Frame

-- a call as events name it: how it began, and the body that it runs, none for an outer call
pub record Active : Type 0 where
  pub call : Begun
  pub body : Option ℕ

-- the call of a frame as events name it
abbrev pub active : Frame → Active
active (Body frame) = record { call = frame.call; body = Some frame.func }
active (Outside frame) = record { call = frame.call; body = None }

-- the call of a frame
abbrev pub call_of : Frame → Begun
call_of frame = (active frame).call

-- Memory, the values that the outside keeps, how many blocks there were when each call began, the number that the next
-- call gets, and the stack of frames, the one on top first.
pub record State : Type 0 where
  pub memory : Memory
  pub kept : List Value
  pub born : ℕ → ℕ
  pub next_call : ℕ
  pub stack : List Frame

-- What happens. A read and a write name the block and the origins of the pointer; a hidden one is of memory that the module
-- can't name. A return has the value as it leaves the frame.
pub data What : Type 0 where
  Enter : (func : ℕ) → What
  Read : (block : ℕ) (origins : List Mark) → What
  Write : (block : ℕ) (origins : List Mark) → What
  HiddenRead : What
  HiddenWrite : What
  Free : (block : ℕ) → What
  Capture : (origins : List Mark) → What
  Return : (value : Option Value) → What
  Unwind : What

-- What happened, and the calls that stood: first the one on top, which made it, then those below it. So an event is in
-- the extent of exactly these calls. The call on top of an Enter is the one that begins by it.
pub record Event : Type 0 where
  pub calls : List Active
  pub what : What

-- what happens by the frame on top of this stack
abbrev pub event : List Frame → What → Event
event stack what = record { calls = map active stack; what = what }
