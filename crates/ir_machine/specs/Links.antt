-- How the frames of a stack are linked to each other.
use Rattle.std.specs.Prelude.{◌≡◌, ◌<◌, ℕ, true, List, [], ◌∷◌, Option, None, Some}
use Rattle.ir_module.specs.declared.op.Op.{Op}
use Rattle.ir_module.specs.declared.op.Instr.{Instr}
use Rattle.ir_module.specs.declared.module.Module.{Module}
use Rattle.ir_module.specs.Places.{instr_at, IsIn}
use Rattle.ir_module.specs.Calls.{is_call, inner_callee, is_open}
use Rattle.ir_machine.specs.Frames.{Made, Lowest, Entered, At, Active, active, Frame, Body, Outside, call_of}

-- the instruction is a call that runs this body, or none of the module's where it is outer
abbrev pub CallsBody : Module → Option ℕ → Op → Type 0
CallsBody m body o = (is_call o ≡ true) × (body ≡ inner_callee m o)

-- the same, where there is an instruction
abbrev pub CallsBodyIn : Module → Option ℕ → Option Instr → Type 0
CallsBodyIn m body None = ⊥
CallsBodyIn m body (Some instr) = CallsBody m body instr.op

-- what a call that began so runs
abbrev pub BeginsAs : Module → Option ℕ → Made → Type 0
BeginsAs m body Lowest = body ≡ None
BeginsAs m body Entered = (f : ℕ) × (body ≡ Some f) × (is_open m f ≡ true)
BeginsAs m body (At spot) = CallsBodyIn m body (instr_at m spot)

-- A call runs what its beginning says: the lowest one the outside, one that the outside entered an open body,
-- one that was made at an instruction what that instruction calls.
abbrev pub RunsItsCallee : Module → Active → Type 0
RunsItsCallee m a = BeginsAs m a.body a.call.made

-- a module frame stands in the function that it runs
abbrev pub StandsInIt : Module → Frame → Type 0
StandsInIt m (Body frame) = IsIn m frame.func frame.spot
StandsInIt m (Outside frame) = Unit {0}

-- a call on a module frame was made where that frame stands, and one on an outside frame was entered by it
abbrev pub IsMadeBy : Frame → Frame → Type 0
IsMadeBy top (Body frame) = (call_of top).made ≡ At frame.spot
IsMadeBy top (Outside frame) = (call_of top).made ≡ Entered

-- the frame runs what its beginning says, and stands in it
abbrev pub IsPlaced : Module → Frame → Type 0
IsPlaced m frame = RunsItsCallee m (active frame) × StandsInIt m frame

-- each frame of top and below was made by the one under it, the last one is the lowest
abbrev pub AreLinked : Module → Frame → List Frame → Type 0
AreLinked m top [] = IsPlaced m top × ((call_of top).made ≡ Lowest)
AreLinked m top (under ∷ below) = IsPlaced m top × IsMadeBy top under × AreLinked m under below

-- each frame was made by the one below it, down to the lowest one
abbrev pub IsLinked : Module → List Frame → Type 0
IsLinked m [] = ⊥
IsLinked m (top ∷ below) = AreLinked m top below

-- each frame's call has a number below the one that is given, and below those of the calls above it
abbrev pub AreNumbered : ℕ → List Frame → Type 0
AreNumbered next [] = Unit {0}
AreNumbered next (frame ∷ below) = ((call_of frame).number < next) × AreNumbered (call_of frame).number below
