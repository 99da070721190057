-- Honest runs: each call of the outside keeps what its declaration and its call promise.
use Rattle.std.specs.Prelude.{◌≡◌, ℕ, Bool, true, false, List, Option, None, Some, All}
use Rattle.ir_module.specs.declared.op.Instr.{Instr}
use Rattle.ir_module.specs.declared.module.Module.{Module}
use Rattle.ir_module.specs.Places.{instr_at}
use Rattle.ir_module.specs.Calls.{Promise, Nounwind, Noreturn, Nofree, Nocallback, Memory, Nocapture, Readnone, Readonly, Writeonly, Returned, Nonnull, Align}
use Rattle.ir_module.specs.Calls.{Dereferenceable, is_promised}
use Rattle.ir_machine.specs.Frames.{Made, Lowest, Entered, At, Active, Event}
use Rattle.ir_machine.specs.Runs.{Done, events_of}
use Rattle.ir_machine.specs.Meanings.{Keeps, nounwind, noreturn, nofree, nocallback, memory, nocapture, readnone, readonly, writeonly, returned}

-- What a promise permits of each event: what the attribute of its name asks. The last three are promises on the result: the
-- machine acts on it when the call returns, so that they ask nothing of the outside.
abbrev pub Permits : Promise → Active → Event → Type 0
Permits Nounwind a e = Keeps nounwind a e
Permits Noreturn a e = Keeps noreturn a e
Permits Nofree a e = Keeps nofree a e
Permits Nocallback a e = Keeps nocallback a e
Permits (Memory access) a e = Keeps (memory access) a e
Permits (Nocapture at) a e = Keeps (nocapture at) a e
Permits (Readnone at) a e = Keeps (readnone at) a e
Permits (Readonly at) a e = Keeps (readonly at) a e
Permits (Writeonly at) a e = Keeps (writeonly at) a e
Permits (Returned at) a e = Keeps (returned at) a e
Permits Nonnull a e = Unit {0}
Permits (Align bytes) a e = Unit {0}
Permits (Dereferenceable bytes) a e = Unit {0}

-- ---- promises

-- the promise is made at the instruction
abbrev pub promised_in : Module → Promise → Option Instr → Bool
promised_in m p None = false
promised_in m p (Some instr) = is_promised m p instr.op

-- the promise is made where the call began
abbrev pub promised_at : Module → Promise → Made → Bool
promised_at m p Lowest = false
promised_at m p Entered = false
promised_at m p (At spot) = promised_in m p (instr_at m spot)

-- a call of a body makes no promise
abbrev pub promised_to : Module → Promise → Made → Option ℕ → Bool
promised_to m p made None = promised_at m p made
promised_to m p made (Some f) = false

-- an outer call promises what is written at its call instruction or at the declaration of its callee
abbrev pub promises : Module → Promise → Active → Bool
promises m p a = promised_to m p a.call.made a.body

-- an event that every call permits by each of its promises
abbrev pub IsFair : Module → Event → Type 0
IsFair m e = (p : Promise) (a : Active) → promises m p a ≡ true → Permits p a e

-- each outer call keeps each of its promises at every moment
abbrev pub IsHonest : Module → List Done → Type 0
IsHonest m steps = All (IsFair m) (events_of steps)
