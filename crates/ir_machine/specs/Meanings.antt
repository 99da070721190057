-- What attributes mean of a call, and of a value, in a run (LangRef, "Function Attributes", "Parameter Attributes"). An
-- attribute holds where its line is true at every moment of the run.
use Rattle.std.specs.Prelude.{◌≡◌, ◌⊎◌, ℕ, ◌+◌, ◌/◌, ◌%◌, ◌<◌, ◌≤◌, ◌==◌, Bool, true, slice_get, List, ◌∷◌, Option, None, Some, All}
use Rattle.ir_module.specs.declared.attrs.MemoryAttr.{MemoryAttr}
use Rattle.ir_module.specs.declared.op.Instr.{Instr}
use Rattle.ir_module.specs.declared.module.Spot.{Spot}
use Rattle.ir_module.specs.declared.module.Module.{Module}
use Rattle.ir_module.specs.Places.{instr_at}
use Rattle.ir_machine.specs.declared.choice.Datum.{Datum}
use Rattle.ir_machine.specs.declared.choice.Datum.TheVariants as datum
use Rattle.ir_machine.specs.declared.choice.Mark.{Mark}
use Rattle.ir_machine.specs.declared.choice.Value.{Value}
use Rattle.ir_machine.specs.Memory.{Memory, Live, address}
use Rattle.ir_machine.specs.Frames.{Made, Lowest, Entered, At, Begun, Frame, Active, active, What, Enter, Read, Write, HiddenRead, HiddenWrite, Free, Capture}
use Rattle.ir_machine.specs.Frames.{Return, Unwind, Event}
use Rattle.ir_machine.specs.Moves.{Outcome, Gives}
use Rattle.ir_machine.specs.Calls.{came_back}
use Rattle.ir_machine.specs.Runs.{Done, events_of}

-- ---- what an attribute says of a call

-- the attributes of a call, each by its word; those of arguments are by the place among all arguments, from 0
pub data Attribute : Type 0 where
  nounwind : Attribute
  noreturn : Attribute
  nofree : Attribute
  norecurse : Attribute
  nocallback : Attribute
  memory : (access : MemoryAttr) → Attribute
  nocapture : (at : ℕ) → Attribute
  readnone : (at : ℕ) → Attribute
  readonly : (at : ℕ) → Attribute
  writeonly : (at : ℕ) → Attribute
  returned : (at : ℕ) → Attribute

-- the frame of this call made the event
abbrev pub IsBy : Active → Event → Type 0
IsBy a e = (below : List Active) × (e.calls ≡ a ∷ below)

-- the event is in the extent of this call: the call stood
abbrev pub IsDuring : Active → Event → Type 0
IsDuring a e = (k : ℕ) × (slice_get e.calls k ≡ Some a)

-- the event is in the extent of a call that was made, directly or not, by this one
abbrev pub IsBelow : Active → Event → Type 0
IsBelow a e = (top : Active) × (below : List Active) × (k : ℕ) × (e.calls ≡ top ∷ below) × (slice_get below k ≡ Some a)

-- a pointer with these origins came into the call as its argument at this place
abbrev pub IsMarked : Active → ℕ → List Mark → Type 0
IsMarked a at origins = (k : ℕ) × (slice_get origins k ≡ Some (record { call = a.call.number; param = at }))

-- the datum is a pointer to the block
abbrev pub PointsTo : ℕ → Datum → Type 0
PointsTo b (datum.Ptr block offset) = block ≡ b
PointsTo b _ = ⊥

-- an argument of the call points to the block: of a body its parameters after the entry rule, of an outer call as passed
abbrev pub IsArgumentBlock : Begun → ℕ → Type 0
IsArgumentBlock call b = (k : ℕ) × (x : Value) × (slice_get call.args k ≡ Some x) × PointsTo b x.datum

-- ---- memory

-- bit 0 of what is allowed at a location
abbrev pub allows_reads : ℕ → Bool
allows_reads access = access % 2 == 1

-- bit 1 of what is allowed at a location
abbrev pub allows_writes : ℕ → Bool
allows_writes access = (access / 2) % 2 == 1

-- an access of a block that existed before the call is allowed elsewhere, or in argument memory where the block is an argument's
abbrev pub IsAllowed : (ℕ → Bool) → MemoryAttr → Begun → ℕ → Type 0
IsAllowed allows access call b = b < call.born → (allows access.other ≡ true) ⊎ ((allows access.argmem ≡ true) × IsArgumentBlock call b)

-- what `memory(..)` allows of what happens in the extent of the call; hidden accesses are of inaccessible memory
abbrev pub MeetsMemory : MemoryAttr → Begun → What → Type 0
MeetsMemory access call (Read block origins) = IsAllowed allows_reads access call block
MeetsMemory access call (Write block origins) = IsAllowed allows_writes access call block
MeetsMemory access call HiddenRead = allows_reads access.inaccessible ≡ true
MeetsMemory access call HiddenWrite = allows_writes access.inaccessible ≡ true
MeetsMemory access call (Enter func) = Unit {0}
MeetsMemory access call (Free block) = Unit {0}
MeetsMemory access call (Capture origins) = Unit {0}
MeetsMemory access call (Return value) = Unit {0}
MeetsMemory access call Unwind = Unit {0}

-- ---- arguments

-- no capture of the argument in the extent, and the call returns nothing that came in as it
pub record IsUncaptured (a : Active) (at : ℕ) (e : Event) : Type 0 where
  pub captured : IsDuring a e → (origins : List Mark) → e.what ≡ Capture origins → IsMarked a at origins → ⊥
  pub returned : IsBy a e → (x : Value) → e.what ≡ Return (Some x) → IsMarked a at x.origins → ⊥

-- no read through the argument in the extent
abbrev pub IsUnread : Active → ℕ → Event → Type 0
IsUnread a at e = IsDuring a e → (block : ℕ) (origins : List Mark) → e.what ≡ Read block origins → IsMarked a at origins → ⊥

-- no write through the argument in the extent
abbrev pub IsUnwritten : Active → ℕ → Event → Type 0
IsUnwritten a at e = IsDuring a e → (block : ℕ) (origins : List Mark) → e.what ≡ Write block origins → IsMarked a at origins → ⊥

-- ---- the attributes of calls

-- What an attribute asks of each event, where it holds of the call.
abbrev pub Keeps : Attribute → Active → Event → Type 0
Keeps nounwind a e = IsBy a e → e.what ≡ Unwind → ⊥
Keeps noreturn a e = IsBy a e → (x : Option Value) → e.what ≡ Return x → ⊥
Keeps nofree a e = IsDuring a e → (b : ℕ) → e.what ≡ Free b → b < a.call.born → ⊥
Keeps norecurse a e = IsBelow a e → (f : ℕ) → a.body ≡ Some f → e.what ≡ Enter f → ⊥
Keeps nocallback a e = IsDuring a e → (f : ℕ) → e.what ≡ Enter f → ⊥
Keeps (memory access) a e = IsDuring a e → MeetsMemory access a.call e.what
Keeps (nocapture at) a e = IsUncaptured a at e
Keeps (readnone at) a e = IsUnread a at e × IsUnwritten a at e
Keeps (readonly at) a e = IsUnwritten a at e
Keeps (writeonly at) a e = IsUnread a at e
Keeps (returned at) a e = IsBy a e → (x y : Value) → e.what ≡ Return (Some x) → slice_get a.call.args at ≡ Some y → x.datum ≡ y.datum

-- the attribute holds of the call at every moment
abbrev pub HoldsOf : Attribute → Active → List Done → Type 0
HoldsOf attribute a steps = All (Keeps attribute a) (events_of steps)

-- ---- the attributes of values

-- the attributes of a value, each by its word
pub data ValueAttribute : Type 0 where
  nonnull : ValueAttribute
  align : (bytes : ℕ) → ValueAttribute
  dereferenceable : (bytes : ℕ) → ValueAttribute

-- neither null nor undef
abbrev pub IsNonnull : Datum → Type 0
IsNonnull datum.Null = ⊥
IsNonnull datum.Undef = ⊥
IsNonnull datum.Poison = Unit {0}
IsNonnull (datum.Ptr block offset) = Unit {0}
IsNonnull (datum.Int bits) = Unit {0}
IsNonnull datum.Pair = Unit {0}

-- null, poison, or a pointer whose address is a multiple
abbrev pub IsAligned : Memory → ℕ → Datum → Type 0
IsAligned mem bytes (datum.Ptr block offset) = address mem block offset % bytes ≡ 0
IsAligned mem bytes datum.Null = Unit {0}
IsAligned mem bytes datum.Poison = Unit {0}
IsAligned mem bytes datum.Undef = ⊥
IsAligned mem bytes (datum.Int bits) = ⊥
IsAligned mem bytes datum.Pair = ⊥

-- a pointer to a live block with at least so many bytes from its offset
abbrev pub HasBytes : Memory → ℕ → Datum → Type 0
HasBytes mem bytes (datum.Ptr block offset) = (mem.life block ≡ Live) × (offset + bytes ≤ (mem.shape block).size)
HasBytes mem bytes datum.Null = ⊥
HasBytes mem bytes datum.Poison = ⊥
HasBytes mem bytes datum.Undef = ⊥
HasBytes mem bytes (datum.Int bits) = ⊥
HasBytes mem bytes datum.Pair = ⊥

-- the attribute holds of a value in this memory
abbrev pub Has : ValueAttribute → Memory → Datum → Type 0
Has nonnull mem d = IsNonnull d
Has (align bytes) mem d = IsAligned mem bytes d
Has (dereferenceable bytes) mem d = HasBytes mem bytes d

-- which value of a call: an argument as it is passed, a parameter after the entry rule, or the result
pub data Place : Type 0 where
  Argument : (at : ℕ) → Place
  Parameter : (at : ℕ) → Place
  Result : Place

-- the call begins in this step: its frame is on top afterwards, and its number is new
pub record BeginsIn (d : Done) (a : Active) : Type 0 where
  pub frame : Frame
  pub below : List Frame
  pub stack : d.next.stack ≡ frame ∷ below
  pub is : active frame ≡ a
  pub new : a.call.number ≡ d.before.next_call

-- the result of a call that was made at this instruction
abbrev pub came_back_in : Module → Memory → Active → Option Instr → Value → Outcome (Option Value)
came_back_in m mem a None x = Gives (Some x)
came_back_in m mem a (Some instr) x = came_back m mem a.body instr.op (Some x)

-- the result of a call from the value that its frame returns: that of an outer call after the promised attributes have acted
abbrev pub result_by : Module → Memory → Active → Made → Value → Outcome (Option Value)
result_by m mem a Lowest x = Gives (Some x)
result_by m mem a Entered x = Gives (Some x)
result_by m mem a (At spot) x = came_back_in m mem a (instr_at m spot) x

-- the call returns in this step, with this result
pub record ReturnsIn (m : Module) (d : Done) (a : Active) (x : Value) : Type 0 where
  pub event : Event
  pub index : ℕ
  pub value : Value
  pub happens : slice_get d.events index ≡ Some event
  pub by : IsBy a event
  pub what : event.what ≡ Return (Some value)
  pub result : result_by m d.next.memory a a.call.made value ≡ Gives (Some x)

-- the call has this value at this place, in the memory after this step: where it begins, or when its frame has been taken away
abbrev pub IsValueIn : Module → Place → Active → Done → Value → Type 0
IsValueIn m (Argument at) a d x = BeginsIn d a × (slice_get a.call.passed at ≡ Some x)
IsValueIn m (Parameter at) a d x = BeginsIn d a × (slice_get a.call.args at ≡ Some x)
IsValueIn m Result a d x = ReturnsIn m d a x

-- the attribute holds of the value of the call at this place, at every moment at which the call has it
abbrev pub HoldsOfValue : Module → ValueAttribute → Place → Active → List Done → Type 0
HoldsOfValue m attribute place a steps = All (λ d. (x : Value) → IsValueIn m place a d x → Has attribute d.next.memory x.datum) steps

-- ---- where attributes are written

-- at a function, of every call of its body
abbrev pub HoldsOfBody : Attribute → ℕ → List Done → Type 0
HoldsOfBody attribute f steps = (a : Active) → a.body ≡ Some f → HoldsOf attribute a steps

-- at a call instruction, of every call that is made there
abbrev pub HoldsAtCall : Attribute → Spot → List Done → Type 0
HoldsAtCall attribute s steps = (a : Active) → a.call.made ≡ At s → HoldsOf attribute a steps

-- at the return or a parameter of a function
abbrev pub HoldsOfBodyValue : Module → ValueAttribute → Place → ℕ → List Done → Type 0
HoldsOfBodyValue m attribute place f steps = (a : Active) → a.body ≡ Some f → HoldsOfValue m attribute place a steps

-- at the return or an argument of a call instruction
abbrev pub HoldsAtCallValue : Module → ValueAttribute → Place → Spot → List Done → Type 0
HoldsAtCallValue m attribute place s steps = (a : Active) → a.call.made ≡ At s → HoldsOfValue m attribute place a steps
