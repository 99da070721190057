-- What a set of facts says of a run, up to any step of it.
use Rattle.std.specs.Prelude.{◌≡◌, ◌≢◌, ◌+◌, ◌||◌, ℕ, Bool, true, false, if◌then◌else◌, List, [], ◌∷◌, slice_get, Some, All}
use Rattle.std.specs.List.{AllByRecursion}
use Rattle.ir_module.specs.declared.attrs.MemoryAttr.{MemoryAttr}
use Rattle.ir_module.specs.declared.module.Param.{Param}
use Rattle.ir_module.specs.declared.module.Module.{Module}
use Rattle.facts.specs.Kinds.{Access, Read as Reads, Write as Writes, Location, Default, Argmem, Inaccessible, NoUnwind, NoReturn, NoFree, NoAccess, UseFact}
use Rattle.facts.specs.Kinds.{CapturedByReturnAlone, NotReturned, NotThrough, use_bit}
use Rattle.facts.specs.Bodies.{body_count, IsBodyNumber, param_of}
use Rattle.facts.specs.Facts.{Fact, dead, of_function, of_value, at_entry, of_return, unreached_by}
use Rattle.ir_machine.specs.declared.choice.Byte.{Byte}
use Rattle.ir_machine.specs.declared.choice.Byte.TheVariants as byte
use Rattle.ir_machine.specs.declared.choice.Mark.{Mark}
use Rattle.ir_machine.specs.declared.choice.Value.{Value}
use Rattle.ir_machine.specs.Frames.{Frame, Body, Outside, Active, active, State, Event, Enter, Capture, Return}
use Rattle.ir_machine.specs.Runs.{Done, events_of}
use Rattle.ir_machine.specs.Meanings.{IsBy, IsDuring, IsBelow, IsMarked, IsUnread, IsUnwritten, BeginsIn, HoldsOfBody, nounwind, noreturn, nofree, memory}
use Rattle.fact_meanings.specs.Values.{BitsHold, IsInClasses, FramesAreRight}

-- ---- dead segments

-- the frame on top does not stand in segment k
abbrev pub IsOutOf : ℕ → List Frame → Type 0
IsOutOf k [] = Unit {0}
IsOutOf k (Body frame ∷ below) = frame.spot.seg.0 ≢ k
IsOutOf k (Outside frame ∷ below) = Unit {0}

-- No step of the segment is done: the frame on top stands in it neither before a step nor after it, so that no phi of its block
-- is done either, which the edge into it does.
abbrev pub IsNeverDone : ℕ → List Done → Type 0
IsNeverDone k steps = All (λ d. IsOutOf k d.before.stack × IsOutOf k d.next.stack) steps

-- each frame stands in a segment that is not dead; this is what laws go by
abbrev pub StandsLive : (Fact → Bool) → Frame → Type 0
StandsLive held (Body frame) = held (dead frame.spot.seg.0) ≡ false
StandsLive held (Outside frame) = Unit {0}

-- ---- bodies

-- 1 for an access that the facts leave possible at the location, times its bit
abbrev pub left : (Fact → Bool) → ℕ → Location → Access → ℕ → ℕ
left held f location access bit = if held (of_function (NoAccess access location) f) then 0 else bit

-- the accesses that the facts leave possible at a location: bit 0 reads, bit 1 writes
abbrev pub allowed : (Fact → Bool) → ℕ → Location → ℕ
allowed held f location = left held f location Reads 1 + left held f location Writes 2

-- the `memory(..)` that the six facts of memory make together
abbrev pub memory_of : (Fact → Bool) → ℕ → MemoryAttr
memory_of held f = record { other = allowed held f Default; argmem = allowed held f Argmem; inaccessible = allowed held f Inaccessible }

-- what the facts of body f say of each of its calls; those of memory say one thing together
pub record BodyHolds (held : Fact → Bool) (f : ℕ) (steps : List Done) : Type 0 where
  pub nounwind : held (of_function NoUnwind f) ≡ true → HoldsOfBody nounwind f steps
  pub noreturn : held (of_function NoReturn f) ≡ true → HoldsOfBody noreturn f steps
  pub nofree : held (of_function NoFree f) ≡ true → HoldsOfBody nofree f steps
  pub memory : HoldsOfBody (memory (memory_of held f)) f steps

-- ---- reach

-- the event is no entry of g in the extent of a call of f, but for its own
abbrev pub IsUnreachedBy : ℕ → ℕ → Event → Type 0
IsUnreachedBy f g e = (a : Active) → a.body ≡ Some f → IsBelow a e → e.what ≡ Enter g → ⊥

-- a row says that its body does not reach the other, and the row of the outside that the other is never entered
pub record RowHolds (m : Module) (held : Fact → Bool) (r t : ℕ) (steps : List Done) : Type 0 where
  pub body : held (unreached_by r t) ≡ true → (f g : ℕ) → IsBodyNumber m r f → IsBodyNumber m t g → All (IsUnreachedBy f g) (events_of steps)
  pub outside : held (unreached_by (body_count m) t) ≡ true → (g : ℕ) → IsBodyNumber m t g → All (λ e. e.what ≢ Enter g) (events_of steps)

-- ---- entries and returns

-- where a call of body f begins, its parameter number `at` is as the word of the entry says
abbrev pub EntryHolds : (Fact → Bool) → ℕ → ℕ → Done → Type 0
EntryHolds held f at d = (a : Active) (x : Value) → BeginsIn d a → a.body ≡ Some f → slice_get a.call.args at ≡ Some x →
    BitsHold d.next.memory a.call (λ bit. held (at_entry f at bit)) x.datum

-- What a call of body f returns is as the word of its return says: its classes while the frame stands, all else, its bytes among
-- them, when the frame has been taken away.
pub record ReturnHolds (held : Fact → Bool) (f : ℕ) (d : Done) (a : Active) (x : Value) : Type 0 where
  pub bits : BitsHold d.next.memory a.call (λ bit. held (of_return f bit)) x.datum
  pub classes : IsInClasses d.before.memory a.call (λ bit. held (of_return f bit)) x.datum

-- the call returns x in this event
abbrev pub IsReturnOf : Active → Value → Event → Type 0
IsReturnOf a x e = IsBy a e × (e.what ≡ Return (Some x))

-- so of each return of a call of body f
abbrev pub ReturnsHold : (Fact → Bool) → ℕ → Done → Type 0
ReturnsHold held f d = All (λ e. (a : Active) (x : Value) → a.body ≡ Some f → IsReturnOf a x e → ReturnHolds held f d a x) d.events

-- ---- uses of parameters

-- a fact of the uses of value v
abbrev pub has_use : (Fact → Bool) → ℕ → UseFact → Bool
has_use held v kind = held (of_value v (use_bit kind))

-- one of the facts that refuse a store of the value
abbrev pub is_unstored : (Fact → Bool) → ℕ → Bool
is_unstored held v = has_use held v CapturedByReturnAlone || has_use held v (NotThrough Reads) || has_use held v (NotThrough Writes)

-- no value that came into the call as this argument is returned by it
abbrev pub IsUnreturned : Active → ℕ → Event → Type 0
IsUnreturned a at e = IsBy a e → (x : Value) → e.what ≡ Return (Some x) → IsMarked a at x.origins → ⊥

-- no capture of the argument in the extent
abbrev pub IsUncapturedIn : Active → ℕ → Event → Type 0
IsUncapturedIn a at e = IsDuring a e → (origins : List Mark) → e.what ≡ Capture origins → IsMarked a at origins → ⊥

-- what the facts of the uses of value v say of each event, where v is the parameter `at` of a call; `not returned` claims something
-- beside another of them alone
pub record UsesHold (held : Fact → Bool) (v : ℕ) (a : Active) (at : ℕ) (e : Event) : Type 0 where
  pub captured : has_use held v CapturedByReturnAlone ≡ true → IsUncapturedIn a at e
  pub returned : has_use held v NotReturned ≡ true → is_unstored held v ≡ true → IsUnreturned a at e
  pub read : has_use held v (NotThrough Reads) ≡ true → IsUnread a at e
  pub written : has_use held v (NotThrough Writes) ≡ true → IsUnwritten a at e

-- a byte is no fragment of what came into the call as this argument
abbrev pub IsCleanByte : Active → ℕ → Byte → Type 0
IsCleanByte a at (byte.Number n) = Unit {0}
IsCleanByte a at byte.Undef = Unit {0}
IsCleanByte a at byte.Poison = Unit {0}
IsCleanByte a at (byte.Fragment k x) = IsMarked a at x.origins → ⊥

-- nothing that came into the call as this argument lies in memory or is kept by the outside
pub record IsClean (a : Active) (at : ℕ) (t : State) : Type 0 where
  pub bytes : (b offset : ℕ) → IsCleanByte a at (t.memory.bytes b offset)
  pub kept : AllByRecursion (λ x. IsMarked a at x.origins → ⊥) t.kept

-- the call stands
abbrev pub Stands : Active → List Frame → Type 0
Stands a stack = (k : ℕ) × (frame : Frame) × (slice_get stack k ≡ Some frame) × (active frame ≡ a)

-- where the uses refuse a store, nothing that came in as the argument is stored while the call stands, by the module or by the outside
abbrev pub StaysClean : (Fact → Bool) → ℕ → Active → ℕ → Done → Type 0
StaysClean held v a at d = is_unstored held v ≡ true → Stands a d.next.stack → IsClean a at d.next

-- the value is parameter `at` of the body
abbrev pub IsParamOf : Module → ℕ → ℕ → ℕ → Type 0
IsParamOf m f at v = (p : Param) × (param_of m f at ≡ Some p) × (p.value.0 ≡ v)

-- what the uses of the parameters of body f say
pub record ParamUsesHold (m : Module) (held : Fact → Bool) (f at v : ℕ) (steps : List Done) : Type 0 where
  pub events : (a : Active) → a.body ≡ Some f → All (UsesHold held v a at) (events_of steps)
  pub clean : (a : Active) → a.body ≡ Some f → All (StaysClean held v a at) steps

-- ---- the whole

-- What a set of facts says of a run.
pub record FactsHold (m : Module) (held : Fact → Bool) (steps : List Done) : Type 0 where
  pub dead : (k : ℕ) → held (dead k) ≡ true → IsNeverDone k steps
  pub bodies : (f : ℕ) → BodyHolds held f steps
  pub rows : (r t : ℕ) → RowHolds m held r t steps
  pub values : All (λ d. FramesAreRight held d.before × FramesAreRight held d.next) steps
  pub entries : (f at : ℕ) → All (EntryHolds held f at) steps
  pub returns : (f : ℕ) → All (ReturnsHold held f) steps
  pub uses : (f at v : ℕ) → IsParamOf m f at v → ParamUsesHold m held f at v steps
