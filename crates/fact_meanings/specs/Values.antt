-- What facts say of values: of a frame's, at entry and at return, by the bits that are held.
use Rattle.std.specs.Prelude.{◌≡◌, ◌≢◌, ℕ, Bool, true, false, slice_get, Option, None, Some}
use Rattle.std.specs.List.{AllByRecursion}
use Rattle.facts.specs.Kinds.{ValueFact, SameAs, NonNull, AlignedTo, HasBytes as Bytes, NotTo, UsedSo, BlockClass, OwnAlloca, Argument, Global, Unknown}
use Rattle.facts.specs.Kinds.{class_bit, value_fact}
use Rattle.facts.specs.Facts.{Fact, of_value}
use Rattle.ir_module.specs.declared.op.Symbol.{Symbol}
use Rattle.ir_machine.specs.declared.choice.Datum.{Datum}
use Rattle.ir_machine.specs.declared.choice.Datum.TheVariants as datum
use Rattle.ir_machine.specs.declared.choice.Value.{Value}
use Rattle.ir_machine.specs.Memory.{OfSymbol, OfAlloca, Dead, Memory}
use Rattle.ir_machine.specs.Frames.{Begun, Frame, Body, Outside, State}
use Rattle.ir_machine.specs.Meanings.{IsArgumentBlock, IsNonnull, IsAligned, HasBytes}

-- ---- the blocks to which a pointer may be

-- the block is of this class, seen from a call: an alloca of its frame, one that a pointer argument points to, a global's or a
-- function's, or any
abbrev pub IsOfClass : Memory → Begun → BlockClass → ℕ → Type 0
IsOfClass mem call OwnAlloca b = (value : ℕ) × ((mem.shape b).kind ≡ OfAlloca call.number value)
IsOfClass mem call Argument b = IsArgumentBlock call b
IsOfClass mem call Global b = (symbol : Symbol) × ((mem.shape b).kind ≡ OfSymbol symbol)
IsOfClass mem call Unknown b = Unit {0}

-- The four facts of classes say one thing together: a pointer to a block that is not dead is to a block of a class whose fact is
-- not held.
abbrev pub IsInClasses : Memory → Begun → (ℕ → Bool) → Datum → Type 0
IsInClasses mem call word d = (b o : ℕ) → d ≡ datum.Ptr b o → mem.life b ≢ Dead →
    (class : BlockClass) × (word (class_bit class) ≡ false) × IsOfClass mem call class b

-- ---- the bits

-- what a bit of a value says of it, but for the classes of blocks, which are said together, and for uses, which are said of runs
abbrev pub SaysOfValue : Memory → Begun → Option ValueFact → Datum → Type 0
SaysOfValue mem call None d = Unit {0}
SaysOfValue mem call (Some (SameAs parameter)) d = (x : Value) → slice_get call.args parameter ≡ Some x → d ≡ x.datum
SaysOfValue mem call (Some NonNull) d = IsNonnull d
SaysOfValue mem call (Some (AlignedTo bytes)) d = IsAligned mem bytes d
SaysOfValue mem call (Some (Bytes count)) d = HasBytes mem count d
SaysOfValue mem call (Some (NotTo class)) d = Unit {0}
SaysOfValue mem call (Some (UsedSo kind)) d = Unit {0}

-- each bit that is held says what it says
abbrev pub BitsHold : Memory → Begun → (ℕ → Bool) → Datum → Type 0
BitsHold mem call word d = (bit : ℕ) → word bit ≡ true → SaysOfValue mem call (value_fact bit) d

-- a value is as its word says, seen from the call in whose frame it is
pub record IsRight (mem : Memory) (call : Begun) (word : ℕ → Bool) (d : Datum) : Type 0 where
  pub bits : BitsHold mem call word d
  pub classes : IsInClasses mem call word d

-- ---- frames and states

-- each value that a frame has made is as its word says
abbrev pub FrameIsRight : (Fact → Bool) → Memory → Frame → Type 0
FrameIsRight held mem (Body frame) = (v : ℕ) (x : Value) → frame.values v ≡ Some x → IsRight mem frame.call (λ bit. held (of_value v bit)) x.datum
FrameIsRight held mem (Outside frame) = Unit {0}

-- so in each frame that stands
abbrev pub FramesAreRight : (Fact → Bool) → State → Type 0
FramesAreRight held t = AllByRecursion (FrameIsRight held t.memory) t.stack
