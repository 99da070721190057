-- Which accesses to memory an instruction makes (LangRef, "Function Attributes", `memory(..)`).
use Rattle.std.specs.Prelude.{◌≡◌, ◌⊎◌, Bool, true, false, Option, None, Some}
use Rattle.ir_module.specs.declared.op.Written.{Written}
use Rattle.ir_module.specs.declared.op.Op.{Op}
use Rattle.ir_module.specs.declared.op.Op.TheVariants as op
use Rattle.ir_module.specs.declared.module.Module.{Module}
use Rattle.ir_module.specs.Calls.{is_call}
use Rattle.facts.specs.Kinds.{Access, Read, Write, Location, Default, Argmem, Inaccessible, NoAccess, BlockClass, Argument, Global, Unknown, class_bit}
use Rattle.facts.specs.Facts.{Fact}
use Rattle.facts.specs.Promises.{call_has, CallSpeaks}
use Rattle.facts.specs.Known.{written_has, OperandSpeaks, PointersHave, PointersSpeak}

-- the address of an access of this kind: a load is a read, a store a write
abbrev pub address : Access → Op → Option Written
address Read (op.Load ptr align volatile) = Some ptr
address Write (op.Store val ptr align volatile) = Some ptr
address _ _ = None

-- a volatile load or store
abbrev pub is_volatile : Op → Bool
is_volatile (op.Load ptr align volatile) = volatile
is_volatile (op.Store val ptr align volatile) = volatile
is_volatile _ = false

-- the pointer is to no block of the class
abbrev pub IsNotTo : Module → (Fact → Bool) → BlockClass → Written → Type 0
IsNotTo m held class w = (written_has m held w (class_bit class) ≡ true) × (written_has m held w (class_bit Unknown) ≡ true)

-- no pointer among the arguments is to a block of the class
abbrev pub AreNotTo : Module → (Fact → Bool) → BlockClass → Op → Type 0
AreNotTo m held class o = PointersHave m held o (class_bit class) × PointersHave m held o (class_bit Unknown)

-- the call makes no such access to a block of the class: none by itself, and none through its arguments or none of them is to one
abbrev pub CallIsOff : Module → (Fact → Bool) → Access → BlockClass → Op → Type 0
CallIsOff m held a class o = (call_has m held (NoAccess a Default) o ≡ true) ×
    ((call_has m held (NoAccess a Argmem) o ≡ true) ⊎ AreNotTo m held class o)

-- the instruction makes no access of this kind to a block of the class
pub record IsOff (m : Module) (held : Fact → Bool) (a : Access) (class : BlockClass) (o : Op) : Type 0 where
  pub access : (w : Written) → address a o ≡ Some w → IsNotTo m held class w
  pub call : is_call o ≡ true → CallIsOff m held a class o

-- the instruction makes no access of this kind to what only code outside of the module reaches
pub record IsVisible (m : Module) (held : Fact → Bool) (a : Access) (o : Op) : Type 0 where
  pub access : is_volatile o ≡ false
  pub call : is_call o ≡ true → call_has m held (NoAccess a Inaccessible) o ≡ true

-- the instruction makes no access of this kind at the location
abbrev pub KeepsOff : Module → (Fact → Bool) → Access → Location → Op → Type 0
KeepsOff m held a Argmem o = IsOff m held a Argument o
KeepsOff m held a Default o = IsOff m held a Global o
KeepsOff m held a Inaccessible o = IsVisible m held a o

-- ---- what the rules speak of

-- the two facts of a pointer
abbrev pub ToSpeaks : BlockClass → Written → Fact → Type 0
ToSpeaks class w y = OperandSpeaks w (class_bit class) y ⊎ OperandSpeaks w (class_bit Unknown) y

-- the facts of the callee and of the arguments
abbrev pub OffCallSpeaks : Module → Access → BlockClass → Op → Fact → Type 0
OffCallSpeaks m a class o y = (CallSpeaks m (NoAccess a Default) o y ⊎ CallSpeaks m (NoAccess a Argmem) o y) ⊎
    (PointersSpeak m o (class_bit class) y ⊎ PointersSpeak m o (class_bit Unknown) y)

-- a load or a store speaks of its address, and a call of its callee and its arguments
abbrev pub OffSpeaks : Module → Access → BlockClass → Op → Fact → Type 0
OffSpeaks m a class o y = ((w : Written) × (address a o ≡ Some w) × ToSpeaks class w y) ⊎ OffCallSpeaks m a class o y

-- what the rules of memory speak of at an instruction
abbrev pub AccessSpeaks : Module → Access → Location → Op → Fact → Type 0
AccessSpeaks m a Argmem o y = OffSpeaks m a Argument o y
AccessSpeaks m a Default o y = OffSpeaks m a Global o y
AccessSpeaks m a Inaccessible o y = CallSpeaks m (NoAccess a Inaccessible) o y

-- the rule of the location speaks of this instruction at all
abbrev pub IsAccess : Access → Location → Op → Type 0
IsAccess a Inaccessible o = (is_volatile o ≡ true) ⊎ (is_call o ≡ true)
IsAccess a _ o = ((w : Written) × (address a o ≡ Some w)) ⊎ (is_call o ≡ true)
