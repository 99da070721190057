-- Types of values, as far as they tell pointers from all else: what is demanded of a module, and what values are then.
use Rattle.std.specs.Prelude.{◌≡◌, ℕ, Bool, true, false, List, slice_get, Option, None, Some}
use Rattle.std.specs.List.{AllByRecursion}
use Rattle.attr_ids.specs.declared.ids.TypeId.{TypeId}
use Rattle.ir_module.specs.declared.op.Arm.{Arm}
use Rattle.ir_module.specs.declared.op.Call.{Call}
use Rattle.ir_module.specs.declared.op.Op.{Op}
use Rattle.ir_module.specs.declared.op.Op.TheVariants as op
use Rattle.ir_module.specs.declared.op.Operand.{Operand}
use Rattle.ir_module.specs.declared.op.Operand.TheVariants as operand
use Rattle.ir_module.specs.declared.op.Written.{Written}
use Rattle.ir_module.specs.declared.op.Instr.{Instr}
use Rattle.ir_module.specs.declared.module.Func.{Func}
use Rattle.ir_module.specs.declared.module.Spot.{Spot}
use Rattle.ir_module.specs.declared.module.ValueInfo.{ValueInfo}
use Rattle.ir_module.specs.declared.module.Module.{Module}
use Rattle.ir_module.specs.Places.{instr_at, IsIn}
use Rattle.ir_module.specs.Operands.{operands}
use Rattle.ir_module.specs.Calls.{call_of}
use Rattle.ir_module.specs.WellFormed.{IsWellFormed}
use Rattle.facts.specs.Bodies.{is_pointer}
use Rattle.facts.specs.Facts.{Fact}
use Rattle.facts.specs.Masks.{has_bit_of}
use Rattle.ir_machine.specs.declared.choice.Choice.{Choice}
use Rattle.ir_machine.specs.declared.choice.Datum.{Datum}
use Rattle.ir_machine.specs.declared.choice.Datum.TheVariants as datum
use Rattle.ir_machine.specs.declared.choice.Value.{Value}
use Rattle.ir_machine.specs.Arguments.{IsNoAddress}
use Rattle.ir_machine.specs.Frames.{At, Frame, Body, Outside, call_of as call_in, State}
use Rattle.ir_machine.specs.Runs.{Done, IsOpening, run}

-- ---- what the types of a module are to each other

-- both types are pointers, or neither is
abbrev pub AreAlike : Module → TypeId → TypeId → Type 0
AreAlike m t u = is_pointer m t ≡ is_pointer m u

-- An operand is written with its type: a value with one like its own, an address as a pointer, a number as none.
abbrev pub IsWrittenAs : Module → TypeId → Operand → Type 0
IsWrittenAs m t (operand.Value v) = (info : ValueInfo) × (slice_get m.values v.0 ≡ Some info) × AreAlike m info.ty t
IsWrittenAs m t (operand.Int bits fits) = is_pointer m t ≡ false
IsWrittenAs m t (operand.Truth value) = is_pointer m t ≡ false
IsWrittenAs m t (operand.AnyInt first count) = is_pointer m t ≡ false
IsWrittenAs m t operand.Null = is_pointer m t ≡ true
IsWrittenAs m t (operand.Global g) = is_pointer m t ≡ true
IsWrittenAs m t (operand.Func f) = is_pointer m t ≡ true
IsWrittenAs m t (operand.Offset base bytes inbounds wrap) = is_pointer m t ≡ true
IsWrittenAs m t _ = Unit {0}

-- the operands of a call but the callee, all those of another instruction
abbrev pub typed_in : Option Call → List Written → List Written
typed_in None all = all
typed_in (Some call) all = call.args

-- the operands that are written with their types
abbrev pub typed : Op → List Written
typed o = typed_in (call_of o) (operands o)

-- the type of an instruction is the one that its operation gives
abbrev pub GivesType : Module → TypeId → Op → Type 0
GivesType m t (op.Bin kind flagged a b) = is_pointer m t ≡ false
GivesType m t (op.Icmp pred flagged a b) = is_pointer m t ≡ false
GivesType m t (op.Cast kind flagged a) = is_pointer m t ≡ false
GivesType m t (op.Select c a b) = AreAlike m a.ty t × AreAlike m b.ty t
GivesType m t (op.Freeze a) = AreAlike m a.ty t
GivesType m t (op.Phi arms) = (k : ℕ) (arm : Arm) → slice_get arms k ≡ Some arm → AreAlike m arm.val.ty t
GivesType m t (op.Alloca ty count align) = is_pointer m t ≡ true
GivesType m t (op.Gep elem base indices inbounds wrap) = is_pointer m t ≡ true
GivesType m t (op.Call call) = AreAlike m call.func_ty.ret t
GivesType m t (op.Invoke call normal unwind) = AreAlike m call.func_ty.ret t
GivesType m t (op.LandingPad catch_all clauses) = is_pointer m t ≡ false
GivesType m t _ = Unit {0}

-- an argument of a call is of the type that the written function type has at its place
abbrev pub PassesTypes : Module → Call → Type 0
PassesTypes m call = (k : ℕ) (w : Written) (t : TypeId) → slice_get call.args k ≡ Some w → slice_get call.func_ty.params k ≡ Some t → AreAlike m w.ty t

-- what an instruction demands of types
pub record IsTyped (m : Module) (instr : Instr) : Type 0 where
  pub operands : (k : ℕ) (w : Written) → slice_get (typed instr.op) k ≡ Some w → IsWrittenAs m w.ty w.val
  pub result : GivesType m instr.ty instr.op
  pub args : (call : Call) → call_of instr.op ≡ Some call → PassesTypes m call

-- a `ret` returns a value of its function's return type
abbrev pub ReturnsType : Module → Func → Op → Type 0
ReturnsType m func (op.Ret (Some w)) = AreAlike m w.ty func.ret
ReturnsType m func _ = Unit {0}

-- The types of a module tell pointers from all else. A module whose operands have their written types (V7), whose casts give
-- integers, whose selects have arms of one type, whose calls pass what their function type says and whose returns have their
-- function's type (V9, V13 to V15, V19) has such types, where the type of an instruction is the one that its text gives it.
pub record HasTypes (m : Module) : Type 0 where
  pub instrs : (s : Spot) (instr : Instr) → instr_at m s ≡ Some instr → IsTyped m instr
  pub returns : (f : ℕ) (func : Func) (s : Spot) (instr : Instr) → slice_get m.funcs f ≡ Some func → IsIn m f s → instr_at m s ≡ Some instr →
      ReturnsType m func instr.op

-- for every well formed module whose types tell pointers from all else, every opening state and all choices
abbrev pub InTypedRuns : (Module → List Done → Type 0) → Type 0
InTypedRuns Q = (m : Module) → IsWellFormed m → HasTypes m → (opening : State) → IsOpening m opening → (choices : List Choice) → Q m (run m opening choices)

-- ---- what values are

-- the datum of a pointer: a place in memory, null, undef or poison
abbrev pub IsPointerDatum : Datum → Type 0
IsPointerDatum (datum.Ptr block offset) = Unit {0}
IsPointerDatum datum.Null = Unit {0}
IsPointerDatum datum.Undef = Unit {0}
IsPointerDatum datum.Poison = Unit {0}
IsPointerDatum (datum.Int bits) = ⊥
IsPointerDatum datum.Pair = ⊥

-- a pointer, or a value that is none: it has no origins and is no address
abbrev pub IsOf : Bool → Value → Type 0
IsOf true x = IsPointerDatum x.datum
IsOf false x = IsNoAddress x

-- the value is one of the type, as far as pointers go
abbrev pub HasType : Module → TypeId → Value → Type 0
HasType m t x = IsOf (is_pointer m t) x

-- each value that the frame has made has its type
abbrev pub FrameIsTyped : Module → Frame → Type 0
FrameIsTyped m (Body frame) = (v : ℕ) (info : ValueInfo) (x : Value) → slice_get m.values v ≡ Some info → frame.values v ≡ Some x → HasType m info.ty x
FrameIsTyped m (Outside frame) = Unit {0}

-- so in each frame that stands
abbrev pub FramesAreTyped : Module → State → Type 0
FramesAreTyped m t = AllByRecursion (FrameIsTyped m) t.stack

-- an argument of the frame's call that points to a block is written as a pointer
abbrev pub HasTypedAddresses : Module → Frame → Type 0
HasTypedAddresses m frame = (s : Spot) (instr : Instr) (call : Call) (k : ℕ) (w : Written) (x : Value) (b o : ℕ) → (call_in frame).made ≡ At s →
    instr_at m s ≡ Some instr → call_of instr.op ≡ Some call → slice_get call.args k ≡ Some w → slice_get (call_in frame).passed k ≡ Some x →
    x.datum ≡ datum.Ptr b o → is_pointer m w.ty ≡ true

-- so of each call that stands
abbrev pub PassesAddresses : Module → Done → Type 0
PassesAddresses m d = AllByRecursion (HasTypedAddresses m) d.before.stack

-- ---- facts and their masks

-- each fact of the set is a bit of its position's mask, whether that kind of bit is built or not
abbrev pub HasItsBits : Module → (Fact → Bool) → Type 0
HasItsBits m held = (x : Fact) → held x ≡ true → has_bit_of m x.pos x.bit ≡ true
