-- Rules of single instructions: what their operands are.
use Rattle.std.specs.Prelude.{ℕ, ◌≡◌, ◌≤◌, ◌^◌, Bool, false, IsTrue, List, length, slice_get, Option, None, Some, IsSome, MatchBool}
use Rattle.std.specs.Int.{is_power_of_two}
use Rattle.attr_ids.specs.declared.ids.TypeId.{TypeId}
use Rattle.ir_types.specs.declared.ir_type.IrType.{IrType}
use Rattle.ir_ops.specs.declared.conversion.CastOp.{CastOp}
use Rattle.ir_ops.specs.declared.conversion.CastOp.TheVariants as cast
use Rattle.ir_module.specs.declared.attrs.ParamAttrs.{ParamAttrs}
use Rattle.ir_module.specs.declared.op.Written.{Written}
use Rattle.ir_module.specs.declared.op.Case.{Case}
use Rattle.ir_module.specs.declared.op.Call.{Call}
use Rattle.ir_module.specs.declared.op.Op.{Op}
use Rattle.ir_module.specs.declared.op.Op.TheVariants as op
use Rattle.ir_module.specs.declared.module.Func.{Func}
use Rattle.ir_module.specs.declared.module.Module.{Module}
use Rattle.ir_module.specs.Operands.{operands, literal}
use Rattle.ir_module.specs.WellFormed.{Each}
use Rattle.ir_operands.specs.declared.rule.ConstantRule.TheVariants as rule
use Rattle.ir_operands.specs.Types.{type_of, IsInteger, IsIntegerOf, IsPointer, IsScalar, IsPair, IsVoid, IsNarrower, AreOne}
use Rattle.ir_operands.specs.Constants.{FitsKind}
use Rattle.ir_operands.specs.Offsets.{indexed}
use Rattle.ir_rules.specs.Values.{EachKeeps, HasTypeOf}

-- V8: operations of two operands are on integers, comparisons on integers or pointers; the count of an alloca is an integer
abbrev pub IsOnIntegers : List IrType → Op → Type 0
IsOnIntegers types (op.Bin kind flagged a b) = IsInteger (type_of types a.ty) × IsInteger (type_of types b.ty)
IsOnIntegers types (op.Icmp pred flagged a b) = IsScalar (type_of types a.ty) × IsScalar (type_of types b.ty)
IsOnIntegers types (op.Alloca ty (Some count) align) = IsInteger (type_of types count.ty)
IsOnIntegers types _ = Unit {0}

-- from this type to that one: `trunc` to a narrower integer, `zext` and `sext` to a wider one, `ptrtoint` from a pointer to an integer
abbrev pub Converts : List IrType → CastOp → TypeId → TypeId → Type 0
Converts types cast.Trunc from to = IsNarrower (type_of types to) (type_of types from)
Converts types cast.ZExt from to = IsNarrower (type_of types from) (type_of types to)
Converts types cast.SExt from to = IsNarrower (type_of types from) (type_of types to)
Converts types cast.PtrToInt from to = IsPointer (type_of types from) × IsInteger (type_of types to)

-- V9: a cast goes from its operand's type to its own as its kind does
abbrev pub Casts : List IrType → TypeId → Op → Type 0
Casts types t (op.Cast kind flagged a) = Converts types kind a.ty t
Casts types t _ = Unit {0}

-- V10: the address of a load or a store is a pointer
abbrev pub HasPointerAddress : List IrType → Op → Type 0
HasPointerAddress types (op.Load ptr align volatile) = IsPointer (type_of types ptr.ty)
HasPointerAddress types (op.Store val ptr align volatile) = IsPointer (type_of types ptr.ty)
HasPointerAddress types _ = Unit {0}

-- indices are integers, and they lead to a part of the type: a struct is indexed by a literal below its number of fields,
-- and scalars are not indexed
pub record LeadsOn (types : List IrType) (elem : TypeId) (indices : List Written) : Type 0 where
  pub integers : Each indices (λ k w. IsInteger (type_of types w.ty))
  pub part : IsSome (indexed types elem indices)

-- a getelementptr has a pointer as its base, and its indices lead to a part
pub record IndexesFrom (types : List IrType) (elem : TypeId) (base : Written) (indices : List Written) : Type 0 where
  pub pointer : IsPointer (type_of types base.ty)
  pub leads : LeadsOn types elem indices

abbrev pub HasIndices : List IrType → Op → Type 0
HasIndices types (op.Gep elem base indices inbounds wrap) = IndexesFrom types elem base indices
HasIndices types _ = Unit {0}

-- V11 of an instruction, and of the constants in it
pub record Indexes (m : Module) (numbers : List ℕ) (o : Op) : Type 0 where
  pub indices : HasIndices m.types o
  pub constants : EachKeeps m numbers rule.Indexed (operands o)

-- no two cases are literals of one number
abbrev pub AreDistinct : Module → List Case → Type 0
AreDistinct m cases = (i j n : ℕ) (a b : Case) → slice_get cases i ≡ Some a → slice_get cases j ≡ Some b → literal m a.val ≡ Some n → literal m b.val ≡ Some n
    → i ≡ j

-- the operand of a `switch` is an integer, and its cases have its type and differ
pub record Switches (m : Module) (numbers : List ℕ) (on : Written) (cases : List Case) : Type 0 where
  pub integer : IsInteger (type_of m.types on.ty)
  pub types : Each cases (λ k case. AreOne numbers case.val.ty on.ty)
  pub distinct : AreDistinct m cases

-- V12: the condition of a `br` is an i1; the operand of a `switch` is an integer, and its cases have its type and differ
abbrev pub Branches : Module → List ℕ → Op → Type 0
Branches m numbers (op.Branch c so otherwise) = IsIntegerOf 1 (type_of m.types c.ty)
Branches m numbers (op.Switch on other cases) = Switches m numbers on cases
Branches m numbers _ = Unit {0}

-- V13: a `ret` has the return type of its function
abbrev pub Returns : List IrType → List ℕ → Func → Op → Type 0
Returns types numbers func (op.Ret None) = IsVoid (type_of types func.ret)
Returns types numbers func (op.Ret (Some val)) = AreOne numbers val.ty func.ret
Returns types numbers func _ = Unit {0}

abbrev pub SelectsOf : List IrType → List ℕ → Written → Written → Written → Type 0
SelectsOf types numbers c a b = IsIntegerOf 1 (type_of types c.ty) × AreOne numbers a.ty b.ty

-- V14: the condition of a `select` is an i1, and its arms have one type
abbrev pub Selects : List IrType → List ℕ → Op → Type 0
Selects types numbers (op.Select c a b) = SelectsOf types numbers c a b
Selects types numbers _ = Unit {0}

-- a value has the type that is written for it, and a constant is of its kind
pub record IsOfType (m : Module) (numbers : List ℕ) (w : Written) : Type 0 where
  pub value : HasTypeOf m numbers w.ty w.val
  pub constant : FitsKind m.types numbers m.parts (type_of m.types w.ty) w.val

-- a callee is a pointer
pub record IsCallee (m : Module) (numbers : List ℕ) (w : Written) : Type 0 where
  pub pointer : IsPointer (type_of m.types w.ty)
  pub of_type : IsOfType m numbers w

-- there are as many arguments as parameters; a variadic function may be given more
abbrev pub IsAsMany : Bool → List TypeId → List Written → Type 0
IsAsMany variadic params args = MatchBool variadic (length params ≤ length args) (length params ≡ length args)

-- an argument has the type that is written for its parameter, if there is one
abbrev pub HasParamType : List ℕ → List TypeId → ℕ → Written → Type 0
HasParamType numbers params k w = (t : TypeId) → slice_get params k ≡ Some t → AreOne numbers w.ty t

-- the arguments of a call have the types of its written function type
pub record HasWrittenArgs (numbers : List ℕ) (call : Call) : Type 0 where
  pub many : IsAsMany call.func_ty.variadic call.func_ty.params call.args
  pub types : Each call.args (HasParamType numbers call.func_ty.params)

-- and it calls a pointer
pub record FitsCall (m : Module) (numbers : List ℕ) (call : Call) : Type 0 where
  pub callee : IsCallee m numbers call.callee
  pub args : HasWrittenArgs numbers call

-- V15
abbrev pub CallsAsWritten : Module → List ℕ → Op → Type 0
CallsAsWritten m numbers (op.Call call) = FitsCall m numbers call
CallsAsWritten m numbers (op.Invoke call normal unwind) = FitsCall m numbers call
CallsAsWritten m numbers _ = Unit {0}

-- a power of two up to 2 ^ 32, if one is written
abbrev pub IsAlignment : Option ℕ → Type 0
IsAlignment None = Unit {0}
IsAlignment (Some n) = IsTrue (is_power_of_two n) × (n ≤ 2 ^ 32)

-- each `align` and `dereferenceable` among attributes is as it should be
abbrev pub IsGood : ParamAttrs → Type 0
IsGood attrs = attrs.bad ≡ false

-- so are those at the return and the arguments of a call
pub record HasGoodAttrs (call : Call) : Type 0 where
  pub ret : IsGood call.attrs.ret
  pub args : Each call.attrs.args (λ k attrs. IsGood attrs)

-- V16 of an instruction: alignments and numbers of bytes that it writes are ones
abbrev pub IsAligned : Op → Type 0
IsAligned (op.Alloca ty count align) = IsAlignment align
IsAligned (op.Load ptr align volatile) = IsAlignment align
IsAligned (op.Store val ptr align volatile) = IsAlignment align
IsAligned (op.Call call) = HasGoodAttrs call
IsAligned (op.Invoke call normal unwind) = HasGoodAttrs call
IsAligned _ = Unit {0}

-- V19: a landing pad, and the operand of a `resume`, has the type { ptr, i32 }
abbrev pub IsPadPair : List IrType → TypeId → Op → Type 0
IsPadPair types t (op.LandingPad catch_all clauses) = IsPair types (type_of types t)
IsPadPair types t (op.Resume val) = IsPair types (type_of types val.ty)
IsPadPair types t _ = Unit {0}
