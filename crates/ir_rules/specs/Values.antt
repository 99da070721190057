-- Rules of the operands of an instruction and of its result.
use Rattle.std.specs.Prelude.{ℕ, ◌≡◌, ◌⊎◌, true, if◌then◌else◌, List, slice_get, Option, None, Some, IsSome}
use Rattle.attr_ids.specs.declared.ids.TypeId.{TypeId}
use Rattle.ir_types.specs.declared.ir_type.IrType.{IrType}
use Rattle.ir_module.specs.declared.op.Operand.{Operand}
use Rattle.ir_module.specs.declared.op.Operand.TheVariants as operand
use Rattle.ir_module.specs.declared.op.Written.{Written}
use Rattle.ir_module.specs.declared.op.Call.{Call}
use Rattle.ir_module.specs.declared.op.Clause.{Clause}
use Rattle.ir_module.specs.declared.op.Op.{Op}
use Rattle.ir_module.specs.declared.op.Op.TheVariants as op
use Rattle.ir_module.specs.declared.op.Instr.{Instr}
use Rattle.ir_module.specs.declared.module.ValueInfo.{ValueInfo}
use Rattle.ir_module.specs.declared.module.Module.{Module}
use Rattle.ir_module.specs.Operands.{operands}
use Rattle.ir_module.specs.Calls.{call_of}
use Rattle.ir_module.specs.WellFormed.{Each}
use Rattle.ir_operands.specs.declared.rule.Site.{Site}
use Rattle.ir_operands.specs.declared.rule.Site.TheVariants as site
use Rattle.ir_operands.specs.declared.rule.ConstantRule.{ConstantRule}
use Rattle.ir_operands.specs.declared.rule.ConstantRule.TheVariants as rule
use Rattle.ir_operands.specs.Types.{type_of, IsScalar, IsPair, IsVoid, MayReturn, AreOne}
use Rattle.ir_operands.specs.Constants.{IsScalarOperand, Keeps, KeepsInside}
use Rattle.ir_operands.specs.Offsets.{HasSize}

-- each of these operands keeps a rule of constants, with all that lies in it
abbrev pub EachKeeps : Module → List ℕ → ConstantRule → List Written → Type 0
EachKeeps m numbers r ws = Each ws (λ k w. Keeps m.types numbers m.parts r w)

-- ---- V1: scalar types

-- where a clause of a landing pad is written: a `filter`, or a `catch`
abbrev pub clause_site : Option Clause → Site
clause_site None = site.Plain
clause_site (Some clause) = if clause.filter then site.Filter else site.Plain

-- where operand number k of an instruction is written, as far as its type depends on it
abbrev pub site_of : Op → ℕ → Site
site_of (op.Phi arms) k = site.Pair
site_of (op.Resume val) k = site.Pair
site_of (op.LandingPad catch_all clauses) k = clause_site (slice_get clauses k)
site_of _ k = site.Plain

-- a result is a scalar; that of a phi or a landing pad may be { ptr, i32 }, and a call may return void
abbrev pub HasScalarResult : List IrType → TypeId → Op → Type 0
HasScalarResult types t (op.Phi arms) = IsScalar (type_of types t) ⊎ IsPair types (type_of types t)
HasScalarResult types t (op.LandingPad catch_all clauses) = IsScalar (type_of types t) ⊎ IsPair types (type_of types t)
HasScalarResult types t (op.Call call) = MayReturn (type_of types t) × MayReturn (type_of types call.func_ty.ret)
HasScalarResult types t (op.Invoke call normal unwind) = MayReturn (type_of types t) × MayReturn (type_of types call.func_ty.ret)
HasScalarResult types t (op.Store val ptr align volatile) = Unit {0}
HasScalarResult types t (op.Resume val) = Unit {0}
HasScalarResult types t (op.Ret val) = Unit {0}
HasScalarResult types t (op.Jump to) = Unit {0}
HasScalarResult types t (op.Branch c so otherwise) = Unit {0}
HasScalarResult types t (op.Switch on other cases) = Unit {0}
HasScalarResult types t op.Unreachable = Unit {0}
HasScalarResult types t _ = IsScalar (type_of types t)

-- V1 of an instruction: its result and its operands are scalars, where they have to be
pub record HasScalars (m : Module) (numbers : List ℕ) (instr : Instr) : Type 0 where
  pub result : HasScalarResult m.types instr.ty instr.op
  pub operands : Each (operands instr.op) (λ k w. IsScalarOperand m.types numbers m.parts (site_of instr.op k) w)

-- ---- V2: sizes

-- what is allocated, loaded, stored or stepped over has a size
abbrev pub HasSizedType : List IrType → TypeId → Op → Type 0
HasSizedType types t (op.Alloca ty count align) = HasSize types ty
HasSizedType types t (op.Load ptr align volatile) = HasSize types t
HasSizedType types t (op.Store val ptr align volatile) = HasSize types val.ty
HasSizedType types t (op.Gep elem base indices inbounds wrap) = HasSize types elem
HasSizedType types t _ = Unit {0}

-- V2 of an instruction, and of the constants in it
pub record HasSizes (m : Module) (numbers : List ℕ) (instr : Instr) : Type 0 where
  pub type : HasSizedType m.types instr.ty instr.op
  pub constants : EachKeeps m numbers rule.Sized (operands instr.op)

-- ---- V7: written types

-- a value that is named has the type that is written for it
abbrev pub HasTypeOf : Module → List ℕ → TypeId → Operand → Type 0
HasTypeOf m numbers t (operand.Value v) = (info : ValueInfo) × (slice_get m.values v.0 ≡ Some info) × AreOne numbers info.ty t
HasTypeOf m numbers t _ = Unit {0}

-- an operand has the type that is written for it: a value has it, and a constant fits its kind
pub record FitsWritten (m : Module) (numbers : List ℕ) (w : Written) : Type 0 where
  pub value : HasTypeOf m numbers w.ty w.val
  pub constant : Keeps m.types numbers m.parts rule.Fitting w

-- the operands but a callee
abbrev pub typed_in : Option Call → List Written → List Written
typed_in None all = all
typed_in (Some call) all = call.args

abbrev pub typed : Op → List Written
typed o = typed_in (call_of o) (operands o)

-- of a callee only the parts are judged
abbrev pub HasFittingCallee : Module → List ℕ → Op → Type 0
HasFittingCallee m numbers (op.Call call) = KeepsInside m.types numbers m.parts rule.Fitting call.callee
HasFittingCallee m numbers (op.Invoke call normal unwind) = KeepsInside m.types numbers m.parts rule.Fitting call.callee
HasFittingCallee m numbers _ = Unit {0}

-- a name is written only where there is a result, and no void one
abbrev pub IsNamedWell : List IrType → Instr → Type 0
IsNamedWell types instr = instr.named ≡ true → IsSome instr.result × (IsVoid (type_of types instr.ty) → ⊥)

-- the operands of an instruction have the types that are written for them
pub record HasWrittenOperands (m : Module) (numbers : List ℕ) (o : Op) : Type 0 where
  pub operands : Each (typed o) (λ k w. FitsWritten m numbers w)
  pub callee : HasFittingCallee m numbers o

-- V7 of an instruction
pub record HasWrittenTypes (m : Module) (numbers : List ℕ) (instr : Instr) : Type 0 where
  pub operands : HasWrittenOperands m numbers instr.op
  pub name : IsNamedWell m.types instr

-- ---- V17: literals

-- V17 of an instruction: each integer literal in it fits its width
abbrev pub HasFittingLiterals : Module → List ℕ → Op → Type 0
HasFittingLiterals m numbers o = EachKeeps m numbers rule.InRange (operands o)
