-- Rules of globals, of the headers of functions, and of types.
use Rattle.std.specs.Prelude.{ℕ, ◌≡◌, ◌<◌, ◌^◌, ◌==◌, Bool, true, false, List, IsSome, IsNone, MatchBool}
use Rattle.ir_types.specs.declared.ir_type.IrType.{IrType}
use Rattle.ir_types.specs.declared.ir_type.IrType.TheVariants.{Array}
use Rattle.ir_module.specs.declared.module.Linkage.{Linkage}
use Rattle.ir_module.specs.declared.module.Linkage.TheVariants as linkage
use Rattle.ir_module.specs.declared.module.GlobalVar.{GlobalVar}
use Rattle.ir_module.specs.declared.module.Func.{Func}
use Rattle.ir_module.specs.declared.module.Module.{Module}
use Rattle.ir_module.specs.Operands.{optional}
use Rattle.ir_module.specs.WellFormed.{Each}
use Rattle.ir_operands.specs.declared.rule.Site.TheVariants as site
use Rattle.ir_operands.specs.declared.rule.ConstantRule.{ConstantRule}
use Rattle.ir_operands.specs.declared.rule.ConstantRule.TheVariants as rule
use Rattle.ir_operands.specs.Types.{type_of, IsScalar, MayReturn}
use Rattle.ir_operands.specs.Constants.{IsScalarOperand}
use Rattle.ir_operands.specs.Offsets.{HasSize}
use Rattle.ir_rules.specs.Values.{EachKeeps}
use Rattle.ir_rules.specs.Operations.{IsAlignment, IsGood}

-- ---- V3: linkage

-- the linkages of a global that is defined elsewhere
abbrev pub is_elsewhere : Linkage → Bool
is_elsewhere linkage.External = true
is_elsewhere linkage.ExternWeak = true
is_elsewhere _ = false

-- V3 of a global: it has an initial value exactly if its linkage is not `external` or `extern_weak`
abbrev pub HasInit : GlobalVar → Type 0
HasInit global = MatchBool (is_elsewhere global.linkage) (IsNone global.init) (IsSome global.init)

-- the linkages of a definition
abbrev pub may_define : Linkage → Bool
may_define linkage.ExternWeak = false
may_define linkage.Common = false
may_define linkage.Appending = false
may_define _ = true

-- the linkages of a declaration
abbrev pub may_declare : Linkage → Bool
may_declare linkage.Plain = true
may_declare linkage.External = true
may_declare linkage.ExternWeak = true
may_declare _ = false

-- V3 of a function
abbrev pub HasLinkage : Func → Type 0
HasLinkage func = MatchBool (func.block_count == 0) (may_declare func.linkage ≡ true) (may_define func.linkage ≡ true)

-- ---- globals

-- V1 of a global: no constant getelementptr in its initial value breaks V1; the value itself is free
abbrev pub IsScalarInit : Module → List ℕ → GlobalVar → Type 0
IsScalarInit m numbers global = EachKeeps m numbers rule.FreeParts (optional global.init)

-- the type of a global with an initial value has a size
abbrev pub HasSizedInit : List IrType → GlobalVar → Type 0
HasSizedInit types global = IsSome global.init → HasSize types global.ty

-- V2 of a global, and of the constants in it
pub record IsSizedGlobal (m : Module) (numbers : List ℕ) (global : GlobalVar) : Type 0 where
  pub type : HasSizedInit m.types global
  pub constants : EachKeeps m numbers rule.Sized (optional global.init)

-- V7, V11 and V17 of a global: of its initial value and all that lies in it
abbrev pub InitKeeps : Module → List ℕ → ConstantRule → GlobalVar → Type 0
InitKeeps m numbers r global = EachKeeps m numbers r (optional global.init)

-- V16 of a global
abbrev pub IsAlignedGlobal : GlobalVar → Type 0
IsAlignedGlobal global = IsAlignment global.align

-- ---- headers

-- parameters are scalars, and the return type is one or void
pub record HasScalarType (m : Module) (func : Func) : Type 0 where
  pub ret : MayReturn (type_of m.types func.ret)
  pub params : Each func.params (λ k p. IsScalar (type_of m.types p.ty))

-- V1 of a header: so are the constants that are written there
pub record HasScalarHeader (m : Module) (numbers : List ℕ) (func : Func) : Type 0 where
  pub type : HasScalarType m func
  pub extra : Each func.extra (λ k w. IsScalarOperand m.types numbers m.parts site.Plain w)

-- V2, V7, V11 and V17 of a header: of the constants that are written there
abbrev pub HeaderKeeps : Module → List ℕ → ConstantRule → Func → Type 0
HeaderKeeps m numbers r func = EachKeeps m numbers r func.extra

-- V16 of a header
pub record HasGoodHeader (func : Func) : Type 0 where
  pub ret : IsGood func.ret_attrs
  pub params : Each func.params (λ k p. IsGood p.attrs)

-- ---- types

-- V17 of a type: the count of an array is below 2 ^ 63
abbrev pub HasFittingCount : IrType → Type 0
HasFittingCount (Array count elem) = count < 2 ^ 63
HasFittingCount _ = Unit {0}
