-- What each rule demands of a global, a header, a type and an instruction. Types are told apart by canonical numbers.
use Rattle.std.specs.Prelude.{ℕ, List, [], ◌∷◌}
use Rattle.ir_types.specs.declared.ir_type.IrType.{IrType}
use Rattle.ir_module.specs.declared.op.Instr.{Instr}
use Rattle.ir_module.specs.declared.module.GlobalVar.{GlobalVar}
use Rattle.ir_module.specs.declared.module.Func.{Func}
use Rattle.ir_module.specs.declared.module.Block.{Block}
use Rattle.ir_module.specs.declared.module.Seg.{Seg}
use Rattle.ir_module.specs.declared.module.Module.{Module}
use Rattle.ir_operands.specs.declared.rule.ConstantRule.TheVariants as constant
use Rattle.ir_rules.specs.Blocks.{LeavesEntryFree, PhisComeFirst, HasArms, HasPads, HasPersonality}
use Rattle.ir_rules.specs.Entities.{HasInit, HasLinkage, IsScalarInit, IsSizedGlobal, InitKeeps, IsAlignedGlobal, HasScalarHeader, HeaderKeeps}
use Rattle.ir_rules.specs.Entities.{HasGoodHeader, HasFittingCount}
use Rattle.ir_rules.specs.Operations.{IsOnIntegers, Casts, HasPointerAddress, Indexes, Branches, Returns, Selects, CallsAsWritten, IsAligned, IsPadPair}
use Rattle.ir_rules.specs.Values.{HasScalars, HasSizes, HasWrittenTypes, HasFittingLiterals}
use Rattle.ir_verify.specs.declared.rule.Rule.{Rule}
use Rattle.ir_verify.specs.declared.rule.Rule.TheVariants as rule

-- of a global
abbrev pub OfGlobal : Module → List ℕ → GlobalVar → Rule → Type 0
OfGlobal m numbers global rule.V1 = IsScalarInit m numbers global
OfGlobal m numbers global rule.V2 = IsSizedGlobal m numbers global
OfGlobal m numbers global rule.V3 = HasInit global
OfGlobal m numbers global rule.V7 = InitKeeps m numbers constant.Fitting global
OfGlobal m numbers global rule.V11 = InitKeeps m numbers constant.Indexed global
OfGlobal m numbers global rule.V16 = IsAlignedGlobal global
OfGlobal m numbers global rule.V17 = InitKeeps m numbers constant.InRange global
OfGlobal m numbers global _ = Unit {0}

-- of the header of function number f
abbrev pub OfHeader : Module → List ℕ → ℕ → Func → Rule → Type 0
OfHeader m numbers f func rule.V1 = HasScalarHeader m numbers func
OfHeader m numbers f func rule.V2 = HeaderKeeps m numbers constant.Sized func
OfHeader m numbers f func rule.V3 = HasLinkage func
OfHeader m numbers f func rule.V7 = HeaderKeeps m numbers constant.Fitting func
OfHeader m numbers f func rule.V11 = HeaderKeeps m numbers constant.Indexed func
OfHeader m numbers f func rule.V16 = HasGoodHeader func
OfHeader m numbers f func rule.V17 = HeaderKeeps m numbers constant.InRange func
OfHeader m numbers f func rule.V21 = HasPersonality m f func
OfHeader m numbers f func _ = Unit {0}

-- of a type
abbrev pub OfType : IrType → Rule → Type 0
OfType ty rule.V17 = HasFittingCount ty
OfType ty _ = Unit {0}

-- an instruction in its place: number i of segment number k of a block of a function
pub record Placed : Type 0 where
  pub func : Func
  pub block : Block
  pub k : ℕ
  pub seg : Seg
  pub i : ℕ
  pub instr : Instr

-- of an instruction; V18 is said of bodies
abbrev pub OfInstr : Module → List ℕ → Placed → Rule → Type 0
OfInstr m numbers p rule.V1 = HasScalars m numbers p.instr
OfInstr m numbers p rule.V2 = HasSizes m numbers p.instr
OfInstr m numbers p rule.V4 = LeavesEntryFree p.func p.instr.op
OfInstr m numbers p rule.V5 = PhisComeFirst p.block p.k p.seg p.i p.instr.op
OfInstr m numbers p rule.V6 = HasArms m numbers p.seg.block.0 p.instr.op
OfInstr m numbers p rule.V7 = HasWrittenTypes m numbers p.instr
OfInstr m numbers p rule.V8 = IsOnIntegers m.types p.instr.op
OfInstr m numbers p rule.V9 = Casts m.types p.instr.ty p.instr.op
OfInstr m numbers p rule.V10 = HasPointerAddress m.types p.instr.op
OfInstr m numbers p rule.V11 = Indexes m numbers p.instr.op
OfInstr m numbers p rule.V12 = Branches m numbers p.instr.op
OfInstr m numbers p rule.V13 = Returns m.types numbers p.func p.instr.op
OfInstr m numbers p rule.V14 = Selects m.types numbers p.instr.op
OfInstr m numbers p rule.V15 = CallsAsWritten m numbers p.instr.op
OfInstr m numbers p rule.V16 = IsAligned p.instr.op
OfInstr m numbers p rule.V17 = HasFittingLiterals m numbers p.instr.op
OfInstr m numbers p rule.V19 = IsPadPair m.types p.instr.ty p.instr.op
OfInstr m numbers p rule.V20 = HasPads m p.block p.k p.seg p.i p.instr.op
OfInstr m numbers p _ = Unit {0}

-- ---- which rules are asked of what

abbrev pub type_rules : List Rule
type_rules = rule.V17 ∷ []

abbrev pub global_rules : List Rule
global_rules = rule.V1 ∷ rule.V2 ∷ rule.V3 ∷ rule.V7 ∷ rule.V11 ∷ rule.V16 ∷ rule.V17 ∷ []

abbrev pub header_rules : List Rule
header_rules = rule.V1 ∷ rule.V2 ∷ rule.V3 ∷ rule.V7 ∷ rule.V11 ∷ rule.V16 ∷ rule.V17 ∷ rule.V21 ∷ []

-- of operands and results; of what an instruction does; of how it stands among others
abbrev pub value_rules : List Rule
value_rules = rule.V1 ∷ rule.V2 ∷ rule.V7 ∷ rule.V17 ∷ []

abbrev pub operation_rules : List Rule
operation_rules = rule.V8 ∷ rule.V9 ∷ rule.V10 ∷ rule.V11 ∷ rule.V14 ∷ rule.V15 ∷ rule.V16 ∷ rule.V19 ∷ []

abbrev pub flow_rules : List Rule
flow_rules = rule.V4 ∷ rule.V5 ∷ rule.V6 ∷ rule.V12 ∷ rule.V13 ∷ rule.V20 ∷ []
