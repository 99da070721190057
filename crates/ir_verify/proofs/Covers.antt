-- Each rule is asked, or demands nothing of what it is not asked of.
use Rattle.std.proofs.Common.{◌⊎◌, ℕ, IsTrue, List, ◌++◌, refl, inl, inr}
use Rattle.ir_types.specs.declared.ir_type.IrType.{IrType}
use Rattle.ir_module.specs.declared.module.GlobalVar.{GlobalVar}
use Rattle.ir_module.specs.declared.module.Func.{Func}
use Rattle.ir_module.specs.declared.module.Module.{Module}
use Rattle.ir_verify.specs.declared.rule.Rule.{Rule}
use Rattle.ir_verify.specs.declared.rule.Rule.TheVariants as rule
use Rattle.ir_verify.specs.Demands.{OfGlobal, OfHeader, OfType, OfInstr, Placed, type_rules, global_rules, header_rules, value_rules, operation_rules}
use Rattle.ir_verify.specs.Demands.{flow_rules}
use Rattle.ir_verify.proofs.Judged.{has}

pub type_covers : (ty : IrType) (r : Rule) → IsTrue (has type_rules r) ⊎ OfType ty r
type_covers ty rule.V1 = inr tt
type_covers ty rule.V2 = inr tt
type_covers ty rule.V3 = inr tt
type_covers ty rule.V4 = inr tt
type_covers ty rule.V5 = inr tt
type_covers ty rule.V6 = inr tt
type_covers ty rule.V7 = inr tt
type_covers ty rule.V8 = inr tt
type_covers ty rule.V9 = inr tt
type_covers ty rule.V10 = inr tt
type_covers ty rule.V11 = inr tt
type_covers ty rule.V12 = inr tt
type_covers ty rule.V13 = inr tt
type_covers ty rule.V14 = inr tt
type_covers ty rule.V15 = inr tt
type_covers ty rule.V16 = inr tt
type_covers ty rule.V17 = inl refl
type_covers ty rule.V18 = inr tt
type_covers ty rule.V19 = inr tt
type_covers ty rule.V20 = inr tt
type_covers ty rule.V21 = inr tt

pub global_covers : (m : Module) (numbers : List ℕ) (global : GlobalVar) (r : Rule) → IsTrue (has global_rules r) ⊎ OfGlobal m numbers global r
global_covers m numbers global rule.V1 = inl refl
global_covers m numbers global rule.V2 = inl refl
global_covers m numbers global rule.V3 = inl refl
global_covers m numbers global rule.V4 = inr tt
global_covers m numbers global rule.V5 = inr tt
global_covers m numbers global rule.V6 = inr tt
global_covers m numbers global rule.V7 = inl refl
global_covers m numbers global rule.V8 = inr tt
global_covers m numbers global rule.V9 = inr tt
global_covers m numbers global rule.V10 = inr tt
global_covers m numbers global rule.V11 = inl refl
global_covers m numbers global rule.V12 = inr tt
global_covers m numbers global rule.V13 = inr tt
global_covers m numbers global rule.V14 = inr tt
global_covers m numbers global rule.V15 = inr tt
global_covers m numbers global rule.V16 = inl refl
global_covers m numbers global rule.V17 = inl refl
global_covers m numbers global rule.V18 = inr tt
global_covers m numbers global rule.V19 = inr tt
global_covers m numbers global rule.V20 = inr tt
global_covers m numbers global rule.V21 = inr tt

pub header_covers : (m : Module) (numbers : List ℕ) (f : ℕ) (func : Func) (r : Rule) → IsTrue (has header_rules r) ⊎ OfHeader m numbers f func r
header_covers m numbers f func rule.V1 = inl refl
header_covers m numbers f func rule.V2 = inl refl
header_covers m numbers f func rule.V3 = inl refl
header_covers m numbers f func rule.V4 = inr tt
header_covers m numbers f func rule.V5 = inr tt
header_covers m numbers f func rule.V6 = inr tt
header_covers m numbers f func rule.V7 = inl refl
header_covers m numbers f func rule.V8 = inr tt
header_covers m numbers f func rule.V9 = inr tt
header_covers m numbers f func rule.V10 = inr tt
header_covers m numbers f func rule.V11 = inl refl
header_covers m numbers f func rule.V12 = inr tt
header_covers m numbers f func rule.V13 = inr tt
header_covers m numbers f func rule.V14 = inr tt
header_covers m numbers f func rule.V15 = inr tt
header_covers m numbers f func rule.V16 = inl refl
header_covers m numbers f func rule.V17 = inl refl
header_covers m numbers f func rule.V18 = inr tt
header_covers m numbers f func rule.V19 = inr tt
header_covers m numbers f func rule.V20 = inr tt
header_covers m numbers f func rule.V21 = inl refl

pub instr_covers : (m : Module) (numbers : List ℕ) (p : Placed) (r : Rule)
    → IsTrue (has (value_rules ++ operation_rules ++ flow_rules) r) ⊎ OfInstr m numbers p r
instr_covers m numbers p rule.V1 = inl refl
instr_covers m numbers p rule.V2 = inl refl
instr_covers m numbers p rule.V3 = inr tt
instr_covers m numbers p rule.V4 = inl refl
instr_covers m numbers p rule.V5 = inl refl
instr_covers m numbers p rule.V6 = inl refl
instr_covers m numbers p rule.V7 = inl refl
instr_covers m numbers p rule.V8 = inl refl
instr_covers m numbers p rule.V9 = inl refl
instr_covers m numbers p rule.V10 = inl refl
instr_covers m numbers p rule.V11 = inl refl
instr_covers m numbers p rule.V12 = inl refl
instr_covers m numbers p rule.V13 = inl refl
instr_covers m numbers p rule.V14 = inl refl
instr_covers m numbers p rule.V15 = inl refl
instr_covers m numbers p rule.V16 = inl refl
instr_covers m numbers p rule.V17 = inl refl
instr_covers m numbers p rule.V18 = inr tt
instr_covers m numbers p rule.V19 = inl refl
instr_covers m numbers p rule.V20 = inl refl
instr_covers m numbers p rule.V21 = inr tt
