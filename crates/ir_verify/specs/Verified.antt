-- Verified modules, and the faults of others.
use Rattle.std.specs.Prelude.{◌≡◌, ◌⊎◌, ◌+◌, ◌^◌, ◌<◌, ℕ, List, [], length, slice_get, slice_index, Option, None, Some, Result, Ok, Err}
use Rattle.attr_ids.specs.declared.ids.BlockId.{BlockId}
use Rattle.ir_module.specs.declared.op.Instr.{Instr}
use Rattle.ir_module.specs.declared.module.Func.{Func}
use Rattle.ir_module.specs.declared.module.Block.{Block}
use Rattle.ir_module.specs.declared.module.Seg.{Seg}
use Rattle.ir_module.specs.declared.module.Module.{Module}
use Rattle.ir_module.specs.WellFormed.{Each}
use Rattle.ir_types.specs.declared.refusal.TypeRefusal.TheVariants as refusal
use Rattle.ir_type_equality.specs.Numbers.{AreCanonical}
use Rattle.ir_paths.specs.Results.{ResultUse, IsResultUse}
use Rattle.ir_paths.specs.Lacking.{IsDefined, AreDefined}
use Rattle.ir_verify.specs.declared.rule.Rule.{Rule}
use Rattle.ir_verify.specs.declared.rule.Rule.TheVariants as rule
use Rattle.ir_verify.specs.declared.broken.Broken.{Broken}
use Rattle.ir_verify.specs.declared.verify_module.Fault.{Fault}
use Rattle.ir_verify.specs.declared.verify_module.Fault.TheVariants as fault
use Rattle.ir_verify.specs.Rules.{number}
use Rattle.ir_verify.specs.Types.{IsSomeRefused}
use Rattle.ir_verify.specs.Judging.{Judged, Keeps, Breaks, IsOf, IsNoLater, broken}
use Rattle.ir_verify.specs.Undefined.{LacksAt}
use Rattle.ir_verify.specs.Demands.{OfGlobal, OfHeader, OfType, OfInstr, Placed}

-- ---- instructions

-- the block and the function in which segment number k stands
pub record IsHomeOf (m : Module) (seg : Seg) (block : Block) (func : Func) : Type 0 where
  pub at_block : slice_get m.blocks seg.block.0 ≡ Some block
  pub at_func : slice_get m.funcs block.func.0 ≡ Some func

abbrev pub placed : Func → Block → ℕ → Seg → ℕ → Instr → Placed
placed func block k seg i instr = record { func = func; block = block; k = k; seg = seg; i = i; instr = instr }

-- each instruction of segment number k keeps all rules
abbrev pub SegKeeps : Module → List ℕ → ℕ → Seg → Type 0
SegKeeps m numbers k seg = (block : Block) (func : Func) → IsHomeOf m seg block func
    → Each seg.instrs (λ i instr. Keeps (OfInstr m numbers (placed func block k seg i instr)))

-- one of them breaks a rule, at its first token
abbrev pub SegBreaks : Module → List ℕ → ℕ → Seg → Broken → Type 0
SegBreaks m numbers k seg b = (block : Block) × (func : Func) × IsHomeOf m seg block func
    × IsOf seg.instrs (λ i instr. Breaks instr.span.from (OfInstr m numbers (placed func block k seg i instr))) b

-- ---- modules

-- all rules but V18 hold: of types, globals, headers and instructions
pub record KeepsOthers (m : Module) (numbers : List ℕ) : Type 0 where
  pub types : Each m.types (λ t ty. Keeps (OfType ty))
  pub globals : Each m.globals (λ g global. Keeps (OfGlobal m numbers global))
  pub headers : Each m.funcs (λ f func. Keeps (OfHeader m numbers f func))
  pub segs : Each m.segs (SegKeeps m numbers)

-- one of them fails: of a type where it is first written, of a global or a header at the first token of the entity, of an instruction at
-- its first token
abbrev pub BreaksOther : Module → List ℕ → Broken → Type 0
BreaksOther m numbers b = IsOf m.types (λ t ty. Breaks (slice_index m.type_at t) (OfType ty)) b
    ⊎ (IsOf m.globals (λ g global. Breaks global.at (OfGlobal m numbers global)) b
    ⊎ (IsOf m.funcs (λ f func. Breaks func.at (OfHeader m numbers f func)) b ⊎ IsOf m.segs (SegBreaks m numbers) b))

-- V18 fails at a use
pub record BreaksPaths (m : Module) (b : Broken) : Type 0 where
  pub is_rule : b.rule ≡ rule.V18
  pub f : ℕ
  pub u : ResultUse
  pub is_use : IsResultUse m f u
  pub at : u.written.at ≡ b.at
  pub undefined : IsDefined m f u → ⊥

-- V1 to V21 hold
pub record IsVerified (m : Module) : Type 0 where
  pub numbers : List ℕ
  pub canonical : AreCanonical m.types numbers
  pub others : KeepsOthers m numbers
  pub paths : (f : ℕ) → f < length m.funcs → AreDefined m f

-- a rule fails at an offset
abbrev pub BreaksRule : Module → List ℕ → Broken → Type 0
BreaksRule m numbers b = BreaksOther m numbers b ⊎ BreaksPaths m b

-- the least rule that fails anywhere, at its smallest offset
pub record IsFirstBroken (m : Module) (b : Broken) : Type 0 where
  pub numbers : List ℕ
  pub canonical : AreCanonical m.types numbers
  pub breaks : BreaksRule m numbers b
  pub first : (other : Broken) → BreaksRule m numbers other → IsNoLater b other

-- what the path of a fault is
abbrev pub HasPath : Module → ℕ → List BlockId → Rule → Type 0
HasPath m at path rule.V18 = LacksAt m at path
HasPath m at path _ = path ≡ []

-- no type is nested too deep, and none is too large
pub record HaveLayouts (m : Module) : Type 0 where
  pub shallow : IsSomeRefused m.types refusal.Deep → ⊥
  pub small : IsSomeRefused m.types refusal.Huge → ⊥

-- the rule of this number is the least that fails anywhere, at its smallest offset, where all types have layouts
pub record IsRuleFault (m : Module) (rule at : ℕ) (path : List BlockId) : Type 0 where
  pub layouts : HaveLayouts m
  pub broken_rule : Rule
  pub is_number : number broken_rule ≡ rule
  pub is_first : IsFirstBroken m (broken broken_rule at)
  pub has_path : HasPath m at path broken_rule

-- when each fault is answered: a type that is nested too deep comes first, then one that is too large, then the rules
abbrev pub IsFault : Module → Fault → Type 0
IsFault m (fault.Deep count) = (count ≡ 65) × IsSomeRefused m.types refusal.Deep
IsFault m (fault.Huge count) = (count ≡ 2 ^ 40 + 1) × IsSomeRefused m.types refusal.Huge × (IsSomeRefused m.types refusal.Deep → ⊥)
IsFault m (fault.Rule rule at path) = IsRuleFault m rule at path
IsFault m fault.NoMemory = Unit {0}

-- ---- what is answered

-- all rules but V18 are judged, by canonical numbers
pub record AreOthersJudged (m : Module) (found : Option Broken) : Type 0 where
  pub numbers : List ℕ
  pub canonical : AreCanonical m.types numbers
  pub judged : Judged (KeepsOthers m numbers) (BreaksOther m numbers) found

-- a fault of a rule before V18
abbrev pub IsEarly : Option Broken → Type 0
IsEarly None = ⊥
IsEarly (Some b) = number b.rule < 18

-- the answer where V18 holds, or comes later
abbrev pub answered : Option Broken → Result (Unit {0}) Fault
answered None = Ok tt
answered (Some b) = Err (fault.Rule (number b.rule) b.at [])
