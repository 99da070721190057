-- What makes a module well formed, said of one thing of it at a time.
use Rattle.std.specs.Prelude.{◌≡◌, ◌+◌, ◌^◌, ◌<◌, ◌≤◌, ℕ, length, slice_get, List, Some}
use Rattle.attr_ids.specs.declared.ids.ValueId.{ValueId}
use Rattle.ir_types.specs.declared.ir_type.IrType.{IrType}
use Rattle.ir_types.specs.IrType.{parts}
use Rattle.ir_types.specs.Standing.{Has}
use Rattle.ir_module.specs.declared.op.Shape.TheVariants as shape
use Rattle.ir_module.specs.declared.op.Operand.{Operand}
use Rattle.ir_module.specs.declared.op.Operand.TheVariants as operand
use Rattle.ir_module.specs.declared.op.Written.{Written}
use Rattle.ir_module.specs.declared.op.Instr.{Instr}
use Rattle.ir_module.specs.declared.module.Seg.{Seg}
use Rattle.ir_module.specs.declared.module.Block.{Block}
use Rattle.ir_module.specs.declared.module.Func.{Func}
use Rattle.ir_module.specs.declared.module.Param.{Param}
use Rattle.ir_module.specs.declared.module.Def.{Def}
use Rattle.ir_module.specs.declared.module.Def.TheVariants as def
use Rattle.ir_module.specs.declared.module.ValueInfo.{ValueInfo}
use Rattle.ir_module.specs.declared.module.GlobalVar.{GlobalVar}
use Rattle.ir_module.specs.declared.module.Module.{Module}
use Rattle.ir_module.specs.Places.{spot, instr_at, IsIn}
use Rattle.ir_module.specs.Operands.{optional, operands}
use Rattle.ir_module.specs.Formed.{IsBlockOf, IsSegOf, IsPlaced, IsType, IsConstant, AreConstants, IsBlockIn, IsInstrIn}

-- P holds of each element, at its place
abbrev pub Each : {X : Type 0} → List X → (ℕ → X → Type 0) → Type 0
Each {X} xs P = (k : ℕ) (x : X) → slice_get xs k ≡ Some x → P k x

-- ---- sizes, types and constants

-- an instruction has fewer than 2 ^ 31 operands
abbrev pub IsShort : ℕ → Instr → Type 0
IsShort i instr = length (operands instr.op) < 2 ^ 31

-- a segment has fewer than 2 ^ 31 instructions, and each of them as few operands
abbrev pub IsSmall : ℕ → Seg → Type 0
IsSmall k seg = (length seg.instrs < 2 ^ 31) × Each seg.instrs IsShort

-- there are fewer than 2 ^ 31 things of each kind
pub record HasFew (m : Module) : Type 0 where
  pub types : length m.types < 2 ^ 31
  pub globals : length m.globals < 2 ^ 31
  pub funcs : length m.funcs < 2 ^ 31
  pub blocks : length m.blocks < 2 ^ 31
  pub segs : length m.segs < 2 ^ 31
  pub values : length m.values < 2 ^ 31
  pub parts : length m.parts < 2 ^ 31
  pub each : Each m.segs IsSmall

-- the types that type number t names are there
abbrev pub IsTypeFormed : Module → ℕ → IrType → Type 0
IsTypeFormed m t type = (part : ℕ) → Has (parts type) part → part < length m.types

-- the parts of a constant have smaller numbers than k; a string has none of its own in the module's list
abbrev pub HasPartsBelow : ℕ → Operand → Type 0
HasPartsBelow k (operand.Parts shape.Bytes first count) = Unit {0}
HasPartsBelow k (operand.Parts form first count) = first + count ≤ k
HasPartsBelow k (operand.AnyInt first count) = first + count ≤ k
HasPartsBelow k _ = Unit {0}

-- part number k of the module is a constant, and its own parts stand before it
pub record IsPartFormed (m : Module) (k : ℕ) (w : Written) : Type 0 where
  pub ty : IsType m w.ty
  pub constant : IsConstant m w.val
  pub below : HasPartsBelow k w.val

-- a global variable
pub record IsGlobalFormed (m : Module) (global : GlobalVar) : Type 0 where
  pub ty : IsType m global.ty
  pub init : AreConstants m (optional global.init)

-- ---- functions and blocks

-- the value of parameter number k of function f names it back
abbrev pub IsParamFormed : Module → ℕ → ℕ → Param → Type 0
IsParamFormed m f k p = (info : ValueInfo) × (slice_get m.values p.value.0 ≡ Some info) × (info.func.0 ≡ f) × (info.def ≡ def.Param k) × (info.ty ≡ p.ty)

-- function number f: what its header names is there, and so are its blocks
pub record IsFuncFormed (m : Module) (f : ℕ) (func : Func) : Type 0 where
  pub ret : IsType m func.ret
  pub extra : AreConstants m func.extra
  pub few : length func.params < 2 ^ 31
  pub params : Each func.params (IsParamFormed m f)
  pub blocks : (i : ℕ) → IsBlockOf func i → IsBlockIn m f i

-- the block lies in its function's run
abbrev pub HasHome : Module → ℕ → Block → Type 0
HasHome m i b = (func : Func) × (slice_get m.funcs b.func.0 ≡ Some func) × IsBlockOf func i

-- the segment number k is one of block number i
abbrev pub IsSegAt : Module → ℕ → ℕ → Type 0
IsSegAt m i k = (seg : Seg) × (slice_get m.segs k ≡ Some seg) × (seg.block.0 ≡ i)

-- the next block, if there is one, goes on where this one ends
abbrev pub IsFollowed : Module → ℕ → Block → Type 0
IsFollowed m i b = (next : Block) → slice_get m.blocks (i + 1) ≡ Some next → (b.func.0 ≤ next.func.0) × (next.first_seg ≡ b.first_seg + b.seg_count)

-- block number i: its function, its segments, and what follows
pub record IsBlockFormed (m : Module) (i : ℕ) (b : Block) : Type 0 where
  pub home : HasHome m i b
  pub filled : 0 < b.seg_count
  pub segs : (k : ℕ) → IsSegOf b k → IsSegAt m i k
  pub next : IsFollowed m i b

-- ---- segments and instructions

-- instruction i of segment number k has the value that it makes
abbrev pub HasResult : Module → ℕ → ℕ → Instr → Type 0
HasResult m k i instr = (v : ValueId) → instr.result ≡ Some v →
    (info : ValueInfo) × (slice_get m.values v.0 ≡ Some info) × (info.def ≡ def.Instr (spot k i)) × (info.ty ≡ instr.ty)

-- instruction i of so many of segment number k of the block
pub record IsInstrFormed (m : Module) (b : Block) (k count i : ℕ) (instr : Instr) : Type 0 where
  pub placed : IsPlaced b k count i instr.op
  pub names : IsInstrIn m b.func.0 instr
  pub result : HasResult m k i instr

-- segment number k, if its block is this one
pub record IsSegFormedIn (m : Module) (k : ℕ) (seg : Seg) (b : Block) : Type 0 where
  pub place : IsSegOf b k
  pub nonempty : 0 < length seg.instrs
  pub instrs : Each seg.instrs (IsInstrFormed m b k (length seg.instrs))

-- segment number k lies in the run of its block, and its instructions are right
abbrev pub IsSegFormed : Module → ℕ → Seg → Type 0
IsSegFormed m k seg = (b : Block) × (slice_get m.blocks seg.block.0 ≡ Some b) × IsSegFormedIn m k seg b

-- ---- values

-- parameter number `at` of function f is the value number v
abbrev pub IsParamAt : Module → ℕ → ℕ → ℕ → Type 0
IsParamAt m f at v = (func : Func) × (p : Param) × (slice_get m.funcs f ≡ Some func) × (slice_get func.params at ≡ Some p) × (p.value.0 ≡ v)

-- what makes the value number v is the parameter or the instruction that has it
abbrev pub IsMadeAt : Module → ℕ → ValueInfo → Def → Type 0
IsMadeAt m v info (def.Param k) = IsParamAt m info.func.0 k v
IsMadeAt m v info (def.Instr s) = (instr : Instr) × (instr_at m s ≡ Some instr) × (instr.result ≡ Some (record { 0 = v })) × IsIn m info.func.0 s

-- value number v
pub record IsValueFormed (m : Module) (v : ℕ) (info : ValueInfo) : Type 0 where
  pub ty : IsType m info.ty
  pub made : IsMadeAt m v info info.def

-- Each number names a thing that is there and names it back. Blocks lie in runs, a run for each function, and segments
-- in runs, a run for each block, in text order without gaps. A segment ends in a call or in its block's terminator,
-- and has none before. The parts of a constant stand before it.
pub record IsWellFormed (m : Module) : Type 0 where
  pub few : HasFew m
  pub type_at : length m.type_at ≡ length m.types
  pub types : Each m.types (IsTypeFormed m)
  pub parts : Each m.parts (IsPartFormed m)
  pub globals : Each m.globals (λ g global. IsGlobalFormed m global)
  pub funcs : Each m.funcs (IsFuncFormed m)
  pub blocks : Each m.blocks (IsBlockFormed m)
  pub segs : Each m.segs (IsSegFormed m)
  pub values : Each m.values (IsValueFormed m)
