-- Numbers that name what is there: of blocks and segments, types, constants, values, and of what an instruction names.
use Rattle.std.specs.Prelude.{◌≡◌, ◌+◌, ◌<◌, ◌≤◌, ℕ, Bool, true, false, MatchBool, length, Option, None, map, slice_get, List, [], ◌∷◌, Some}
use Rattle.attr_ids.specs.declared.ids.TypeId.{TypeId}
use Rattle.attr_ids.specs.declared.ids.BlockId.{BlockId}
use Rattle.ir_module.specs.declared.op.Symbol.{Symbol}
use Rattle.ir_module.specs.declared.op.Symbol.TheVariants as symbol
use Rattle.ir_module.specs.declared.op.Shape.{Shape}
use Rattle.ir_module.specs.declared.op.Shape.TheVariants as shape
use Rattle.ir_module.specs.declared.op.Operand.{Operand}
use Rattle.ir_module.specs.declared.op.Operand.TheVariants as operand
use Rattle.ir_module.specs.declared.op.Written.{Written}
use Rattle.ir_module.specs.declared.op.Call.{Call}
use Rattle.ir_module.specs.declared.op.Op.{Op}
use Rattle.ir_module.specs.declared.op.Op.TheVariants as op
use Rattle.ir_module.specs.declared.op.Instr.{Instr}
use Rattle.ir_module.specs.declared.module.Block.{Block}
use Rattle.ir_module.specs.declared.module.Func.{Func}
use Rattle.ir_module.specs.declared.module.ValueInfo.{ValueInfo}
use Rattle.ir_module.specs.declared.module.Module.{Module}
use Rattle.ir_module.specs.declared.edge.Edge.{Edge}
use Rattle.ir_module.specs.Edges.{edges}
use Rattle.ir_module.specs.Operands.{operands}
use Rattle.ir_module.specs.Calls.{call_of}

-- ---- runs of blocks and segments

-- the block number i is one of the function's
abbrev pub IsBlockOf : Func → ℕ → Type 0
IsBlockOf f i = (f.first_block ≤ i) × (i < f.first_block + f.block_count)

-- the segment number k is one of the block's
abbrev pub IsSegOf : Block → ℕ → Type 0
IsSegOf b k = (b.first_seg ≤ k) × (k < b.first_seg + b.seg_count)

-- an instruction stands at the end of segment number k of the block: a call is followed by another segment, a terminator by none
abbrev pub Ends : Block → ℕ → Op → Type 0
Ends b k (op.Call call) = k + 1 < b.first_seg + b.seg_count
Ends b k (op.Invoke call normal unwind) = k + 1 ≡ b.first_seg + b.seg_count
Ends b k (op.Resume val) = k + 1 ≡ b.first_seg + b.seg_count
Ends b k (op.Ret val) = k + 1 ≡ b.first_seg + b.seg_count
Ends b k (op.Jump to) = k + 1 ≡ b.first_seg + b.seg_count
Ends b k (op.Branch c so otherwise) = k + 1 ≡ b.first_seg + b.seg_count
Ends b k (op.Switch on other cases) = k + 1 ≡ b.first_seg + b.seg_count
Ends b k op.Unreachable = k + 1 ≡ b.first_seg + b.seg_count
Ends b k _ = ⊥

-- a call or a terminator
abbrev pub ends_seg : Op → Bool
ends_seg (op.Call call) = true
ends_seg (op.Invoke call normal unwind) = true
ends_seg (op.Resume val) = true
ends_seg (op.Ret val) = true
ends_seg (op.Jump to) = true
ends_seg (op.Branch c so otherwise) = true
ends_seg (op.Switch on other cases) = true
ends_seg op.Unreachable = true
ends_seg _ = false

-- instruction i of so many of segment k of the block: calls and terminators stand last, and nothing else does
abbrev pub IsPlaced : Block → ℕ → ℕ → ℕ → Op → Type 0
IsPlaced b k count i o = MatchBool (ends_seg o) ((i + 1 ≡ count) × Ends b k o) (i + 1 < count)

-- ---- numbers

abbrev pub IsType : Module → TypeId → Type 0
IsType m t = t.0 < length m.types

abbrev pub IsSymbol : Module → Symbol → Type 0
IsSymbol m (symbol.Global g) = g.0 < length m.globals
IsSymbol m (symbol.Func g) = g.0 < length m.funcs

-- a string has no parts of its own in the module's list
abbrev pub HasParts : Module → Shape → ℕ → ℕ → Type 0
HasParts m shape.Bytes first count = Unit {0}
HasParts m _ first count = first + count ≤ length m.parts

-- what a constant names is there; it names no value
abbrev pub IsConstant : Module → Operand → Type 0
IsConstant m (operand.Value v) = ⊥
IsConstant m (operand.Global g) = g.0 < length m.globals
IsConstant m (operand.Func g) = g.0 < length m.funcs
IsConstant m (operand.Offset base bytes inbounds wrap) = IsSymbol m base
IsConstant m (operand.Parts shape first count) = HasParts m shape first count
IsConstant m (operand.AnyInt first count) = first + count ≤ length m.parts
IsConstant m _ = Unit {0}

-- the block is one of function f
abbrev pub IsBlockIn : Module → ℕ → ℕ → Type 0
IsBlockIn m f i = (b : Block) × (slice_get m.blocks i ≡ Some b) × (b.func.0 ≡ f)

-- the value is one of function f
abbrev pub IsValueIn : Module → ℕ → ℕ → Type 0
IsValueIn m f v = (info : ValueInfo) × (slice_get m.values v ≡ Some info) × (info.func.0 ≡ f)

-- what an operand names is there, and a value is one of function f
abbrev pub IsOperandIn : Module → ℕ → Operand → Type 0
IsOperandIn m f (operand.Value v) = IsValueIn m f v.0
IsOperandIn m f other = IsConstant m other

abbrev pub AreConstants : Module → List Written → Type 0
AreConstants m ws = (k : ℕ) (w : Written) → slice_get ws k ≡ Some w → IsType m w.ty × IsConstant m w.val

-- the blocks that the arms of a phi come from
abbrev pub sources : Op → List BlockId
sources (op.Phi arms) = map (λ arm. arm.from) arms
sources _ = []

-- the types that an instruction writes, but those of its operands
abbrev pub written_types : Op → List TypeId
written_types (op.Alloca ty count align) = ty ∷ []
written_types (op.Gep elem base indices inbounds wrap) = elem ∷ []
written_types (op.Call call) = call.func_ty.ret ∷ call.func_ty.params
written_types (op.Invoke call normal unwind) = call.func_ty.ret ∷ call.func_ty.params
written_types _ = []

abbrev pub HasArgsIn : Option Call → Type 0
HasArgsIn None = Unit {0}
HasArgsIn (Some call) = (length call.attrs.args ≡ length call.args) × (length call.places.args ≡ length call.args)

-- each argument of a call has its attributes and its place
abbrev pub HasArgs : Op → Type 0
HasArgs o = HasArgsIn (call_of o)

-- each thing that an instruction of function f names is there, and its values and blocks are of f
pub record IsInstrIn (m : Module) (f : ℕ) (instr : Instr) : Type 0 where
  pub ty : IsType m instr.ty
  pub names : (k : ℕ) (w : Written) → slice_get (operands instr.op) k ≡ Some w → IsType m w.ty × IsOperandIn m f w.val
  pub targets : (k : ℕ) (e : Edge) → slice_get (edges instr.op) k ≡ Some e → IsBlockIn m f e.to.0
  pub arms : (k : ℕ) (b : BlockId) → slice_get (sources instr.op) k ≡ Some b → IsBlockIn m f b.0
  pub types : (k : ℕ) (t : TypeId) → slice_get (written_types instr.op) k ≡ Some t → IsType m t
  pub args : HasArgs instr.op
