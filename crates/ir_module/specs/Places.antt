-- The places of a module's instructions.
use Rattle.std.specs.Prelude.{◌≡◌, ◌+◌, ℕ, slice_get, Option, None, Some}
use Rattle.ir_module.specs.declared.op.Instr.{Instr}
use Rattle.ir_module.specs.declared.module.Seg.{Seg}
use Rattle.ir_module.specs.declared.module.Block.{Block}
use Rattle.ir_module.specs.declared.module.Func.{Func}
use Rattle.ir_module.specs.declared.module.Spot.{Spot}
use Rattle.ir_module.specs.declared.module.Module.{Module}

-- the spot of instruction number `at` of segment number k
abbrev pub spot : ℕ → ℕ → Spot
spot k at = record { seg = record { 0 = k }; at = at }

abbrev pub in_seg : ℕ → Option Seg → Option Instr
in_seg at None = None
in_seg at (Some seg) = slice_get seg.instrs at

-- the instruction at a spot, where there is one
unfoldable pub instr_at : Module → Spot → Option Instr
instr_at m s = in_seg s.at (slice_get m.segs s.seg.0)

-- the spot lies in a block of the function f
pub record IsIn (m : Module) (f : ℕ) (s : Spot) : Type 0 where
  pub seg : Seg
  pub block : Block
  pub at_seg : slice_get m.segs s.seg.0 ≡ Some seg
  pub at_block : slice_get m.blocks seg.block.0 ≡ Some block
  pub in_func : block.func.0 ≡ f

-- the segment is one of block number i
pub record IsSegInBlock (m : Module) (i k : ℕ) : Type 0 where
  pub seg : Seg
  pub at_seg : slice_get m.segs k ≡ Some seg
  pub in_block : seg.block.0 ≡ i

-- the segment is one of the function's body
abbrev pub IsSegIn : Module → ℕ → ℕ → Type 0
IsSegIn m f k = IsIn m f (spot k 0)

abbrev pub first_block_in : Option Func → ℕ
first_block_in None = 0
first_block_in (Some f) = f.first_block

abbrev pub first_seg_in : Option Block → ℕ
first_seg_in None = 0
first_seg_in (Some b) = b.first_seg

-- the segment in which a block begins
abbrev pub first_seg_of : Module → ℕ → ℕ
first_seg_of m i = first_seg_in (slice_get m.blocks i)

-- where a block begins: the first instruction of its first segment
abbrev pub start_of : Module → ℕ → Spot
start_of m i = spot (first_seg_of m i) 0

-- where a body begins: its first block does
unfoldable pub entry_of : Module → ℕ → Spot
entry_of m f = start_of m (first_block_in (slice_get m.funcs f))

-- where a body goes on behind a `call`: a call ends its segment, so it is where the next one begins; behind an `invoke` a block begins
abbrev pub behind_call : Spot → Spot
behind_call s = spot (s.seg.0 + 1) 0
