-- Rules of blocks and of the edges between them.
use Rattle.std.specs.Prelude.{ℕ, ◌≡◌, ◌+◌, ◌-◌, ◌<◌, ◌==◌, true, List, [], length, count_by, slice_get, Option, None, Some}
use Rattle.std.specs.Option.{option_and_then}
use Rattle.attr_ids.specs.declared.ids.BlockId.{BlockId}
use Rattle.ir_module.specs.declared.op.Arm.{Arm}
use Rattle.ir_module.specs.declared.op.Op.{Op}
use Rattle.ir_module.specs.declared.op.Op.TheVariants as op
use Rattle.ir_module.specs.declared.op.Instr.{Instr}
use Rattle.ir_module.specs.declared.edge.Way.{Way}
use Rattle.ir_module.specs.declared.edge.Way.TheVariants as way
use Rattle.ir_module.specs.declared.edge.Edge.{Edge}
use Rattle.ir_module.specs.declared.module.Spot.{Spot}
use Rattle.ir_module.specs.declared.module.Seg.{Seg}
use Rattle.ir_module.specs.declared.module.Block.{Block}
use Rattle.ir_module.specs.declared.module.Func.{Func}
use Rattle.ir_module.specs.declared.module.Module.{Module}
use Rattle.ir_module.specs.Edges.{edges}
use Rattle.ir_module.specs.Places.{spot, instr_at, first_seg_of, IsIn}
use Rattle.ir_module.specs.WellFormed.{Each}
use Rattle.ir_operands.specs.Same.{AreOneValue}

-- V4: no edge leads to the first block
abbrev pub LeavesEntryFree : Func → Op → Type 0
LeavesEntryFree func o = Each (edges o) (λ k e. e.to.0 ≡ func.first_block → ⊥)

abbrev pub IsPhi : Op → Type 0
IsPhi (op.Phi arms) = Unit {0}
IsPhi _ = ⊥

abbrev pub IsPad : Op → Type 0
IsPad (op.LandingPad catch_all clauses) = Unit {0}
IsPad _ = ⊥

-- so many instructions at the front of a list are phis
abbrev pub ArePhisTo : ℕ → List Instr → Type 0
ArePhisTo n instrs = (k : ℕ) (x : Instr) → k < n → slice_get instrs k ≡ Some x → IsPhi x.op

-- instruction i of segment number k of a block has phis alone before it: it stands in the block's first segment, since a
-- segment ends with a call or a terminator
pub record StandsBehindPhis (block : Block) (k : ℕ) (seg : Seg) (i : ℕ) : Type 0 where
  pub front : k ≡ block.first_seg
  pub phis : ArePhisTo i seg.instrs

-- V5: phis come before all other instructions
abbrev pub PhisComeFirst : Block → ℕ → Seg → ℕ → Op → Type 0
PhisComeFirst block k seg i (op.Phi arms) = StandsBehindPhis block k seg i
PhisComeFirst block k seg i _ = Unit {0}

-- ---- V6: phis and incoming edges

-- the last instruction of a segment
abbrev pub last_of : Seg → Option Instr
last_of seg = slice_get seg.instrs (length seg.instrs - 1)

-- the last segment of a block
abbrev pub last_seg : Module → Block → Option Seg
last_seg m block = slice_get m.segs (block.first_seg + block.seg_count - 1)

-- the terminator of block number b
abbrev pub terminator : Module → ℕ → Option Instr
terminator m b = option_and_then last_of (option_and_then (last_seg m) (slice_get m.blocks b))

abbrev pub edges_in : Option Instr → List Edge
edges_in None = []
edges_in (Some instr) = edges instr.op

-- how many edges lead from block number x to block number b
abbrev pub edge_count : Module → ℕ → ℕ → ℕ
edge_count m x b = count_by (λ e. e.to.0 == b) (edges_in (terminator m x))

-- how many arms come from block number x
abbrev pub arm_count : List Arm → ℕ → ℕ
arm_count arms x = count_by (λ arm. arm.from.0 == x) arms

-- two lists have the same numbers, with repeats, in whatever order
abbrev pub AreSame : List ℕ → List ℕ → Type 0
AreSame xs ys = (b : ℕ) → count_by (λ x. x == b) xs ≡ count_by (λ y. y == b) ys

-- as many arms come from each block as edges lead from it
abbrev pub AreIncoming : Module → ℕ → List Arm → Type 0
AreIncoming m b arms = (x : ℕ) → arm_count arms x ≡ edge_count m x b

-- arms of one block have one value
abbrev pub AgreeByBlock : Module → List ℕ → List Arm → Type 0
AgreeByBlock m numbers arms = (i j : ℕ) (x y : Arm) → slice_get arms i ≡ Some x → slice_get arms j ≡ Some y → x.from.0 ≡ y.from.0
    → AreOneValue m.types numbers m.parts x.val y.val

-- a phi of block number b has an arm for each edge into its block, and arms of one block have one value
pub record ArmsFit (m : Module) (numbers : List ℕ) (b : ℕ) (arms : List Arm) : Type 0 where
  pub incoming : AreIncoming m b arms
  pub agree : AgreeByBlock m numbers arms

-- V6 of an instruction of block number b
abbrev pub HasArms : Module → List ℕ → ℕ → Op → Type 0
HasArms m numbers b (op.Phi arms) = ArmsFit m numbers b arms
HasArms m numbers b _ = Unit {0}

-- ---- V20, V21: landing pads

-- the block to which an `invoke` unwinds
abbrev pub unwind_in : Op → Option BlockId
unwind_in (op.Invoke call normal unwind) = Some unwind
unwind_in _ = None

abbrev pub unwind_of : Option Instr → Option BlockId
unwind_of None = None
unwind_of (Some instr) = unwind_in instr.op

-- the terminator of some block is an `invoke` that unwinds to block number b
abbrev pub IsUnwoundTo : Module → ℕ → Type 0
IsUnwoundTo m b = (x : ℕ) × (unwind_of (terminator m x) ≡ Some (record { 0 = b }))

-- a landing pad stands in a list directly behind the phis at its front
abbrev pub HasPadBehindPhis : Option Seg → Type 0
HasPadBehindPhis None = ⊥
HasPadBehindPhis (Some seg) = (n : ℕ) × (x : Instr) × (slice_get seg.instrs n ≡ Some x) × IsPad x.op × ArePhisTo n seg.instrs

-- the segment in which block number b begins
abbrev pub front_of : Module → ℕ → Option Seg
front_of m b = slice_get m.segs (first_seg_of m b)

-- block number b has a landing pad directly behind its phis
abbrev pub StartsWithPad : Module → ℕ → Type 0
StartsWithPad m b = HasPadBehindPhis (front_of m b)

-- an unwind edge leads to a landing pad, and where one leads, no other edge leads to the same block
abbrev pub Lands : Module → ℕ → Way → Type 0
Lands m to way.Unwind = StartsWithPad m to
Lands m to _ = IsUnwoundTo m to → ⊥

-- instruction i of segment number k of a block stands directly behind the phis of a block to which an unwind edge leads
pub record IsWhereUnwound (m : Module) (block : Block) (k : ℕ) (seg : Seg) (i : ℕ) : Type 0 where
  pub behind : StandsBehindPhis block k seg i
  pub unwound : IsUnwoundTo m seg.block.0

-- so does each landing pad
abbrev pub PadIsReached : Module → Block → ℕ → Seg → ℕ → Op → Type 0
PadIsReached m block k seg i (op.LandingPad catch_all clauses) = IsWhereUnwound m block k seg i
PadIsReached m block k seg i _ = Unit {0}

-- V20 of instruction i of segment number k of a block: of a landing pad, and of the edges of a terminator
pub record HasPads (m : Module) (block : Block) (k : ℕ) (seg : Seg) (i : ℕ) (o : Op) : Type 0 where
  pub pad : PadIsReached m block k seg i o
  pub edges : Each (edges o) (λ n e. Lands m e.to.0 e.way)

-- segment number k has a landing pad
abbrev pub SegHasPad : Module → ℕ → Type 0
SegHasPad m k = (at : ℕ) × (x : Instr) × (instr_at m (spot k at) ≡ Some x) × IsPad x.op

-- function number f has a landing pad
abbrev pub HasPad : Module → ℕ → Type 0
HasPad m f = (s : Spot) × (x : Instr) × IsIn m f s × (instr_at m s ≡ Some x) × IsPad x.op

-- V21: a function with a landing pad has a `personality`
abbrev pub HasPersonality : Module → ℕ → Func → Type 0
HasPersonality m f func = HasPad m f → func.personality ≡ true
