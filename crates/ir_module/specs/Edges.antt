-- The edges between blocks.
use Rattle.std.specs.Prelude.{◌≡◌, ℕ, Bool, false, slice_get, List, [], ◌∷◌, map, Option, None, Some}
use Rattle.std.specs.List.{list_any}
use Rattle.attr_ids.specs.declared.ids.BlockId.{BlockId}
use Rattle.ir_module.specs.declared.op.Case.{Case}
use Rattle.ir_module.specs.declared.op.Op.{Op}
use Rattle.ir_module.specs.declared.op.Op.TheVariants as op
use Rattle.ir_module.specs.declared.op.Instr.{Instr}
use Rattle.ir_module.specs.declared.edge.Way.{Way}
use Rattle.ir_module.specs.declared.edge.Way.TheVariants as way
use Rattle.ir_module.specs.declared.edge.Edge.{Edge}
use Rattle.ir_module.specs.declared.module.Seg.{Seg}
use Rattle.ir_module.specs.declared.module.Module.{Module}
use Rattle.ir_module.specs.declared.module.Spot.{Spot}
use Rattle.ir_module.specs.Places.{instr_at, first_seg_of}

abbrev pub edge : Way → BlockId → Edge
edge way to = record { way = way; to = to }

abbrev pub case_edge : Case → Edge
case_edge c = edge (way.Case c.val) c.to

-- the edges of a terminator, in the order in which their labels are written
abbrev pub edges : Op → List Edge
edges (op.Invoke call normal unwind) = edge way.Normal normal ∷ edge way.Unwind unwind ∷ []
edges (op.Jump to) = edge way.Jump to ∷ []
edges (op.Branch c so otherwise) = edge way.Yes so ∷ edge way.No otherwise ∷ []
edges (op.Switch on other cases) = edge way.Other other ∷ map case_edge cases
edges _ = []

-- e is edge number i of the terminator at spot s
pub record IsEdgeAt (m : Module) (s : Spot) (i : ℕ) (e : Edge) : Type 0 where
  pub instr : Instr
  pub at_spot : instr_at m s ≡ Some instr
  pub is_edge : slice_get (edges instr.op) i ≡ Some e

abbrev pub is_catch_all : Op → Bool
is_catch_all (op.LandingPad catch_all clauses) = catch_all
is_catch_all _ = false

abbrev pub catches_in : Option Seg → Bool
catches_in None = false
catches_in (Some seg) = list_any (λ i. is_catch_all i.op) seg.instrs

-- the landing pad at the start of the block catches all; phis may stand before it
unfoldable pub catches_all : Module → ℕ → Bool
catches_all m i = catches_in (slice_get m.segs (first_seg_of m i))
