-- The blocks of a body: their instructions, their segments, and the blocks themselves.
use Rattle.std.specs.Prelude.{ℕ, ◌+◌, ◌-◌, List, [], ◌∷◌, ◌++◌, map, length, decimal, slice_get, slice_range, Option, None, Some}
use Rattle.std.specs.List.{flat_map}
use Rattle.attr_ids.specs.declared.ids.FuncId.{FuncId}
use Rattle.attr_ids.specs.declared.ids.BlockId.{BlockId}
use Rattle.ir_token.specs.declared.token.Token.{Token}
use Rattle.ir_tree.specs.declared.blocks.Line.{Line}
use Rattle.ir_tree.specs.declared.blocks.Last.{Last}
use Rattle.ir_tree.specs.declared.blocks.Block as tree_block
use Rattle.ir_tree.specs.declared.blocks.Body.{Body}
use Rattle.ir_module.specs.declared.op.Instr.{Instr}
use Rattle.ir_module.specs.declared.module.Seg.{Seg}
use Rattle.ir_module.specs.declared.module.Block.{Block}
use Rattle.ir_attrs.specs.Places.{or_leaf}
use Rattle.ir_segments.specs.Segments.{cut, ends, seg}
use Rattle.ir_instrs.specs.Reading.{Parts}
use Rattle.ir_instrs.specs.Uses.{Use, behind}
use Rattle.ir_bodies.specs.Context.{Context}
use Rattle.ir_bodies.specs.Lines.{block_uses, block_values, block_instrs}

-- a block as it is written; the first one may have no label
pub record Part : Type 0 where
  pub label : Option ℕ
  pub lines : List Line
  pub last : Last

abbrev pub part : Option ℕ → List Line → Last → Part
part label ls x = record { label = label; lines = ls; last = x }

abbrev pub block_part : tree_block.Block → Part
block_part b = part (Some b.label) b.lines b.last

-- the blocks of a body in the order of the text
abbrev pub parts : Body → List Part
parts b = part b.first.label b.first.lines b.first.last ∷ map block_part b.blocks

abbrev pub part_uses : Context → Part → List Use
part_uses r p = block_uses r p.lines p.last

abbrev pub part_values : Context → ℕ → Part → ℕ
part_values r v p = block_values r v p.lines p.last

abbrev pub part_instrs : Context → ℕ → Parts → ℕ → Part → List Instr
part_instrs r v laid next p = block_instrs r v laid next p.lines p.last

-- the token behind a block: the label of the next one, or the one behind all of them
abbrev pub label_of : List Part → ℕ → ℕ
label_of [] close = close
label_of (p ∷ ps) close = or_leaf close p.label

-- the instructions of each block
abbrev pub instrs_of : Context → ℕ → Parts → ℕ → List Part → List (List Instr)
instrs_of r v laid close [] = []
instrs_of r v laid close (p ∷ ps) =
    part_instrs r v laid (label_of ps close) p ∷ instrs_of r (part_values r v p) (behind r.reading laid (part_uses r p)) close ps

abbrev pub uses_of : Context → List Part → List Use
uses_of r ps = flat_map (part_uses r) ps

abbrev pub values_of : Context → ℕ → List Part → ℕ
values_of r v [] = v
values_of r v (p ∷ ps) = values_of r (part_values r v p) ps

abbrev pub block_id : ℕ → BlockId
block_id b = record { 0 = b }

-- the segments of blocks with these instructions, of which this is the number of the first
abbrev pub segs_of : ℕ → List (List Instr) → List Seg
segs_of b [] = []
segs_of b (is ∷ iss) = map (seg (block_id b)) (cut ends is) ++ segs_of (b + 1) iss

-- the text of a label without its colon
abbrev pub label_text : List ℕ → Option Token → List ℕ
label_text b None = []
label_text b (Some t) = slice_range b t.span.from (t.span.to - 1)

-- the name of a block: that of its label, or the number that the counter has
abbrev pub block_name : Context → ℕ → Option ℕ → List ℕ
block_name r counter None = decimal counter
block_name r counter (Some at) = label_text r.reading.text (slice_get r.reading.toks at)

abbrev pub block : Context → FuncId → ℕ → ℕ → Part → List Instr → Block
block r func counter s p is = record { func = func; name = block_name r counter p.label; first_seg = s; seg_count = length (cut ends is) }

-- the blocks themselves, of which the first begins with this segment
abbrev pub blocks_of : Context → FuncId → ℕ → ℕ → List Part → List (List Instr) → List Block
blocks_of r func counter s (p ∷ ps) (is ∷ iss) =
    block r func counter s p is ∷ blocks_of r func counter (s + length (cut ends is)) ps iss
blocks_of r func counter s _ _ = []
