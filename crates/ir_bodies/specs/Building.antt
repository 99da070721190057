-- What it is for the instructions of a block, and for blocks, to be put behind those before them.
use Rattle.std.specs.Prelude.{◌≡◌, ℕ, List, [], ◌∷◌, ◌++◌, length, map}
use Rattle.attr_ids.specs.declared.ids.BlockId.{BlockId}
use Rattle.attr_ids.specs.declared.ids.FuncId.{FuncId}
use Rattle.ir_module.specs.declared.op.Instr.{Instr}
use Rattle.ir_module.specs.declared.module.Seg.{Seg}
use Rattle.ir_tree.specs.declared.blocks.Line.{Line}
use Rattle.ir_segments.specs.Segments.{IsCut, seg, cut, ends}
use Rattle.ir_bodies.specs.declared.builder.Builder.{Builder}
use Rattle.ir_instrs.specs.Uses.{Use, Takes}
use Rattle.ir_bodies.specs.Context.{Context}
use Rattle.ir_bodies.specs.Lines.{lines_instrs, lines_uses, lines_values}
use Rattle.ir_bodies.specs.Bodies.{Part, part_instrs, part_uses, part_values, block_id, block, instrs_of, uses_of, values_of, segs_of, blocks_of}

-- these instructions of a block were put in, with what they name; so many values are made then
pub record Fills (r : Context) (b : BlockId) (is : List Instr) (us : List Use) (v : ℕ) (old new : Builder) : Type 0 where
  pub cut_on : (segs : List Seg) (taken : List Instr) → IsCut b segs taken old.cutter.segs.items old.cutter.run.items →
      IsCut b segs (taken ++ is) new.cutter.segs.items new.cutter.run.items
  pub takes : Takes r.reading us old.notes new.notes
  pub values : new.values ≡ v
  pub blocks : new.blocks.items ≡ old.blocks.items

-- the first instructions of a block, with what they name, up to this token
abbrev pub FillsLines : Context → BlockId → ℕ → List Line → Builder → Builder → Type 0
FillsLines r b end ls old new =
    Fills r b (lines_instrs r old.values old.notes.parts.items end ls) (lines_uses r ls) (lines_values r old.values ls) old new

-- a block of a function was put in, before this token: its segments stand behind those before it, and so does it
pub record Puts (r : Context) (func : FuncId) (counter next : ℕ) (p : Part) (old new : Builder) : Type 0 where
  pub segs : new.cutter.segs.items ≡ old.cutter.segs.items
      ++ map (seg (block_id (length old.blocks.items))) (cut ends (part_instrs r old.values old.notes.parts.items next p))
  pub run : new.cutter.run.items ≡ []
  pub blocks : new.blocks.items ≡ old.blocks.items
      ++ block r func counter (length old.cutter.segs.items) p (part_instrs r old.values old.notes.parts.items next p) ∷ []
  pub values : new.values ≡ part_values r old.values p
  pub takes : Takes r.reading (part_uses r p) old.notes new.notes

-- these blocks of a function were put in, before this token: their segments and they themselves stand behind those before them
pub record Builds (r : Context) (func : FuncId) (counter close : ℕ) (ps : List Part) (old new : Builder) : Type 0 where
  pub segs : new.cutter.segs.items ≡ old.cutter.segs.items
      ++ segs_of (length old.blocks.items) (instrs_of r old.values old.notes.parts.items close ps)
  pub run : new.cutter.run.items ≡ []
  pub blocks : new.blocks.items ≡ old.blocks.items
      ++ blocks_of r func counter (length old.cutter.segs.items) ps (instrs_of r old.values old.notes.parts.items close ps)
  pub values : new.values ≡ values_of r old.values ps
  pub takes : Takes r.reading (uses_of r ps) old.notes new.notes
