-- Instructions that are put into a block one behind another, and blocks into a body.
use Rattle.std.proofs.Common.{◌≡◌, ℕ, ◌+◌, ◌-◌, ◌<◌, ◌≤◌, List, [], ◌∷◌, ◌++◌, All, false, length, take, take_all, drop, get_or, map, refl, sym, ap}
use Rattle.std.proofs.Common.{subst, ◌∙◌, append_assoc, length-append, arith}
use Rattle.std.proofs.lemmas.List.{append-nil, length-map}
use Rattle.std.specs.Prelude.{Option, Bool}
use Rattle.attr_ids.specs.declared.ids.BlockId.{BlockId}
use Rattle.attr_ids.specs.declared.ids.TypeId.{TypeId}
use Rattle.attr_ids.specs.declared.ids.ValueId.{ValueId}
use Rattle.attr_ids.specs.declared.insertion.Span.{Span}
use Rattle.ir_operands.specs.Constants.{ArePartsBelow}
use Rattle.ir_module.specs.declared.op.Instr.{Instr}
use Rattle.ir_module.specs.declared.op.Op.{Op}
use Rattle.attr_ids.specs.declared.ids.FuncId.{FuncId}
use Rattle.ir_tree.specs.declared.blocks.Line.{Line}
use Rattle.ir_tree.specs.declared.blocks.Block.{Block}
use Rattle.ir_module.specs.declared.module.Seg.{Seg}
use Rattle.ir_module.specs.declared.module.Block.{Block as MadeBlock}
use Rattle.ir_segments.specs.Segments.{IsCut, seg, cut, ends}
use Rattle.ir_bodies.specs.declared.builder.Builder.{Builder}
use Rattle.ir_instrs.specs.Uses.{Use, behind, Takes}
use Rattle.ir_bodies.specs.Context.{Context}
use Rattle.ir_tree.specs.declared.blocks.Last.{Last}
use Rattle.ir_bodies.specs.Lines.{line_instrs, line_uses, line_values, first_of, lines_instrs, lines_uses, lines_values}
use Rattle.ir_bodies.specs.Lines.{last_first, last_instr, last_uses, last_values, block_instrs, block_uses, block_values}
use Rattle.ir_bodies.specs.Bodies.{Part, block_part, part_instrs, part_uses, part_values, block_id, block, label_of, instrs_of, uses_of, values_of}
use Rattle.ir_bodies.specs.Bodies.{segs_of, blocks_of}
use Rattle.ir_bodies.specs.Building.{Fills, FillsLines, Puts, Builds}
use Rattle.ir_instrs.proofs.Taking.{takes_none, takes_both}

pub fills_none : (r : Context) (b : BlockId) (s : Builder) → ArePartsBelow s.notes.parts.items → Fills r b [] [] s.values s s
fills_none r b s below = record {
  cut_on = λ segs taken cut. subst (λ is. IsCut b segs is s.cutter.segs.items s.cutter.run.items) (sym (append-nil taken)) cut;
  takes = takes_none r.reading s.notes below;
  values = refl;
  blocks = refl;
}

-- instructions behind others of the block
pub fills_both : (r : Context) (b : BlockId) (is js : List Instr) (us vs : List Use) (v w : ℕ) (old mid new : Builder) → Fills r b is us v old mid →
    Fills r b js vs w mid new → Fills r b (is ++ js) (us ++ vs) w old new
fills_both r b is js us vs v w old mid new x y = record {
  cut_on = λ segs taken cut. subst (λ zs. IsCut b segs zs new.cutter.segs.items new.cutter.run.items) (append_assoc taken is js)
      (y.cut_on segs (taken ++ is) (x.cut_on segs taken cut));
  takes = takes_both r.reading us vs old.notes mid.notes new.notes x.takes y.takes;
  values = y.values;
  blocks = y.blocks ∙ x.blocks;
}

-- a line before others
pub lines_next : (r : Context) (b : BlockId) (end : ℕ) (l : Line) (ls : List Line) (old mid new : Builder) →
    Fills r b (line_instrs r old.values old.notes.parts.items (first_of ls end) l) (line_uses r l) (line_values r old.values l) old mid →
    FillsLines r b end ls mid new → FillsLines r b end (l ∷ ls) old new
lines_next r b end l ls old mid new x y =
    let is = line_instrs r old.values old.notes.parts.items (first_of ls end) l in
    let both = fills_both r b is (lines_instrs r mid.values mid.notes.parts.items end ls) (line_uses r l) (lines_uses r ls) (line_values r old.values l)
    (lines_values r mid.values ls) old mid new x y in
    let counted = subst (λ v. Fills r b (is ++ lines_instrs r v mid.notes.parts.items end ls) (line_uses r l ++ lines_uses r ls) (lines_values r v
    ls) old new)
    x.values both in
    subst (λ ps. Fills r b (is ++ lines_instrs r (line_values r old.values l) ps end ls) (line_uses r l ++ lines_uses r ls)
    (lines_values r (line_values r old.values l) ls) old new) x.takes.parts counted

-- the line in front, and those behind it
pub lines_step : (r : Context) (b : BlockId) (end : ℕ) (rest : List Line) (l : Line) (old mid new : Builder) → 1 ≤ length rest → l ≡ get_or rest 0 l →
    Fills r b (line_instrs r old.values old.notes.parts.items (first_of (take (length rest - 1) (drop 1 rest)) end) l) (line_uses r l)
    (line_values r old.values l) old mid →
    FillsLines r b end (take (length rest - 1) (drop 1 rest)) mid new → FillsLines r b end rest old new
lines_step r b end [] l old mid new long is x y = absurd (omega arith)
lines_step r b end (z ∷ zs) l old mid new long is x y =
    let tail : take (length (z ∷ zs) - 1) zs ≡ zs = take_all (length (z ∷ zs) - 1) zs (omega arith) in
    lines_next r b end z zs old mid new
    (subst (λ k. Fills r b (line_instrs r old.values old.notes.parts.items (first_of zs end) k) (line_uses r k) (line_values r old.values k) old mid) is
    (subst (λ ks. Fills r b (line_instrs r old.values old.notes.parts.items (first_of ks end) l) (line_uses r l) (line_values r old.values l) old
    mid) tail x))
    (subst (λ ks. FillsLines r b end ks mid new) tail y)

pub empty : {X : Type 0} (xs : List X) → length xs < 1 → xs ≡ []
empty [] l = refl
empty (x ∷ xs) l = absurd (omega arith)

-- no line is left
pub lines_none : (r : Context) (b : BlockId) (end : ℕ) (ls : List Line) (s : Builder) → ls ≡ [] → ArePartsBelow s.notes.parts.items → FillsLines r b
    end ls s s
lines_none r b end ls s none below = subst (λ ls. FillsLines r b end ls s s) (sym none) (fills_none r b s below)

-- what ends a block behind its lines
pub filled : (r : Context) (b : BlockId) (next : ℕ) (ls : List Line) (x : Last) (old mid new : Builder) → FillsLines r b (last_first x) ls old mid →
    Fills r b (last_instr r mid.values mid.notes.parts.items next x ∷ []) (last_uses r x) (last_values r mid.values x) mid new →
    Fills r b (block_instrs r old.values old.notes.parts.items next ls x) (block_uses r ls x) (block_values r old.values ls x) old new
filled r b next ls x old mid new lines end =
    let is = lines_instrs r old.values old.notes.parts.items (last_first x) ls in
    let us = lines_uses r ls ++ last_uses r x in
    let v = lines_values r old.values ls in
    let both = fills_both r b is (last_instr r mid.values mid.notes.parts.items next x ∷ []) (lines_uses r ls) (last_uses r x) v (last_values r mid.values x)
    old mid new lines end in
    let counted = subst (λ v. Fills r b (is ++ last_instr r v mid.notes.parts.items next x ∷ []) us (last_values r v x) old new) lines.values both in
    subst (λ ps. Fills r b (is ++ last_instr r v ps next x ∷ []) us (last_values r v x) old new) lines.takes.parts counted

-- an instruction that was pushed
pub pushed : (r : Context) (b : BlockId) (i j : Instr) (us : List Use) (v : ℕ) (old new : Builder) → i ≡ j →
    ((segs : List Seg) (taken : List Instr) → IsCut b segs taken old.cutter.segs.items old.cutter.run.items →
    IsCut b segs (taken ++ i ∷ []) new.cutter.segs.items new.cutter.run.items) →
    Takes r.reading us old.notes new.notes → new.values ≡ v → new.blocks.items ≡ old.blocks.items → Fills r b (j ∷ []) us v old new
pushed r b i j us v old new same push takes values blocks = record {
  cut_on = λ segs taken cut. subst (λ k. IsCut b segs (taken ++ k ∷ []) new.cutter.segs.items new.cutter.run.items) same (push segs taken cut);
  takes = takes;
  values = values;
  blocks = blocks;
}

abbrev an_instr : Option ValueId → Bool → TypeId → Op → Span → Instr
an_instr v n t o s = record { result = v; named = n; ty = t; op = o; span = s }

-- an instruction by its parts
pub instr_is : (v w : Option ValueId) (n m : Bool) (t u : TypeId) (o p : Op) (s z : Span) → v ≡ w → n ≡ m → t ≡ u → o ≡ p → s ≡ z →
    an_instr v n t o s ≡ an_instr w m u p z
instr_is v w n m t u o p s z a b c d e =
    ap (λ v. an_instr v n t o s) a ∙ ap (λ n. an_instr w n t o s) b ∙ ap (λ t. an_instr w m t o s) c ∙ ap (λ o. an_instr w m u o s) d
    ∙ ap (λ s. an_instr w m u p s) e

none_plain : All (λ i. ends i ≡ false) []
none_plain k d l = absurd (omega arith)

-- at the front of a block nothing is open
pub cut_none : (b : BlockId) (segs : List Seg) (run : List Instr) → run ≡ [] → IsCut b segs [] segs run
cut_none b segs run none = subst (λ run. IsCut b segs [] segs run) (sym none) (record { plain = none_plain; goes_on = λ rest. refl })

-- the segments of a block that was finished
pub finished : (r : Context) (b : BlockId) (is : List Instr) (us : List Use) (v : ℕ) (old mid : Builder) (segs : List Seg) → old.cutter.run.items ≡ [] →
    Fills r b is us v old mid →
    ((old : List Seg) (taken : List Instr) → IsCut b old taken mid.cutter.segs.items mid.cutter.run.items → segs ≡ old ++ map (seg b) (cut ends taken)) →
    segs ≡ old.cutter.segs.items ++ map (seg b) (cut ends is)
finished r b is us v old mid segs run fills finish =
    finish old.cutter.segs.items is (fills.cut_on old.cutter.segs.items [] (cut_none b old.cutter.segs.items old.cutter.run.items run))

-- how many segments a block has
pub segs_counted : (b : BlockId) (is : List Instr) (had segs : List Seg) (first end : ℕ) → segs ≡ had ++ map (seg b) (cut ends is) → first ≡ length had →
    end ≡ length segs → end - first ≡ length (cut ends is)
segs_counted b is had segs first end are h g =
    let long : length segs ≡ length had + length (cut ends is) = ap length are ∙ length-append had (map (seg b) (cut ends is))
    ∙ ap (λ k. length had + k) (length-map (cut ends is) (seg b)) in
    omega arith

abbrev a_block : FuncId → List ℕ → ℕ → ℕ → MadeBlock
a_block f n s k = record { func = f; name = n; first_seg = s; seg_count = k }

-- a block by its parts
pub block_is : (f : FuncId) (n m : List ℕ) (s t k j : ℕ) → n ≡ m → s ≡ t → k ≡ j → a_block f n s k ≡ a_block f m t j
block_is f n m s t k j a b c = ap (λ n. a_block f n s k) a ∙ ap (λ s. a_block f m s k) b ∙ ap (a_block f m t) c

-- a block that was filled, finished and pushed
pub put : (r : Context) (func : FuncId) (counter next : ℕ) (p : Part) (b : BlockId) (blk : MadeBlock) (old mid new : Builder) →
    b ≡ block_id (length old.blocks.items) → old.cutter.run.items ≡ [] →
    Fills r b (part_instrs r old.values old.notes.parts.items next p) (part_uses r p) (part_values r old.values p) old mid →
    ((had : List Seg) (taken : List Instr) → IsCut b had taken mid.cutter.segs.items mid.cutter.run.items →
    new.cutter.segs.items ≡ had ++ map (seg b) (cut ends taken)) → new.cutter.run.items ≡ [] →
    blk ≡ block r func counter (length old.cutter.segs.items) p (part_instrs r old.values old.notes.parts.items next p) →
    new.blocks.items ≡ mid.blocks.items ++ blk ∷ [] → new.values ≡ mid.values → new.notes ≡ mid.notes → Puts r func counter next p old new
put r func counter next p b blk old mid new numbered run fills finish ended is pushed values notes =
    let ins = part_instrs r old.values old.notes.parts.items next p in
    record {
      segs = finished r b ins (part_uses r p) (part_values r old.values p) old mid new.cutter.segs.items run fills finish
          ∙ ap (λ b. old.cutter.segs.items ++ map (seg b) (cut ends ins)) numbered;
      run = ended;
      blocks = pushed ∙ ap (λ xs. xs ++ blk ∷ []) fills.blocks ∙ ap (λ x. old.blocks.items ++ x ∷ []) is;
      values = values ∙ fills.values;
      takes = subst (λ n. Takes r.reading (part_uses r p) old.notes n) (sym notes) fills.takes;
    }

-- a block before others
pub builds_then : (r : Context) (func : FuncId) (counter close : ℕ) (p : Part) (ps : List Part) (old mid new : Builder) →
    Puts r func counter (label_of ps close) p old mid → Builds r func counter close ps mid new → Builds r func counter close (p ∷ ps) old new
builds_then r func counter close p ps old mid new a b =
    let v = old.values in
    let laid = old.notes.parts.items in
    let is = part_instrs r v laid (label_of ps close) p in
    let had = instrs_of r mid.values mid.notes.parts.items close ps in
    let own = map (seg (block_id (length old.blocks.items))) (cut ends is) in
    let blk = block r func counter (length old.cutter.segs.items) p is in
    let same : had ≡ instrs_of r (part_values r v p) (behind r.reading laid (part_uses r p)) close ps =
    ap (λ w. instrs_of r w mid.notes.parts.items close ps) a.values ∙ ap (λ k. instrs_of r (part_values r v p) k close ps) a.takes.parts in
    let count : length mid.blocks.items ≡ length old.blocks.items + 1 = ap length a.blocks ∙ length-append old.blocks.items (blk ∷ []) in
    let segs_count : length mid.cutter.segs.items ≡ length old.cutter.segs.items + length (cut ends is) =
    ap length a.segs ∙ length-append old.cutter.segs.items own
    ∙ ap (λ k. length old.cutter.segs.items + k) (length-map (cut ends is) (seg (block_id (length old.blocks.items)))) in
    record {
      segs = b.segs ∙ ap (λ xs. xs ++ segs_of (length mid.blocks.items) had) a.segs
          ∙ append_assoc old.cutter.segs.items own (segs_of (length mid.blocks.items) had)
          ∙ ap (λ k. old.cutter.segs.items ++ (own ++ segs_of k had)) count
          ∙ ap (λ z. old.cutter.segs.items ++ (own ++ segs_of (length old.blocks.items + 1) z)) same;
      run = b.run;
      blocks = b.blocks ∙ ap (λ xs. xs ++ blocks_of r func counter (length mid.cutter.segs.items) ps had) a.blocks
          ∙ append_assoc old.blocks.items (blk ∷ []) (blocks_of r func counter (length mid.cutter.segs.items) ps had)
          ∙ ap (λ k. old.blocks.items ++ blk ∷ blocks_of r func counter k ps had) segs_count
          ∙ ap (λ z. old.blocks.items ++ blk ∷ blocks_of r func counter (length old.cutter.segs.items + length (cut ends is)) ps z) same;
      values = b.values ∙ ap (λ w. values_of r w ps) a.values;
      takes = takes_both r.reading (part_uses r p) (uses_of r ps) old.notes mid.notes new.notes a.takes b.takes;
    }

-- no block is left
pub builds_none : (r : Context) (func : FuncId) (counter close : ℕ) (ps : List Part) (s : Builder) → ps ≡ [] → s.cutter.run.items ≡ [] →
    ArePartsBelow s.notes.parts.items → Builds r func counter close ps s s
builds_none r func counter close ps s none run below = subst (λ ps. Builds r func counter close ps s s) (sym none) (record {
  segs = sym (append-nil s.cutter.segs.items);
  run = run;
  blocks = sym (append-nil s.blocks.items);
  values = refl;
  takes = takes_none r.reading s.notes below;
})

-- the block in front, and those behind it
pub builds_step : (r : Context) (func : FuncId) (counter close : ℕ) (rest : List Block) (x : Block) (old mid new : Builder) → 1 ≤ length rest →
    x ≡ get_or rest 0 x →
    Puts r func counter (label_of (map block_part (take (length rest - 1) (drop 1 rest))) close) (block_part x) old mid →
    Builds r func counter close (map block_part (take (length rest - 1) (drop 1 rest))) mid new → Builds r func counter close (map block_part rest) old new
builds_step r func counter close [] x old mid new long is a b = absurd (omega arith)
builds_step r func counter close (z ∷ zs) x old mid new long is a b =
    let tail : take (length (z ∷ zs) - 1) zs ≡ zs = take_all (length (z ∷ zs) - 1) zs (omega arith) in
    builds_then r func counter close (block_part z) (map block_part zs) old mid new
    (subst (λ k. Puts r func counter (label_of (map block_part zs) close) (block_part k) old mid) is
    (subst (λ ks. Puts r func counter (label_of (map block_part ks) close) (block_part x) old mid) tail a))
    (subst (λ ks. Builds r func counter close (map block_part ks) mid new) tail b)
