-- The results of a body follow one another; its segments have all its instructions.
use Rattle.std.proofs.Common.{◌≡◌, ℕ, ◌+◌, Bool, true, false, List, [], ◌∷◌, ◌++◌, map, refl, sym, ap, subst, ◌∙◌, append_assoc}
use Rattle.std.specs.List.{flat_map}
use Rattle.std.specs.Prelude.{Option}
use Rattle.attr_ids.specs.declared.ids.TypeId.{TypeId}
use Rattle.attr_ids.specs.declared.ids.BlockId.{BlockId}
use Rattle.ir_tree.specs.declared.blocks.Line.{Line}
use Rattle.ir_tree.specs.declared.blocks.Line.TheVariants as line
use Rattle.ir_tree.specs.declared.blocks.Last.{Last}
use Rattle.ir_tree.specs.declared.blocks.Last.TheVariants as last
use Rattle.ir_module.specs.declared.op.Instr.{Instr}
use Rattle.ir_module.specs.declared.op.Op.{Op}
use Rattle.ir_segments.specs.Segments.{cut, ends, seg}
use Rattle.ir_instrs.specs.Reading.{Parts}
use Rattle.ir_instrs.specs.Uses.{behind}
use Rattle.ir_bodies.specs.Context.{Context}
use Rattle.ir_bodies.specs.Instrs.{op_of, type_in, instr_first, invoke_of}
use Rattle.ir_bodies.specs.Lines as lines
use Rattle.ir_bodies.specs.Lines.{value_in, raised, made, line_instrs, line_uses, line_values, first_of, lines_instrs, lines_values, last_instr, last_values}
use Rattle.ir_bodies.specs.Lines.{block_instrs, block_values, last_first, lines_uses}
use Rattle.ir_bodies.specs.Bodies.{Part, part_instrs, part_values, part_uses, label_of, instrs_of, values_of, segs_of, block_id}
use Rattle.ir_bodies.specs.Order.{results, AreCounted}

counted_both : (a b c : ℕ) (xs ys : List ℕ) → AreCounted a b xs → AreCounted b c ys → AreCounted a c (xs ++ ys)
counted_both a b c [] ys x y = subst (λ n. AreCounted n c ys) (sym x) y
counted_both a b c (n ∷ xs) ys x y = (x.0, counted_both (a + 1) b c xs ys x.1 y)

pub flat_append : {X Y : Type 0} (f : X → List Y) (xs ys : List X) → flat_map f (xs ++ ys) ≡ flat_map f xs ++ flat_map f ys
flat_append f [] ys = refl
flat_append f (x ∷ xs) ys = ap (λ zs. f x ++ zs) (flat_append f xs ys) ∙ sym (append_assoc (f x) (flat_map f xs) (flat_map f ys))

-- of instructions behind others
both : (a b c : ℕ) (is js : List Instr) → AreCounted a b (results is) → AreCounted b c (results js) → AreCounted a c (results (is ++ js))
both a b c is js x y = subst (λ ns. AreCounted a c ns) (sym (flat_append _ is js)) (counted_both a b c (results is) (results js) x y)

of_value : (r : Context) (gives : Bool) (v : ℕ) (name : Option ℕ) (t : TypeId) (o : Op) (first end : ℕ) →
    AreCounted v (raised gives v) (results (made r (value_in gives v) name t o first end ∷ []))
of_value r true v name t o first end = (refl, refl)
of_value r false v name t o first end = refl

of_line : (r : Context) (v : ℕ) (ps : Parts) (next : ℕ) (l : Line) → AreCounted v (line_values r v l) (results (line_instrs r v ps next l))
of_line r v ps next (line.Opaque at) = refl
of_line r v ps next (line.Instr name x attached) =
    of_value r (lines.instr_gives r x) v name (type_in r.reading x) (op_of r ps x) (instr_first x) (lines.last_token attached next)

of_lines : (r : Context) (v : ℕ) (ps : Parts) (end : ℕ) (ls : List Line) → AreCounted v (lines_values r v ls) (results (lines_instrs r v ps end ls))
of_lines r v ps end [] = refl
of_lines r v ps end (l ∷ ls) =
    both v (line_values r v l) (lines_values r v (l ∷ ls)) (line_instrs r v ps (first_of ls end) l)
    (lines_instrs r (line_values r v l) (behind r.reading ps (line_uses r l)) end ls)
    (of_line r v ps (first_of ls end) l) (of_lines r (line_values r v l) (behind r.reading ps (line_uses r l)) end ls)

of_last : (r : Context) (v : ℕ) (ps : Parts) (next : ℕ) (x : Last) → AreCounted v (last_values r v x) (results (last_instr r v ps next x ∷ []))
of_last r v ps next (last.Term x attached after) = refl
of_last r v ps next (last.Invoke name x attached after) =
    of_value r (lines.invoke_gives r x) v name (r.reading.kind x.called.callee.result) (invoke_of r ps x) x.op
    (lines.last_token attached (lines.after_first after next))

of_part : (r : Context) (v : ℕ) (ps : Parts) (next : ℕ) (p : Part) → AreCounted v (part_values r v p) (results (part_instrs r v ps next p))
of_part r v ps next p =
    let w = lines_values r v p.lines in
    let q = behind r.reading ps (lines_uses r p.lines) in
    both v w (last_values r w p.last) (lines_instrs r v ps (last_first p.last) p.lines) (last_instr r w q next p.last ∷ [])
    (of_lines r v ps (last_first p.last) p.lines) (of_last r w q next p.last)

pub of_parts : (r : Context) (v : ℕ) (laid : Parts) (close : ℕ) (ps : List Part) →
    AreCounted v (values_of r v ps) (results (flat_map (λ is. is) (instrs_of r v laid close ps)))
of_parts r v laid close [] = refl
of_parts r v laid close (p ∷ ps) =
    both v (part_values r v p) (values_of r v (p ∷ ps)) (part_instrs r v laid (label_of ps close) p)
    (flat_map (λ is. is) (instrs_of r (part_values r v p) (behind r.reading laid (part_uses r p)) close ps))
    (of_part r v laid (label_of ps close) p) (of_parts r (part_values r v p) (behind r.reading laid (part_uses r p)) close ps)

-- the segments of runs have the instructions of the runs
runs_whole : (b : BlockId) (runs : List (List Instr)) → flat_map (λ s. s.instrs) (map (seg b) runs) ≡ flat_map (λ run. run) runs
runs_whole b [] = refl
runs_whole b (run ∷ runs) = ap (λ is. run ++ is) (runs_whole b runs)

pub all_there : (whole : (is : List Instr) → flat_map (λ run. run) (cut ends is) ≡ is) (b : ℕ) (iss : List (List Instr)) →
    flat_map (λ s. s.instrs) (segs_of b iss) ≡ flat_map (λ is. is) iss
all_there whole b [] = refl
all_there whole b (is ∷ iss) =
    flat_append (λ s. s.instrs) (map (seg (block_id b)) (cut ends is)) (segs_of (b + 1) iss)
    ∙ ap (λ xs. xs ++ flat_map (λ s. s.instrs) (segs_of (b + 1) iss)) (runs_whole (block_id b) (cut ends is) ∙ whole is)
    ∙ ap (λ xs. is ++ xs) (all_there whole (b + 1) iss)
