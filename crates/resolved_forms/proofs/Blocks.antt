-- The instructions of blocks: what each names is there, and what ends a block stands last in it.
use Rattle.std.proofs.Common.{◌≡◌, ◌∙◌, ◌<◌, ◌≤◌, ◌⊎◌, inl, inr, ℕ, suc, Bool, true, false, List, [], ◌∷◌, ◌++◌, length}
use Rattle.std.proofs.Common.{refl, sym, ap, subst, arith, cond}
use Rattle.std.specs.List.{AllByRecursion}
use Rattle.shelf.proofs.Every.{every_append}
use Rattle.ir_tree.specs.declared.blocks.Line.{Line}
use Rattle.ir_tree.specs.declared.blocks.Line.TheVariants as line
use Rattle.ir_tree.specs.declared.blocks.Last.{Last}
use Rattle.ir_tree.specs.declared.blocks.Last.TheVariants as last
use Rattle.ir_tree.specs.declared.instructions.Instr as tree
use Rattle.ir_tree.specs.declared.instructions.Instr.TheVariants as instr
use Rattle.ir_tree.specs.declared.instructions.Term.{Term}
use Rattle.ir_tree.specs.declared.instructions.Term.TheVariants as term
use Rattle.ir_module.specs.declared.op.Op.{Op}
use Rattle.ir_module.specs.declared.op.Op.TheVariants as op
use Rattle.ir_module.specs.declared.op.Instr.{Instr}
use Rattle.ir_module.specs.Formed.{ends_seg}
use Rattle.ir_segments.specs.Segments.{ends_op, ends, cut, in_front}
use Rattle.ir_instrs.specs.Reading.{Reading, Parts}
use Rattle.ir_instrs.specs.Uses.{Use, use_faults, faults_of, behind}
use Rattle.ir_instrs.specs.Terms.{term_of}
use Rattle.ir_bodies.specs.Context.{Context}
use Rattle.ir_bodies.specs.Instrs.{op_of}
use Rattle.ir_bodies.specs.Lines.{instr_uses, line_uses, line_instrs, line_values, first_of, lines_uses, lines_values, lines_instrs, last_uses}
use Rattle.ir_bodies.specs.Lines.{last_instr, last_first}
use Rattle.ir_bodies.specs.Bodies.{Part, part_uses, part_values, part_instrs, label_of, uses_of, instrs_of}
use Rattle.ir_bodies.proofs.Numbered.{flat_append}
use Rattle.resolved_forms.proofs.Runs.{nil_parts}
use Rattle.resolved_forms.proofs.Uses.{AreGood, AreTyped, IsGround, typed_both, typed_all, behind_both, uses_good}
use Rattle.resolved_forms.proofs.Productions.{IsSaid, typed_instr, typed_term, typed_invoke, instr_said, term_said, invoke_said}

-- ---- what is named is there
module _ (T G F : ℕ) (V B : ℕ → Type 0) (x : Context) (ground : IsGround T G F V B x.reading) where
  -- what is so of uses, of the first of them and of the others
  pub record IsSplit (us vs : List Use) (ps : Parts) (n : ℕ) : Type 0 where
    pub none : faults_of x.reading us ≡ []
    pub rest : faults_of x.reading vs ≡ []
    pub good : AreGood T G F (behind x.reading ps us)
    pub within : length (behind x.reading ps us) ≤ n
    pub all : length (behind x.reading (behind x.reading ps us) vs) ≤ n

  pub split : (us vs : List Use) (ps : Parts) (n : ℕ) → AreTyped T us → AreTyped T vs → faults_of x.reading (us ++ vs) ≡ [] → AreGood T G F ps
      → length (behind x.reading ps (us ++ vs)) ≤ n → IsSplit us vs ps n
  split us vs ps n typed more none good l =
      let r = x.reading in
      let both = nil_parts (faults_of r us) (faults_of r vs) (sym (flat_append (use_faults r) us vs) ∙ none) in
      let one = uses_good T G F V B r ground us ps typed both.0 good in
      let rest = (uses_good T G F V B r ground vs (behind r ps us) more both.1 one.0).1 in
      let whole = ap length (behind_both r ps us vs) in
      record {
        none = both.0;
        rest = both.1;
        good = one.0;
        within = omega (arith, rest, whole, l);
        all = omega (arith, whole, l);
      }

  abbrev pub IsInstr : ℕ → Instr → Type 0
  IsInstr n i = IsSaid T G F V B n i.ty i.op

  typed_line : (l : Line) → AreTyped T (line_uses x l)
  typed_line (line.Opaque at) = tt
  typed_line (line.Instr name i attached) = typed_instr T G F V B x.reading ground i

  typed_lines : (ls : List Line) → AreTyped T (lines_uses x ls)
  typed_lines ls = typed_all T (line_uses x) typed_line ls

  typed_last : (l : Last) → AreTyped T (last_uses x l)
  typed_last (last.Term t attached after) = typed_term T G F V B x.reading ground t
  typed_last (last.Invoke name i attached after) = typed_invoke T G F V B x.reading ground i

  pub typed_part : (p : Part) → AreTyped T (part_uses x p)
  typed_part p = typed_both T (lines_uses x p.lines) (last_uses x p.last) (typed_lines p.lines) (typed_last p.last)

  pub typed_parts : (ps : List Part) → AreTyped T (uses_of x ps)
  typed_parts ps = typed_all T (part_uses x) typed_part ps

  line_said : (n v : ℕ) (ps : Parts) (next : ℕ) (l : Line) → faults_of x.reading (line_uses x l) ≡ [] → AreGood T G F ps
      → length (behind x.reading ps (line_uses x l)) ≤ n → AllByRecursion (IsInstr n) (line_instrs x v ps next l)
  line_said n v ps next (line.Opaque at) none good l = tt
  line_said n v ps next (line.Instr name i attached) none good l = (instr_said T G F V B x ground n ps i none good l, tt)

  lines_said : (n v : ℕ) (ps : Parts) (end : ℕ) (ls : List Line) → faults_of x.reading (lines_uses x ls) ≡ [] → AreGood T G F ps
      → length (behind x.reading ps (lines_uses x ls)) ≤ n → AllByRecursion (IsInstr n) (lines_instrs x v ps end ls)
  lines_said n v ps end [] none good l = tt
  lines_said n v ps end (s ∷ ls) none good l =
      let h = split (line_uses x s) (lines_uses x ls) ps n (typed_line s) (typed_lines ls) none good l in
      every_append (IsInstr n) (line_instrs x v ps (first_of ls end) s) (lines_instrs x (line_values x v s) (behind x.reading ps (line_uses x s)) end ls)
      (line_said n v ps (first_of ls end) s h.none good h.within)
      (lines_said n (line_values x v s) (behind x.reading ps (line_uses x s)) end ls h.rest h.good h.all)

  last_said : (n v : ℕ) (ps : Parts) (next : ℕ) (l : Last) → faults_of x.reading (last_uses x l) ≡ [] → AreGood T G F ps
      → length (behind x.reading ps (last_uses x l)) ≤ n → IsInstr n (last_instr x v ps next l)
  last_said n v ps next (last.Term t attached after) none good l = term_said T G F V B x.reading ground n ps t none good l
  last_said n v ps next (last.Invoke name i attached after) none good l = invoke_said T G F V B x ground n ps i none good l

  part_said : (n v : ℕ) (ps : Parts) (next : ℕ) (p : Part) → faults_of x.reading (part_uses x p) ≡ [] → AreGood T G F ps
      → length (behind x.reading ps (part_uses x p)) ≤ n → AllByRecursion (IsInstr n) (part_instrs x v ps next p)
  part_said n v ps next p none good l =
      let w = lines_values x v p.lines in
      let q = behind x.reading ps (lines_uses x p.lines) in
      let h = split (lines_uses x p.lines) (last_uses x p.last) ps n (typed_lines p.lines) (typed_last p.last) none good l in
      every_append (IsInstr n) (lines_instrs x v ps (last_first p.last) p.lines) (last_instr x w q next p.last ∷ [])
      (lines_said n v ps (last_first p.last) p.lines h.none good h.within) (last_said n w q next p.last h.rest h.good h.all, tt)

  -- each instruction of these blocks
  pub parts_said : (n v : ℕ) (ps : Parts) (close : ℕ) (bs : List Part) → faults_of x.reading (uses_of x bs) ≡ [] → AreGood T G F ps
      → length (behind x.reading ps (uses_of x bs)) ≤ n → AllByRecursion (AllByRecursion (IsInstr n)) (instrs_of x v ps close bs)
  parts_said n v ps close [] none good l = tt
  parts_said n v ps close (b ∷ bs) none good l =
      let h = split (part_uses x b) (uses_of x bs) ps n (typed_part b) (typed_parts bs) none good l in (
        part_said n v ps (label_of bs close) b h.none good h.within,
        parts_said n (part_values x v b) (behind x.reading ps (part_uses x b)) close bs h.rest h.good h.all,
      )

-- ---- what ends a segment
-- the operation may stand last in a segment behind which so many of its block follow
abbrev pub Closes : ℕ → Op → Type 0
Closes left (op.Call call) = 0 < left
Closes left (op.Invoke call normal unwind) = left ≡ 0
Closes left (op.Resume val) = left ≡ 0
Closes left (op.Ret val) = left ≡ 0
Closes left (op.Jump to) = left ≡ 0
Closes left (op.Branch c so otherwise) = left ≡ 0
Closes left (op.Switch on other cases) = left ≡ 0
Closes left op.Unreachable = left ≡ 0
Closes left _ = ⊥

-- the last of these closes a segment, and none before it does
abbrev pub IsClosed : ℕ → List Instr → Type 0
IsClosed left [] = ⊥
IsClosed left (i ∷ []) = Closes left i.op
IsClosed left (i ∷ j ∷ is) = (ends_seg i.op ≡ false) × IsClosed left (j ∷ is)

abbrev pub AreClosed : List (List Instr) → Type 0
AreClosed [] = Unit {0}
AreClosed (run ∷ runs) = IsClosed (length runs) run × AreClosed runs

-- the operation is a call, or closes no segment
abbrev pub IsInner : Op → Type 0
IsInner o = ((ends_op o ≡ true) × ((n : ℕ) → 0 < n → Closes n o)) ⊎ ((ends_op o ≡ false) × (ends_seg o ≡ false))

abbrev front_if : (b : Bool) (i : Instr) (run : List Instr) (runs : List (List Instr)) → List (List Instr)
front_if true i run runs = (i ∷ []) ∷ run ∷ runs
front_if false i run runs = (i ∷ run) ∷ runs

in_front_is : (b : Bool) (i : Instr) (run : List Instr) (runs : List (List Instr)) → ends i ≡ b → in_front ends i (run ∷ runs) ≡ front_if b i run runs
in_front_is true i run runs is = ap (λ b. cond b ((i ∷ []) ∷ run ∷ runs) ((i ∷ run) ∷ runs)) is
in_front_is false i run runs is = ap (λ b. cond b ((i ∷ []) ∷ run ∷ runs) ((i ∷ run) ∷ runs)) is

abbrev pub Cut : List (List Instr) → Type 0
Cut runs = AreClosed runs × (0 < length runs)

one_more : (i : Instr) (runs : List (List Instr)) → IsInner i.op → Cut runs → Cut (in_front ends i runs)
one_more i [] inner h = let none = h.1 in absurd (omega (arith, none))
one_more i (run ∷ runs) (inl call) h =
    subst Cut (sym (in_front_is true i run runs call.0)) ((call.1 (suc (length runs)) (omega arith), h.0), omega arith)
one_more i ([] ∷ runs) (inr plain) h = absurd h.0.0
one_more i ((j ∷ run) ∷ runs) (inr plain) h =
    subst Cut (sym (in_front_is false i (j ∷ run) runs plain.0)) (((plain.1, h.0.0), h.0.1), omega arith)

-- instructions that close no block, and one that does
pub cut_closed : (is : List Instr) (i : Instr) → AllByRecursion (λ (j : Instr). IsInner j.op) is → Closes 0 i.op → Cut (cut ends (is ++ i ∷ []))
cut_closed [] i inner closes = ((closes, tt), omega arith)
cut_closed (j ∷ is) i inner closes = one_more j (cut ends (is ++ i ∷ [])) inner.0 (cut_closed is i inner.1 closes)

instr_inner : (x : Context) (ps : Parts) (i : tree.Instr) → IsInner (op_of x ps i)
unfolding op_of
instr_inner x ps (instr.Binop w flags t left right) = inr (refl, refl)
instr_inner x ps (instr.Icmp i) = inr (refl, refl)
instr_inner x ps (instr.Cast w flags of to) = inr (refl, refl)
instr_inner x ps (instr.Select i) = inr (refl, refl)
instr_inner x ps (instr.Freeze w of) = inr (refl, refl)
instr_inner x ps (instr.Phi w t arms) = inr (refl, refl)
instr_inner x ps (instr.Alloca i) = inr (refl, refl)
instr_inner x ps (instr.Load w volatile t from align) = inr (refl, refl)
instr_inner x ps (instr.Store i) = inr (refl, refl)
instr_inner x ps (instr.GetElementPtr w flags elem operands) = inr (refl, refl)
instr_inner x ps (instr.Call i) = inl (refl, λ n l. l)
instr_inner x ps (instr.Cleanup w t cleanup clauses) = inr (refl, refl)
instr_inner x ps (instr.LandingPad w t clauses) = inr (refl, refl)

term_closes : (r : Reading) (ps : Parts) (t : Term) → Closes 0 (term_of r ps t)
unfolding term_of
term_closes r ps (term.RetVoid at) = refl
term_closes r ps (term.Ret at of) = refl
term_closes r ps (term.Jump at to) = refl
term_closes r ps (term.Branch at on taken other) = refl
term_closes r ps (term.Switch x) = refl
term_closes r ps (term.Unreachable at) = refl
term_closes r ps (term.Resume at of) = refl

last_closes : (x : Context) (v : ℕ) (ps : Parts) (next : ℕ) (l : Last) → Closes 0 (last_instr x v ps next l).op
last_closes x v ps next (last.Term t attached after) = term_closes x.reading ps t
last_closes x v ps next (last.Invoke name i attached after) = refl

lines_inner : (x : Context) (v : ℕ) (ps : Parts) (end : ℕ) (ls : List Line) → AllByRecursion (λ (j : Instr). IsInner j.op) (lines_instrs x v ps end ls)
lines_inner x v ps end [] = tt
lines_inner x v ps end (line.Opaque at ∷ ls) = lines_inner x v ps end ls
lines_inner x v ps end (line.Instr name i attached ∷ ls) =
    (instr_inner x ps i, lines_inner x (line_values x v (line.Instr name i attached)) (behind x.reading ps (instr_uses x i)) end ls)

-- the segments of a block are closed, and there is one
pub part_closed : (x : Context) (v : ℕ) (ps : Parts) (next : ℕ) (p : Part) → Cut (cut ends (part_instrs x v ps next p))
part_closed x v ps next p =
    let w = lines_values x v p.lines in
    let q = behind x.reading ps (lines_uses x p.lines) in
    cut_closed (lines_instrs x v ps (last_first p.last) p.lines) (last_instr x w q next p.last) (lines_inner x v ps (last_first p.last) p.lines)
    (last_closes x w q next p.last)

pub parts_closed : (x : Context) (v : ℕ) (ps : Parts) (close : ℕ) (bs : List Part)
    → AllByRecursion (λ (is : List Instr). Cut (cut ends is)) (instrs_of x v ps close bs)
parts_closed x v ps close [] = tt
parts_closed x v ps close (b ∷ bs) =
    (part_closed x v ps (label_of bs close) b, parts_closed x (part_values x v b) (behind x.reading ps (part_uses x b)) close bs)
