-- Edges, noted at the blocks to which they lead.
use Rattle.std.proofs.Common.{◌≡◌, ◌==◌, ◌+◌, ◌-◌, ◌<◌, ◌≤◌, ◌∙◌, ℕ, zero, suc, Bool, true, false, cond, if◌then◌else◌, List, [], ◌∷◌, ◌++◌, length}
use Rattle.std.proofs.Common.{take, replicate, set, get_or, slice_get, count_by, Option, None, Some}
use Rattle.std.proofs.Common.{arith, ap, subst, sym, refl, inl, inr}
use Rattle.std.proofs.lemmas.Bool.{true≢false, cases_lt}
use Rattle.std.proofs.lemmas.List.{length-replicate, take_all}
use Rattle.ir_types.proofs.Layouts.{and_then_some}
use Rattle.std.proofs.lemmas.Bool.Decides.{eqb_tells}
use Rattle.std.proofs.lemmas.List.Sums.{sum_by-cons, sum_by-append, count_by_more_yes, count_by_more_no}
use Rattle.std.proofs.lemmas.Option.{none-some, same_Some, slice_get_within, slice_get-get_or, get_or_from_slice_get}
use Rattle.std.proofs.Math.ListN.{length-set}
use Rattle.shelf.proofs.Shelf.{get_there, get_set_same, get_set_other, get_replicate}
use Rattle.ir_module.specs.declared.edge.Edge.{Edge}
use Rattle.ir_module.specs.declared.op.Instr.{Instr}
use Rattle.ir_module.specs.declared.module.Module.{Module}
use Rattle.std.specs.Option.{option_and_then}
use Rattle.attr_ids.specs.declared.ids.BlockId.{BlockId}
use Rattle.ir_module.specs.declared.op.Op.{Op}
use Rattle.ir_module.specs.declared.op.Op.TheVariants as op
use Rattle.ir_module.specs.declared.edge.Way.TheVariants as way
use Rattle.ir_module.specs.declared.module.Block.{Block}
use Rattle.ir_module.specs.Edges.{edge, edges}
use Rattle.ir_module.specs.WellFormed.{IsWellFormed}
use Rattle.ir_rules.specs.Blocks.{edges_in, last_of, last_seg, terminator, edge_count, unwind_in, unwind_of}
use Rattle.ir_rules.specs.Survey.{Adds, AreSources}
use Rattle.ir_rules.proofs.Marks.{no_terminator}

abbrev times : ℕ → List ℕ → ℕ
times x xs = count_by (λ y. y == x) xs

abbrev to_count : ℕ → List Edge → ℕ
to_count b es = count_by (λ e. e.to.0 == b) es

one_of : (x y : ℕ) → times x (y ∷ []) ≡ cond (y == x) 1 0
one_of x y = sum_by-cons (λ z. cond (z == x) 1 0) y [] ∙ omega arith

zero_is : (n : ℕ) (b : Bool) (m : ℕ) → m ≡ 0 → n ≡ n + (if b then m else 0)
zero_is n true m e = omega (arith, e)
zero_is n false m e = omega arith

-- no edge is noted
pub adds_none : (lists : List (List ℕ)) (from : ℕ) (out : List Edge) → out ≡ [] → Adds lists lists from out
adds_none lists from out none = record {
  long = refl;
  counts = λ b x before after at_b at_a.
      let one : after ≡ before = same_Some after before (sym at_a ∙ at_b) in
      ap (times x) one ∙ zero_is (times x before) (from == x) (to_count b out) (ap (to_count b) none);
}

-- no edge is left
pub adds_all : (old new : List (List ℕ)) (from k : ℕ) (out : List Edge) → take k out ≡ out → Adds old new from (take k out) → Adds old new from out
adds_all old new from k out all h = subst (λ es. Adds old new from es) all h

-- the sums of one step, by whether the edge comes from x and leads to b
step : (t : Bool) (old mid new c : ℕ) → mid ≡ old + (if t then c else 0) → new ≡ mid + cond t 1 0 → new ≡ old + (if t then c + 1 else 0)
step true old mid new c e f = omega (arith, e, f)
step false old mid new c e f = omega (arith, e, f)

-- one more edge is noted
pub adds_one : (old mid : List (List ℕ)) (from k : ℕ) (out : List Edge) (e : Edge) → Adds old mid from (take k out) → slice_get out k ≡ Some e
    → e.to.0 < length mid
    → Adds old (set mid e.to.0 (get_or mid e.to.0 [] ++ from ∷ [])) from (take (k + 1) out)
adds_one old mid from k out e h at inside = record {
  long = length-set mid e.to.0 (get_or mid e.to.0 [] ++ from ∷ []) ∙ h.long;
  counts = λ b x before after at_b at_a. elim (eqb_tells e.to.0 b) [
    | inl (yes_b, same) ↦
        (let here : slice_get mid b ≡ Some (get_or mid e.to.0 []) =
        ap (slice_get mid) (sym same) ∙ slice_get-get_or mid e.to.0 [] inside in
        let put : slice_get (set mid e.to.0 (get_or mid e.to.0 [] ++ from ∷ [])) b ≡ Some (get_or mid e.to.0 [] ++ from ∷ []) =
        ap (slice_get (set mid e.to.0 (get_or mid e.to.0 [] ++ from ∷ []))) (sym same) ∙ get_set_same mid e.to.0
        (get_or mid e.to.0 [] ++ from ∷ []) inside in
        let is : after ≡ get_or mid e.to.0 [] ++ from ∷ [] = same_Some after (get_or mid e.to.0 [] ++ from ∷ []) (sym at_a ∙ put) in
        let counted = h.counts b x before (get_or mid e.to.0 []) at_b here in
        let grown : times x after ≡ times x (get_or mid e.to.0 []) + cond (from == x) 1 0 =
        ap (times x) is ∙ sum_by-append (λ z. cond (z == x) 1 0) (get_or mid e.to.0 []) (from ∷ [])
        ∙ ap (λ n. times x (get_or mid e.to.0 []) + n) (one_of x from) in
        let more : to_count b (take (k + 1) out) ≡ to_count b (take k out) + 1 =
        count_by_more_yes (λ (z : Edge). z.to.0 == b) out k e below (ap (λ (z : Edge). z.to.0 == b) read ∙ yes_b) in
        subst (λ n. times x after ≡ times x before + (if from == x then n else 0)) (sym more)
        (step (from == x) (times x before) (times x (get_or mid e.to.0 [])) (times x after) (to_count b (take k out)) counted grown))
    | inr (no_b, other) ↦
        (let kept : slice_get mid b ≡ Some after =
        sym (get_set_other mid e.to.0 b (get_or mid e.to.0 [] ++ from ∷ []) (λ q. other (sym q))) ∙ at_a in
        let same_count : to_count b (take (k + 1) out) ≡ to_count b (take k out) =
        count_by_more_no (λ (z : Edge). z.to.0 == b) out k e below (ap (λ (z : Edge). z.to.0 == b) read ∙ no_b) in
        subst (λ n. times x after ≡ times x before + (if from == x then n else 0)) (sym same_count) (h.counts b x before after at_b kept))
  ];
}
  where
    below : k < length out
    below = slice_get_within out k e at

    read : get_or out k e ≡ e
    read = get_or_from_slice_get out k e e at

-- ---- block after block

-- the lists have the edges from the first n blocks
pub record AreSourcesTo (m : Module) (n : ℕ) (lists : List (List ℕ)) : Type 0 where
  pub long : length lists ≡ length m.blocks
  pub earlier : (b x : ℕ) (row : List ℕ) → slice_get lists b ≡ Some row → x < n → times x row ≡ edge_count m x b
  pub later : (b x : ℕ) (row : List ℕ) → slice_get lists b ≡ Some row → n ≤ x → times x row ≡ 0

-- lists without entries have the edges from no block
pub no_sources : (m : Module) (lists : List (List ℕ)) → lists ≡ replicate (length m.blocks) [] → AreSourcesTo m 0 lists
no_sources m lists is = subst (λ (ls : List (List ℕ)). AreSourcesTo m 0 ls) (sym is) (record {
  long = length-replicate (length m.blocks) [];
  earlier = λ b x row at l. absurd (omega (arith, l));
  later = λ b x row at l. ap (times x) (sym (get_replicate (length m.blocks) [] b row at));
})

-- one more of the same at the end
replicate_push : {X : Type 0} (k : ℕ) (x : X) → replicate k x ++ x ∷ [] ≡ replicate (suc k) x
replicate_push zero x = refl
replicate_push (suc k) x = let rest = replicate_push k x in λ i. x ∷ rest i

-- one more empty list
pub empty_more : (lists more : List (List ℕ)) (n : ℕ) → lists ≡ replicate n [] → more ≡ lists ++ [] ∷ [] → more ≡ replicate (n + 1) []
empty_more lists more n is e = e ∙ ap (λ (ls : List (List ℕ)). ls ++ [] ∷ []) is ∙ replicate_push {X = List ℕ} n [] ∙ ap (λ (k : ℕ). replicate k []) next
  where
    next : suc n ≡ n + 1
    next = omega arith

then_one : (t : Bool) (n m c : ℕ) → t ≡ true → m ≡ 0 → n ≡ m + (if t then c else 0) → n ≡ c
then_one true n m c e z h = omega (arith, z, h)
then_one false n m c e z h = absurd (true≢false (sym e))

then_none : (t : Bool) (n m c : ℕ) → t ≡ false → n ≡ m + (if t then c else 0) → n ≡ m
then_none true n m c e h = absurd (true≢false e)
then_none false n m c e h = omega (arith, h)

-- the edges from one more block
pub next_sources : (m : Module) (n : ℕ) (old new : List (List ℕ)) → AreSourcesTo m n old → Adds old new n (edges_in (terminator m n)) → AreSourcesTo m
    (n + 1) new
next_sources m n old new h added = record {
  long = added.long ∙ h.long;
  earlier = λ b x row at l.
      let was = get_there old b (omega (arith, slice_get_within new b row at, added.long)) in
      let counted = added.counts b x was.0 row was.1 at in
      elim (eqb_tells n x) [
        | inl (yes_x, same) ↦
            then_one (n == x) (times x row) (times x was.0) (edge_count m x b) yes_x (h.later b x was.0 was.1 (omega (arith, same)))
            (subst (λ k. times x row ≡ times x was.0 + (if n == x then to_count b (edges_in (terminator m k)) else 0)) same counted)
        | inr (no_x, other) ↦
            then_none (n == x) (times x row) (times x was.0) (to_count b (edges_in (terminator m n))) no_x counted ∙ h.earlier b x was.0 was.1 (omega
            (arith, l, other))
      ];
  later = λ b x row at l.
      let was = get_there old b (omega (arith, slice_get_within new b row at, added.long)) in
      let counted = added.counts b x was.0 row was.1 at in
      elim (eqb_tells n x) [
        | inl (_, same) ↦ absurd (omega (arith, l, same))
        | inr (no_x, _) ↦
            then_none (n == x) (times x row) (times x was.0) (to_count b (edges_in (terminator m n))) no_x counted ∙ h.later b x was.0 was.1 (omega (arith, l))
      ];
}

-- the edges from all blocks
pub all_sources : (m : Module) (n : ℕ) (lists : List (List ℕ)) → length m.blocks ≤ n → AreSourcesTo m n lists → AreSources m lists
all_sources m n lists l h = record {
  long = h.long;
  counts = λ b x row at. elim (cases_lt x n) [
    | inl less ↦ h.earlier b x row at less
    | inr more ↦
        (let none : terminator m x ≡ None = no_terminator m x (omega (arith, l, more)) in
        h.later b x row at more ∙ sym (ap (λ (o : Option Instr). to_count b (edges_in o)) none))
  ];
}

-- the edges of a terminator lead to blocks of the module
pub targets_within : (m : Module) (x : ℕ) (instr : Instr) → IsWellFormed m → terminator m x ≡ Some instr → (k : ℕ) (e : Edge) → slice_get
    (edges instr.op) k ≡ Some e
    → e.to.0 < length m.blocks
targets_within m x instr formed is k e at =
    let of_seg = and_then_some last_of (option_and_then (last_seg m) (slice_get m.blocks x)) instr is in
    let of_block = and_then_some (last_seg m) (slice_get m.blocks x) of_seg.0 of_seg.1 in
    let block : Block = of_block.0 in
    let placed = formed.segs (block.first_seg + block.seg_count - 1) of_seg.0 of_block.2 in
    let target = (placed.2.instrs (length of_seg.0.instrs - 1) instr of_seg.2).names.targets k e at in
    slice_get_within m.blocks e.to.0 target.0 target.1

-- the block to which one unwinds is one of them
pub unwind_within : (m : Module) (x : ℕ) (to : BlockId) → IsWellFormed m → unwind_of (terminator m x) ≡ Some to → to.0 < length m.blocks
unwind_within m x to formed is = go (terminator m x) refl is
  where
    within : (o : Op) (b : BlockId) → unwind_in o ≡ Some b → slice_get (edges o) 1 ≡ Some (record { way = way.Unwind; to = b })
    within (op.Invoke call normal unwind) b e = ap (λ (z : BlockId). Some (edge way.Unwind z)) (same_Some unwind b e)
    within _ b e = absurd (none-some b e)

    go : (o : Option Instr) → terminator m x ≡ o → unwind_of o ≡ Some to → to.0 < length m.blocks
    go None at e = absurd (none-some to e)
    go (Some instr) at e = targets_within m x instr formed at 1 (edge way.Unwind to) (within instr.op to e)

-- what is noted at the terminator of a block is noted of the block
pub noted_block : (m : Module) (x : ℕ) (old new : List (List ℕ)) (o : Option Instr) (out : List Edge) → o ≡ terminator m x → out ≡ edges_in o
    → Adds old new x out
    → Adds old new x (edges_in (terminator m x))
noted_block m x old new o out is same h = subst (λ (es : List Edge). Adds old new x es) (same ∙ ap edges_in is) h

-- all edges were noted
pub noted_all : (old new : List (List ℕ)) (from k : ℕ) (out : List Edge) → length out ≤ k → Adds old new from (take k out) → Adds old new from out
noted_all old new from k out l h = subst (λ (es : List Edge). Adds old new from es) (take_all k out l) h

-- an edge that is there is found
pub never_past : (out : List Edge) (k : ℕ) → k < length out → None ≡ slice_get out k → ⊥
never_past out k l e = let f = get_there out k l in none-some f.0 (e ∙ f.1)
