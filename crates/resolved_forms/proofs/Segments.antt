-- The blocks and the segments of a function: which stands where.
use Rattle.std.proofs.Common.{◌≡◌, ◌∙◌, ◌+◌, ◌-◌, ◌<◌, ◌≤◌, inl, inr, ℕ, zero, suc, Bool, true, false, MatchBool, List, [], ◌∷◌, ◌++◌, length, map, slice_get}
use Rattle.std.proofs.Common.{Some, refl, sym, ap, subst, arith, length-append}
use Rattle.std.proofs.lemmas.Bool.{cases_lt}
use Rattle.std.proofs.lemmas.List.{length-map}
use Rattle.std.proofs.lemmas.Option.{none-some, same_Some}
use Rattle.shelf.proofs.Shelf.{get_kept, get_left, get_right}
use Rattle.attr_ids.specs.declared.ids.FuncId.{FuncId}
use Rattle.ir_module.specs.declared.op.Op.{Op}
use Rattle.ir_module.specs.declared.op.Op.TheVariants as op
use Rattle.ir_module.specs.declared.op.Instr.{Instr}
use Rattle.ir_module.specs.declared.module.Seg.{Seg}
use Rattle.ir_module.specs.declared.module.Block.{Block}
use Rattle.ir_module.specs.Formed.{Ends, ends_seg, IsPlaced}
use Rattle.ir_segments.specs.Segments.{cut, ends, seg}
use Rattle.ir_instrs.specs.Reading.{Parts}
use Rattle.ir_instrs.specs.Uses.{behind}
use Rattle.ir_bodies.specs.Context.{Context}
use Rattle.ir_bodies.specs.Bodies.{Part, part_values, part_uses, instrs_of, segs_of, blocks_of, block, block_id}
use Rattle.resolved_forms.proofs.Productions.{get_mapped}
use Rattle.resolved_forms.proofs.Blocks.{Closes, IsClosed, AreClosed}

pub get_unmapped : {X Y : Type 0} (f : X → Y) (xs : List X) (k : ℕ) (y : Y) → slice_get (map f xs) k ≡ Some y → (x : X) × (slice_get xs k ≡ Some x) × (f x ≡ y)
get_unmapped f [] k y at = absurd (none-some y at)
get_unmapped f (x ∷ xs) zero y at = (x, refl, same_Some (f x) y at)
get_unmapped f (x ∷ xs) (suc k) y at = get_unmapped f xs k y at

-- how many segments stand before block j of these
pub start : List (List Instr) → ℕ → ℕ
start [] j = 0
start (is ∷ iss) zero = 0
start (is ∷ iss) (suc j) = length (cut ends is) + start iss j

-- where segment n of these blocks, of which b is the number of the first, stands: in which block, and which of the runs of that it is
abbrev pub IsRunOf : ℕ → List (List Instr) → ℕ → Seg → Type 0
IsRunOf b iss n sg = (j : ℕ) × (is : List Instr) × (k : ℕ) × (run : List Instr) × (slice_get iss j ≡ Some is) × (slice_get (cut ends is) k ≡ Some run)
    × (sg ≡ seg (block_id (b + j)) run) × (n ≡ start iss j + k)

in_first : (b : ℕ) (is : List Instr) (iss : List (List Instr)) (n : ℕ) (sg : Seg) (run : List Instr) → slice_get (cut ends is) n ≡ Some run
    → seg (block_id b) run ≡ sg → IsRunOf b (is ∷ iss) n sg
unfolding start
in_first b is iss n sg run at same = (0, is, n, run, refl, at, sym same ∙ ap (λ z. seg (block_id z) run) (omega arith), omega arith)

in_later : (b : ℕ) (is : List Instr) (iss : List (List Instr)) (n i : ℕ) (sg : Seg) → n ≡ length (cut ends is) + i → IsRunOf (b + 1) iss i sg
    → IsRunOf b (is ∷ iss) n sg
unfolding start
in_later b is iss n i sg behind h =
    let place = h.7 in
    (suc h.0, h.1, h.2, h.3, h.4, h.5, h.6 ∙ ap (λ z. seg (block_id z) h.3) (omega arith), omega (arith, behind, place))

pub seg_home : (b : ℕ) (iss : List (List Instr)) (n : ℕ) (sg : Seg) → slice_get (segs_of b iss) n ≡ Some sg → IsRunOf b iss n sg
seg_home b [] n sg at = absurd (none-some sg at)
seg_home b (is ∷ iss) n sg at =
    let own = map (seg (block_id b)) (cut ends is) in
    let many = length-map (cut ends is) (seg (block_id b)) in
    elim (cases_lt n (length own)) [
      | inl l ↦
          (let h = get_unmapped (seg (block_id b)) (cut ends is) n sg (sym (get_left own (segs_of (b + 1) iss) n l) ∙ at) in
          in_first b is iss n sg h.0 h.1 h.2)
      | inr l ↦
          (let i = n - length own in
          in_later b is iss n i sg (omega (arith, l, many))
          (seg_home (b + 1) iss i sg (sym (get_right own (segs_of (b + 1) iss) n i (omega (arith, l))) ∙ at)))
    ]

pub seg_there : (b : ℕ) (iss : List (List Instr)) (j : ℕ) (is : List Instr) (k : ℕ) (run : List Instr) → slice_get iss j ≡ Some is
    → slice_get (cut ends is) k ≡ Some run → slice_get (segs_of b iss) (start iss j + k) ≡ Some (seg (block_id (b + j)) run)
unfolding start
seg_there b [] j is k run at in_cut = absurd (none-some is at)
seg_there b (js ∷ iss) zero is k run at in_cut =
    ap (slice_get (segs_of b (js ∷ iss))) (omega arith)
    ∙ get_kept (map (seg (block_id b)) (cut ends js)) (segs_of (b + 1) iss) k (seg (block_id b) run)
    (get_mapped (seg (block_id b)) (cut ends js) k run (ap (λ z. slice_get (cut ends z) k) (same_Some js is at) ∙ in_cut))
    ∙ ap (λ z. Some (seg (block_id z) run)) (omega arith)
seg_there b (js ∷ iss) (suc j) is k run at in_cut =
    let many = length-map (cut ends js) (seg (block_id b)) in
    get_right (map (seg (block_id b)) (cut ends js)) (segs_of (b + 1) iss) (start (js ∷ iss) (suc j) + k) (start iss j + k) (omega (arith, many))
    ∙ seg_there (b + 1) iss j is k run at in_cut ∙ ap (λ z. Some (seg (block_id z) run)) (omega arith)

module _ (x : Context) (func : FuncId) (counter : ℕ) where
  pub block_home : (s : ℕ) (ps : List Part) (iss : List (List Instr)) (j : ℕ) (blk : Block) → slice_get (blocks_of x func counter s ps iss) j ≡ Some blk
      → (p : Part) × (is : List Instr) × (slice_get iss j ≡ Some is) × (blk ≡ block x func counter (s + start iss j) p is)
  unfolding start
  block_home s [] [] j blk at = absurd (none-some blk at)
  block_home s [] (is ∷ iss) j blk at = absurd (none-some blk at)
  block_home s (p ∷ ps) [] j blk at = absurd (none-some blk at)
  block_home s (p ∷ ps) (is ∷ iss) zero blk at =
      (p, is, refl, sym (same_Some (block x func counter s p is) blk at) ∙ ap (λ z. block x func counter z p is) (omega arith))
  block_home s (p ∷ ps) (is ∷ iss) (suc j) blk at =
      let rest = block_home (s + length (cut ends is)) ps iss j blk at in
      (rest.0, rest.1, rest.2, rest.3 ∙ ap (λ z. block x func counter z rest.0 rest.1) (omega arith))

  pub block_there : (s : ℕ) (ps : List Part) (iss : List (List Instr)) (j : ℕ) (is : List Instr) → length iss ≡ length ps → slice_get iss j ≡ Some is
      → (p : Part) × (slice_get (blocks_of x func counter s ps iss) j ≡ Some (block x func counter (s + start iss j) p is))
  unfolding start
  block_there s ps [] j is long at = absurd (none-some is at)
  block_there s [] (js ∷ iss) j is long at = absurd (omega (arith, long))
  block_there s (p ∷ ps) (js ∷ iss) zero is long at =
      (p, ap (λ z. Some (block x func counter s p z)) (same_Some js is at) ∙ ap (λ z. Some (block x func counter z p is)) (omega arith))
  block_there s (p ∷ ps) (js ∷ iss) (suc j) is long at =
      let rest = block_there (s + length (cut ends js)) ps iss j is (omega (arith, long)) at in
      (rest.0, rest.1 ∙ ap (λ z. Some (block x func counter z rest.0 is)) (omega arith))

  pub blocks_count : (s : ℕ) (ps : List Part) (iss : List (List Instr)) → length iss ≡ length ps → length (blocks_of x func counter s ps iss) ≡ length ps
  blocks_count s [] [] long = refl
  blocks_count s [] (is ∷ iss) long = absurd (omega (arith, long))
  blocks_count s (p ∷ ps) [] long = absurd (omega (arith, long))
  blocks_count s (p ∷ ps) (is ∷ iss) long = ap suc (blocks_count (s + length (cut ends is)) ps iss (omega (arith, long)))

pub instrs_count : (x : Context) (v : ℕ) (laid : Parts) (close : ℕ) (ps : List Part) → length (instrs_of x v laid close ps) ≡ length ps
instrs_count x v laid close [] = refl
instrs_count x v laid close (p ∷ ps) = ap suc (instrs_count x (part_values x v p) (behind x.reading laid (part_uses x p)) close ps)

-- ---- blocks that go on where those before them end
abbrev pub AreChained : ℕ → ℕ → List Block → Type 0
AreChained s f [] = Unit {0}
AreChained s f (b ∷ bs) = (b.first_seg ≡ s) × (f ≤ b.func.0) × AreChained (s + b.seg_count) b.func.0 bs

pub chained_next : (s f : ℕ) (bs : List Block) (i j : ℕ) (b next : Block) → AreChained s f bs → slice_get bs i ≡ Some b → j ≡ i + 1 → slice_get bs j ≡ Some next
    → (b.func.0 ≤ next.func.0) × (next.first_seg ≡ b.first_seg + b.seg_count)
chained_next s f [] i j b next h at is then' = absurd (none-some b at)
chained_next s f (c ∷ bs) i zero b next h at is then' = absurd (omega (arith, is))
chained_next s f (c ∷ []) zero (suc j) b next h at is then' = absurd (none-some next then')
chained_next s f (c ∷ d ∷ bs) zero (suc zero) b next h at is then' =
    let low = h.2.1 in
    let first = h.0 in
    let second = h.2.0 in
    subst (λ (z : Block). (z.func.0 ≤ next.func.0) × (next.first_seg ≡ z.first_seg + z.seg_count)) (same_Some c b at)
    (subst (λ (z : Block). (c.func.0 ≤ z.func.0) × (z.first_seg ≡ c.first_seg + c.seg_count)) (same_Some d next then') (low, omega (arith, first, second)))
chained_next s f (c ∷ d ∷ bs) zero (suc (suc j)) b next h at is then' = absurd (omega (arith, is))
chained_next s f (c ∷ bs) (suc i) (suc j) b next h at is then' =
    chained_next (s + c.seg_count) c.func.0 bs i j b next h.2 at (omega (arith, is)) then'

pub chained_fewer : (s f g : ℕ) (bs : List Block) → g ≤ f → AreChained s f bs → AreChained s g bs
chained_fewer s f g [] l h = tt
chained_fewer s f g (b ∷ bs) l h = let low = h.1 in (h.0, omega (arith, l, low), h.2)

pub chained_func : (x : Context) (func : FuncId) (counter b s : ℕ) (ps : List Part) (iss : List (List Instr)) (rest : List Block) → length iss ≡ length ps
    → AreChained (s + length (segs_of b iss)) func.0 rest → AreChained s func.0 (blocks_of x func counter s ps iss ++ rest)
chained_func x func counter b s [] [] rest long h = subst (λ z. AreChained z func.0 rest) (omega arith) h
chained_func x func counter b s [] (is ∷ iss) rest long h = absurd (omega (arith, long))
chained_func x func counter b s (p ∷ ps) [] rest long h = absurd (omega (arith, long))
chained_func x func counter b s (p ∷ ps) (is ∷ iss) rest long h =
    let many = length-map (cut ends is) (seg (block_id b)) in
    let both = length-append (map (seg (block_id b)) (cut ends is)) (segs_of (b + 1) iss) in (
      refl,
      omega arith,
      chained_func x func counter (b + 1) (s + length (cut ends is)) ps iss rest (omega (arith, long))
          (subst (λ z. AreChained z func.0 rest) (omega (arith, many, both)) h),
    )

-- ---- what closes a segment stands last in it
closes_last : (b : Block) (k left : ℕ) (o : Op) → Closes left o → k + 1 + left ≡ b.first_seg + b.seg_count → IsPlaced b k 1 0 o
closes_last b k left (op.Bin kind flagged x y) h is = absurd h
closes_last b k left (op.Icmp pred flagged x y) h is = absurd h
closes_last b k left (op.Cast kind flagged x) h is = absurd h
closes_last b k left (op.Select c x y) h is = absurd h
closes_last b k left (op.Freeze x) h is = absurd h
closes_last b k left (op.Phi arms) h is = absurd h
closes_last b k left (op.Alloca ty count align) h is = absurd h
closes_last b k left (op.Load ptr align volatile) h is = absurd h
closes_last b k left (op.Store val ptr align volatile) h is = absurd h
closes_last b k left (op.Gep elem base indices inbounds wrap) h is = absurd h
closes_last b k left (op.LandingPad catch_all clauses) h is = absurd h
closes_last b k left (op.Call call) h is = (refl, omega (arith, h, is))
closes_last b k left (op.Invoke call normal unwind) h is = (refl, omega (arith, h, is))
closes_last b k left (op.Resume val) h is = (refl, omega (arith, h, is))
closes_last b k left (op.Ret val) h is = (refl, omega (arith, h, is))
closes_last b k left (op.Jump to) h is = (refl, omega (arith, h, is))
closes_last b k left (op.Branch c so otherwise) h is = (refl, omega (arith, h, is))
closes_last b k left (op.Switch on other cases) h is = (refl, omega (arith, h, is))
closes_last b k left op.Unreachable h is = (refl, omega (arith, h, is))

-- one place further in a run that is longer by one
further : (P : Type 0) (i count : ℕ) (e : Bool) → MatchBool e ((i + 1 ≡ count) × P) (i + 1 < count)
    → MatchBool e ((suc i + 1 ≡ suc count) × P) (suc i + 1 < suc count)
further P i count true h = let is = h.0 in (omega (arith, is), h.1)
further P i count false h = omega (arith, h)

plain_first : (P : Type 0) (count : ℕ) (e : Bool) → e ≡ false → 1 < count → MatchBool e ((1 ≡ count) × P) (1 < count)
plain_first P count true is more = absurd cc
plain_first P count false is more = more

pub placed : (b : Block) (k left : ℕ) (run : List Instr) → IsClosed left run → k + 1 + left ≡ b.first_seg + b.seg_count → (i : ℕ) (ins : Instr)
    → slice_get run i ≡ Some ins → IsPlaced b k (length run) i ins.op
placed b k left [] h is i ins at = absurd h
placed b k left (x ∷ []) h is zero ins at =
    subst (λ (z : Instr). IsPlaced b k 1 0 z.op) (same_Some x ins at) (closes_last b k left x.op h is)
placed b k left (x ∷ []) h is (suc i) ins at = absurd (none-some ins at)
placed b k left (x ∷ y ∷ run) h is zero ins at =
    subst (λ (z : Instr). IsPlaced b k (length (x ∷ y ∷ run)) 0 z.op) (same_Some x ins at)
    (plain_first (Ends b k x.op) (length (x ∷ y ∷ run)) (ends_seg x.op) h.0 (omega arith))
placed b k left (x ∷ y ∷ run) h is (suc i) ins at =
    further (Ends b k ins.op) i (length (y ∷ run)) (ends_seg ins.op) (placed b k left (y ∷ run) h.1 is i ins at)

-- the run at a place, and what is left behind it
pub closed_at : (runs : List (List Instr)) (k : ℕ) (run : List Instr) → AreClosed runs → slice_get runs k ≡ Some run
    → (left : ℕ) × IsClosed left run × (k + 1 + left ≡ length runs)
closed_at [] k run h at = absurd (none-some run at)
closed_at (r ∷ runs) zero run h at = (length runs, subst (IsClosed (length runs)) (same_Some r run at) h.0, omega arith)
closed_at (r ∷ runs) (suc k) run h at =
    let rest = closed_at runs k run h.1 at in
    let place = rest.2 in
    (rest.0, rest.1, omega (arith, place))

pub closed_filled : (left : ℕ) (run : List Instr) → IsClosed left run → 0 < length run
closed_filled left [] h = absurd h
closed_filled left (i ∷ run) h = omega arith
