-- Blocks and segments of a well formed module lie in runs.
use Rattle.std.proofs.Common.{◌≡◌, ◌+◌, ◌-◌, ◌<◌, ◌≤◌, ℕ, zero, suc, length, slice_get, get_or, List, [], ◌∷◌, Some, arith, subst, refl}
use Rattle.std.proofs.lemmas.Option.{slice_get_within, slice_get-get_or, slice_get_read}
use Rattle.shelf.proofs.Shelf.{get_there}
use Rattle.ir_module.specs.declared.module.Seg.{Seg}
use Rattle.ir_module.specs.declared.module.Block.{Block}
use Rattle.ir_module.specs.declared.module.Func.{Func}
use Rattle.ir_module.specs.declared.module.Module.{Module}
use Rattle.ir_module.specs.Places.{IsSegIn, IsSegInBlock}
use Rattle.ir_module.specs.Formed.{IsBlockOf, IsSegOf}
use Rattle.ir_module.specs.WellFormed.{IsWellFormed}

-- what was read of a list by a slice of it
pub read_at : {X : Type 0} → (xs ys : List X) (i : ℕ) (x : X) → ys ≡ xs → i < length xs → x ≡ get_or ys i x → slice_get xs i ≡ Some x
read_at {X} xs ys i x same inside is = slice_get_read xs (length xs) i x refl inside (subst (λ (zs : List X). x ≡ get_or zs i x) same is)

-- a segment that stands in a block is one of its run
pub is_of_run : (m : Module) (i k : ℕ) (b : Block) → IsWellFormed m → slice_get m.blocks i ≡ Some b → IsSegInBlock m i k → IsSegOf b k
is_of_run m i k b w e r =
    let p = w.segs k r.seg r.at_seg in
    let at : slice_get m.blocks r.seg.block.0 ≡ Some p.0 = p.1 in
    let home : r.seg.block.0 ≡ i = r.in_block in
    let same : p.0 ≡ b = cc in
    subst (λ (x : Block). IsSegOf x k) same p.2.place

pub is_in_block : (m : Module) (i k : ℕ) (b : Block) → IsWellFormed m → slice_get m.blocks i ≡ Some b → IsSegOf b k → IsSegInBlock m i k
is_in_block m i k b w e h = let q = (w.blocks i b e).segs k h in record { seg = q.0; at_seg = q.1; in_block = q.2 }

-- a run of segments lies within the list
pub run_within : (m : Module) (i : ℕ) (b : Block) → IsWellFormed m → slice_get m.blocks i ≡ Some b → b.first_seg + b.seg_count ≤ length m.segs
run_within m i b w e =
    let some : 0 < b.seg_count = (w.blocks i b e).filled in
    let last : IsSegOf b (b.first_seg + (b.seg_count - 1)) = (omega arith, omega arith) in
    let q = (w.blocks i b e).segs (b.first_seg + (b.seg_count - 1)) last in
    let inside : b.first_seg + (b.seg_count - 1) < length m.segs = slice_get_within m.segs (b.first_seg + (b.seg_count - 1)) q.0 q.1 in
    omega arith

-- a later block lies behind
pub later : (m : Module) (d i : ℕ) (b c : Block) → IsWellFormed m → slice_get m.blocks i ≡ Some b → slice_get m.blocks (i + d) ≡ Some c
    → (b.first_seg ≤ c.first_seg) × (b.first_seg + b.seg_count ≤ c.first_seg + c.seg_count)
later m zero i b c w e f =
    let sum : i + 0 ≡ i = omega arith in
    let same : b ≡ c = cc in
    subst (λ (x : Block). (b.first_seg ≤ x.first_seg) × (b.first_seg + b.seg_count ≤ x.first_seg + x.seg_count)) same (omega arith, omega arith)
later m (suc d) i b c w e f =
    let sum : i + suc d ≡ (i + d) + 1 = omega arith in
    let inside : i + suc d < length m.blocks = slice_get_within m.blocks (i + suc d) c f in
    let p : Block = get_or m.blocks (i + d) c in
    let before : slice_get m.blocks (i + d) ≡ Some p = slice_get-get_or m.blocks (i + d) c (omega arith) in
    let h = later m d i b p w e before in
    let next : slice_get m.blocks ((i + d) + 1) ≡ Some c = subst (λ (n : ℕ). slice_get m.blocks n ≡ Some c) sum f in
    let o = (w.blocks (i + d) p before).next c next in
    (omega (arith, h.0, o.1), omega (arith, h.1, o.1))

-- a block that stands before another ends before it
pub ends_before : (m : Module) (i j : ℕ) (b c : Block) → IsWellFormed m → slice_get m.blocks i ≡ Some b → slice_get m.blocks j ≡ Some c → i < j
    → b.first_seg + b.seg_count ≤ c.first_seg
ends_before m i j b c w e f l =
    let inside : j < length m.blocks = slice_get_within m.blocks j c f in
    let p : Block = get_or m.blocks (j - 1) c in
    let before : slice_get m.blocks (j - 1) ≡ Some p = slice_get-get_or m.blocks (j - 1) c (omega arith) in
    let sum : j - 1 ≡ i + (j - 1 - i) = omega arith in
    let h = later m (j - 1 - i) i b p w e (subst (λ (n : ℕ). slice_get m.blocks n ≡ Some p) sum before) in
    let one : j ≡ (j - 1) + 1 = omega arith in
    let o = (w.blocks (j - 1) p before).next c (subst (λ (n : ℕ). slice_get m.blocks n ≡ Some c) one f) in
    omega (arith, h.1, o.1)

pub not_later : (m : Module) (i j : ℕ) (b c : Block) → IsWellFormed m → slice_get m.blocks i ≡ Some b → slice_get m.blocks j ≡ Some c → i ≤ j
    → (b.first_seg ≤ c.first_seg) × (b.first_seg + b.seg_count ≤ c.first_seg + c.seg_count)
not_later m i j b c w e f l =
    let sum : j ≡ i + (j - i) = omega arith in
    later m (j - i) i b c w e (subst (λ (n : ℕ). slice_get m.blocks n ≡ Some c) sum f)

-- the segments of a body are those from its first block's first to its last block's last
pub in_body : (m : Module) (f k i j : ℕ) (func : Func) (b c : Block) → IsWellFormed m → slice_get m.funcs f ≡ Some func → i ≡ func.first_block
    → j + 1 ≡ func.first_block + func.block_count → slice_get m.blocks i ≡ Some b → slice_get m.blocks j ≡ Some c
    → IsSegIn m f k → (b.first_seg ≤ k) × (k < c.first_seg + c.seg_count)
in_body m f k i j func b c w at_f first last at_b at_c r =
    let h = (w.blocks r.seg.block.0 r.block r.at_block).home in
    let home : slice_get m.funcs r.block.func.0 ≡ Some h.0 = h.1 in
    let here : r.block.func.0 ≡ f = r.in_func in
    let same : h.0 ≡ func = cc in
    let within : IsBlockOf func r.seg.block.0 = subst (λ (x : Func). IsBlockOf x r.seg.block.0) same h.2 in
    let home_run : IsSegInBlock m r.seg.block.0 k = record { seg = r.seg; at_seg = r.at_seg; in_block = refl } in
    let run : IsSegOf r.block k = is_of_run m r.seg.block.0 k r.block w r.at_block home_run in
    let behind = not_later m i r.seg.block.0 b r.block w at_b r.at_block (omega (arith, within.0)) in
    let before = not_later m r.seg.block.0 j r.block c w r.at_block at_c (omega (arith, within.1)) in
    (omega (arith, behind.0, run.0), omega (arith, before.1, run.1))

pub of_body : (m : Module) (f k i j : ℕ) (func : Func) (b c : Block) → IsWellFormed m → slice_get m.funcs f ≡ Some func → i ≡ func.first_block
    → j + 1 ≡ func.first_block + func.block_count → slice_get m.blocks i ≡ Some b → slice_get m.blocks j ≡ Some c
    → b.first_seg ≤ k → k < c.first_seg + c.seg_count → (seg : Seg) → slice_get m.segs k ≡ Some seg → IsSegIn m f k
of_body m f k i j func b c w at_f first last at_b at_c low high seg at_seg =
    let p = w.segs k seg at_seg in
    let run : IsSegOf p.0 k = p.2.place in
    let above : (seg.block.0 < i → ⊥) = λ l. let e = ends_before m seg.block.0 i p.0 b w p.1 at_b l in omega (arith, e, run.1) in
    let below : (j < seg.block.0 → ⊥) = λ l. let e = ends_before m j seg.block.0 c p.0 w at_c p.1 l in omega (arith, e, run.0) in
    let within : IsBlockOf func seg.block.0 = (omega arith, omega arith) in
    let q = (w.funcs f func at_f).blocks seg.block.0 within in
    record { seg = seg; block = q.0; at_seg = at_seg; at_block = q.1; in_func = q.2 }

-- a body's last block is there, and so is its first
pub last_block : (m : Module) (f : ℕ) (func : Func) → IsWellFormed m → slice_get m.funcs f ≡ Some func → (func.block_count ≡ 0 → ⊥)
    → func.first_block + (func.block_count - 1) < length m.blocks
last_block m f func w at some =
    let last : IsBlockOf func (func.first_block + (func.block_count - 1)) = (omega arith, omega arith) in
    let q = (w.funcs f func at).blocks (func.first_block + (func.block_count - 1)) last in
    slice_get_within m.blocks (func.first_block + (func.block_count - 1)) q.0 q.1

-- a declaration has no segments
pub no_segs : (m : Module) (f k : ℕ) (func : Func) → IsWellFormed m → slice_get m.funcs f ≡ Some func → func.block_count ≡ 0 → IsSegIn m f k → ⊥
no_segs m f k func w at none r =
    let h = (w.blocks r.seg.block.0 r.block r.at_block).home in
    let home : slice_get m.funcs r.block.func.0 ≡ Some h.0 = h.1 in
    let here : r.block.func.0 ≡ f = r.in_func in
    let same : h.0 ≡ func = cc in
    let within : IsBlockOf func r.seg.block.0 = subst (λ (x : Func). IsBlockOf x r.seg.block.0) same h.2 in
    omega (arith, within.0, within.1)

-- the segments of a body, from what was read of the tables
pub body_range : (m : Module) (f i j k : ℕ) (func : Func) (b c : Block) → IsWellFormed m → slice_get m.funcs f ≡ Some func → i ≡ func.first_block
    → j ≡ func.first_block + (func.block_count - 1) → (func.block_count ≡ 0 → ⊥) → slice_get m.blocks i ≡ Some b → slice_get m.blocks j ≡ Some c
    → (IsSegIn m f k → (b.first_seg ≤ k) × (k < c.first_seg + c.seg_count)) × ((b.first_seg ≤ k) × (k < c.first_seg + c.seg_count) → IsSegIn m f k)
body_range m f i j k func b c w at_f first last some at_b at_c =
    let last' : j + 1 ≡ func.first_block + func.block_count = omega arith in (
      in_body m f k i j func b c w at_f first last' at_b at_c,
      λ h. let inside : k < length m.segs = omega (arith, run_within m j c w at_c, h.1) in
          let found = get_there m.segs k inside in
          of_body m f k i j func b c w at_f first last' at_b at_c h.0 h.1 found.0 found.1,
    )
