-- The frames of every run are linked: each was made by the frame below it, at the place where that one stands.
use Rattle.std.proofs.Common.{◌≡◌, ℕ, ◌+◌, ◌<◌, ◌≤◌, ◌==◌, ◌||◌, not, Bool, true, false, slice_get, length, Option, None, Some, refl, sym, subst, ◌∙◌, arith}
use Rattle.std.specs.Option.{option_and_then}
use Rattle.std.proofs.lemmas.Bool.{and_parts}
use Rattle.std.proofs.lemmas.Option.{same_Some}
use Rattle.attr_ids.specs.declared.ids.FuncId.{FuncId}
use Rattle.shelf.proofs.Shelf.{positive}
use Rattle.ir_module.specs.declared.op.Call.{Call}
use Rattle.ir_module.specs.declared.op.Op.{Op}
use Rattle.ir_module.specs.declared.op.Op.TheVariants as op
use Rattle.ir_module.specs.declared.op.Instr.{Instr}
use Rattle.ir_module.specs.declared.edge.Edge.{Edge}
use Rattle.ir_module.specs.declared.module.Seg.{Seg}
use Rattle.ir_module.specs.declared.module.Block.{Block}
use Rattle.ir_module.specs.declared.module.Func.{Func}
use Rattle.ir_module.specs.declared.module.Spot.{Spot}
use Rattle.ir_module.specs.declared.module.Module.{Module}
use Rattle.ir_module.specs.Places.{spot, in_seg, instr_at, IsIn, start_of, entry_of, behind_call, first_seg_of, first_seg_in, first_block_in}
use Rattle.ir_module.specs.Edges.{edges}
use Rattle.ir_module.specs.Calls.{is_call, callee_in, inner_callee, direct_callee, is_exact_in, is_replaceable, is_open, is_open_in, is_taken, is_visible}
use Rattle.ir_module.specs.Calls.{has_blocks}
use Rattle.ir_module.specs.Formed.{IsBlockIn, Ends as EndsSeg, IsPlaced as IsPlacedOp}
use Rattle.ir_module.specs.WellFormed.{IsWellFormed, IsInstrFormed}

-- ---- where blocks begin

spot_in : (m : Module) (f k i at : ℕ) (seg : Seg) (b : Block) → slice_get m.segs k ≡ Some seg → seg.block.0 ≡ i → slice_get m.blocks i ≡ Some b → b.func.0 ≡ f →
    IsIn m f (spot k at)
spot_in m f k i at seg b at_seg at_i at_block in_func =
    record { seg = seg; block = b; at_seg = at_seg; at_block = subst (λ j. slice_get m.blocks j ≡ Some b) (sym at_i) at_block; in_func = in_func }

-- a block of a function begins in it, and each place of its first segment lies in it
pub starts_in : (m : Module) (f i at : ℕ) → IsWellFormed m → IsBlockIn m f i → IsIn m f (spot (first_seg_of m i) at)
starts_in m f i at formed (b, at_b, of) =
    let block = formed.blocks i b at_b in
    let some : 0 < b.seg_count = block.filled in
    let seg = block.segs b.first_seg (omega arith, omega (arith, some)) in
    subst (λ found. IsIn m f (spot (first_seg_in found) at)) (sym at_b) (spot_in m f b.first_seg i at seg.0 b seg.1 seg.2 at_b of)

begins_in : (m : Module) (f : ℕ) (found : Option Func) → IsWellFormed m → slice_get m.funcs f ≡ found → has_blocks found ≡ true →
    IsIn m f (start_of m (first_block_in found))
begins_in m f None formed is body = absurd (cc)
begins_in m f (Some func) formed is body =
    let some : 0 < func.block_count = positive func.block_count body in
    starts_in m f func.first_block 0 formed ((formed.funcs f func is).blocks func.first_block (omega arith, omega (arith, some)))

-- a body begins in its function
pub body_begins : (m : Module) (f : ℕ) → IsWellFormed m → has_blocks (slice_get m.funcs f) ≡ true → IsIn m f (entry_of m f)
unfolding entry_of
body_begins m f formed body = begins_in m f (slice_get m.funcs f) formed refl body

pub open_has_blocks : (m : Module) (f : ℕ) → is_open m f ≡ true → has_blocks (slice_get m.funcs f) ≡ true
unfolding is_open
open_has_blocks m f h = by (slice_get m.funcs f) h
  where
    by : (found : Option Func) → is_open_in (is_taken m f) found ≡ true → has_blocks found ≡ true
    by None e = e
    by (Some func) e = (and_parts (not (func.block_count == 0)) (is_visible func.linkage || is_taken m f) e).0

exact_has_blocks : (found : Option Func) → is_exact_in found ≡ true → has_blocks found ≡ true
exact_has_blocks None e = e
exact_has_blocks (Some func) e = (and_parts (not (func.block_count == 0)) (not (is_replaceable func.linkage)) e).0

-- what an inner call runs is an exact body
inner_by : (m : Module) (f : ℕ) (named : Option FuncId) → callee_in (is_exact_in (option_and_then (λ g. slice_get m.funcs g.0) named)) named ≡ Some f →
    is_exact_in (slice_get m.funcs f) ≡ true
inner_by m f None e = absurd (cc)
inner_by m f (Some g) e = by (is_exact_in (slice_get m.funcs g.0)) refl e
  where
    by : (b : Bool) → is_exact_in (slice_get m.funcs g.0) ≡ b → callee_in b (Some g) ≡ Some f → is_exact_in (slice_get m.funcs f) ≡ true
    by true is e = let same_number : g.0 ≡ f = cc in subst (λ n. is_exact_in (slice_get m.funcs n) ≡ true) same_number is
    by false is e = absurd (cc)

pub inner_has_blocks : (m : Module) (o : Op) (f : ℕ) → inner_callee m o ≡ Some f → has_blocks (slice_get m.funcs f) ≡ true
inner_has_blocks m o f e = exact_has_blocks (slice_get m.funcs f) (inner_by m f (direct_callee m o) e)

-- ---- an instruction in its block

-- the instruction at a spot of function f, as the module has it: its block is of f, and what it names too
pub record IsFormedAt (m : Module) (f : ℕ) (s : Spot) (instr : Instr) : Type 0 where
  pub seg : Seg
  pub block : Block
  pub at_seg : slice_get m.segs s.seg.0 ≡ Some seg
  pub at_block : slice_get m.blocks seg.block.0 ≡ Some block
  pub of : block.func.0 ≡ f
  pub formed : IsInstrFormed m block s.seg.0 (length seg.instrs) s.at instr

pub formed_at : (m : Module) (f : ℕ) (s : Spot) (instr : Instr) → IsWellFormed m → IsIn m f s → instr_at m s ≡ Some instr → IsFormedAt m f s instr
unfolding instr_at
formed_at m f s instr formed is at =
    let in_block = formed.segs s.seg.0 is.seg is.at_seg in
    let same_block : in_block.0 ≡ is.block = same_Some _ _ (sym in_block.1 ∙ is.at_block) in
    record {
      seg = is.seg;
      block = in_block.0;
      at_seg = is.at_seg;
      at_block = in_block.1;
      of = subst (λ b. b.func.0 ≡ f) (sym same_block) is.in_func;
      formed = in_block.2.instrs s.at instr (subst (λ found. in_seg s.at found ≡ Some instr) is.at_seg at);
    }

-- an edge leads to a block of the same function
pub edge_leads_in : (m : Module) (f : ℕ) (s : Spot) (instr : Instr) (k at : ℕ) (e : Edge) → IsWellFormed m → IsIn m f s → instr_at m s ≡ Some instr →
    slice_get (edges instr.op) k ≡ Some e → IsIn m f (spot (first_seg_of m e.to.0) at)
edge_leads_in m f s instr k at e formed is at_s leads =
    let place = formed_at m f s instr formed is at_s in
    starts_in m f e.to.0 at formed (subst (λ f. IsBlockIn m f e.to.0) place.of (place.formed.names.targets k e leads))

-- behind a `call` the next segment of its block begins
pub behind_in : (m : Module) (f : ℕ) (s : Spot) (instr : Instr) (call : Call) → IsWellFormed m → IsIn m f s → instr_at m s ≡ Some instr →
    instr.op ≡ op.Call call →
    IsIn m f (behind_call s)
behind_in m f s instr call formed is at_s is_call =
    let place = formed_at m f s instr formed is at_s in
    let ends : (s.at + 1 ≡ length place.seg.instrs) × EndsSeg place.block s.seg.0 (op.Call call) =
    subst (λ o. IsPlacedOp place.block s.seg.0 (length place.seg.instrs) s.at o) is_call place.formed.placed in
    let block = formed.blocks place.seg.block.0 place.block place.at_block in
    let own = formed.segs s.seg.0 place.seg place.at_seg in
    let same_block : own.0 ≡ place.block = same_Some _ _ (sym own.1 ∙ place.at_block) in
    let low : place.block.first_seg ≤ s.seg.0 = subst (λ b. b.first_seg ≤ s.seg.0) same_block own.2.place.0 in
    let more : s.seg.0 + 1 < place.block.first_seg + place.block.seg_count = ends.1 in
    let next = block.segs (s.seg.0 + 1) (omega (arith, low), more) in
    spot_in m f (s.seg.0 + 1) place.seg.block.0 0 next.0 place.block next.1 next.2 place.at_block place.of
