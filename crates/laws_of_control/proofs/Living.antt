-- Segments that are not dead: where a body begins, where an edge that is not dead leads, and behind a call that may return.
use Rattle.std.proofs.Common.{◌≡◌, ℕ, ◌+◌, ◌<◌, ◌≤◌, ◌==◌, Bool, true, false, slice_get, length, Option, None, Some, refl, sym, ap, subst, ◌∙◌, arith}
use Rattle.std.proofs.Common.{true≢false, eqb-true}
use Rattle.attr_ids.specs.declared.ids.FuncId.{FuncId}
use Rattle.ir_module.specs.declared.op.Call.{Call}
use Rattle.ir_module.specs.declared.op.Op.{Op}
use Rattle.ir_module.specs.declared.op.Op.TheVariants as op
use Rattle.ir_module.specs.declared.op.Instr.{Instr}
use Rattle.ir_module.specs.declared.edge.Edge.{Edge}
use Rattle.ir_module.specs.declared.module.Block.{Block}
use Rattle.ir_module.specs.declared.module.Spot.{Spot}
use Rattle.ir_module.specs.declared.module.Module.{Module}
use Rattle.ir_module.specs.Places.{instr_at, entry_of, first_seg_of, first_seg_in, first_block_in, behind_call, IsIn}
use Rattle.ir_module.specs.Edges.{IsEdgeAt}
use Rattle.ir_module.specs.Calls.{is_call, callee_in, is_inner, inner_callee, direct_callee, is_open}
use Rattle.ir_module.specs.Formed.{IsBlockIn, Ends as EndsSeg, IsPlaced as IsPlacedOp}
use Rattle.ir_module.specs.WellFormed.{IsWellFormed}
use Rattle.facts.specs.Kinds.{NoReturn}
use Rattle.facts.specs.Bodies.{is_body}
use Rattle.facts.specs.Facts.{Fact, dead, dead_at}
use Rattle.facts.specs.Promises.{call_has}
use Rattle.facts.specs.DeadEdges.{is_dead_edge}
use Rattle.facts.specs.Dead.{is_first_block, IsBefore, IsUncalled, IsDead}
use Rattle.ir_machine.proofs.Linking.{IsFormedAt, formed_at}
use Rattle.law_premises.specs.Premises.{JustifiesItself}

-- an inner call names its body directly
pub inner_direct : (m : Module) (o : Op) (f : ℕ) → inner_callee m o ≡ Some f → direct_callee m o ≡ Some (record { 0 = f })
inner_direct m o f e = by (is_inner m o) (direct_callee m o) e
  where
    by : (inner : Bool) (found : Option FuncId) → callee_in inner found ≡ Some f → found ≡ Some (record { 0 = f })
    by true (Some g) e = let number : g.0 ≡ f = cc in ap (λ n. Some (record { 0 = n })) number
    by true None e = absurd (cc)
    by false found e = absurd (cc)

-- behind a call the next segment is one of the same block
pub next_segment : (m : Module) → IsWellFormed m → (f : ℕ) (s : Spot) (instr : Instr) (call : Call) → IsIn m f s → instr_at m s ≡ Some instr →
    instr.op ≡ op.Call call → IsBefore m s (s.seg.0 + 1)
next_segment m formed f s instr call stands at is_call =
    let place = formed_at m f s instr formed stands at in
    let ends : (s.at + 1 ≡ length place.seg.instrs) × EndsSeg place.block s.seg.0 (op.Call call) =
    subst (λ o. IsPlacedOp place.block s.seg.0 (length place.seg.instrs) s.at o) is_call place.formed.placed in
    let block = formed.blocks place.seg.block.0 place.block place.at_block in
    let own = formed.segs s.seg.0 place.seg place.at_seg in
    let same_block : own.0 ≡ place.block = some_is (sym own.1 ∙ place.at_block) in
    let low : place.block.first_seg ≤ s.seg.0 = subst (λ b. b.first_seg ≤ s.seg.0) same_block own.2.place.0 in
    let more : s.seg.0 + 1 < place.block.first_seg + place.block.seg_count = ends.1 in
    let next = block.segs (s.seg.0 + 1) (omega (arith, low), more) in record {
      block = place.seg.block.0;
      next = refl;
      here = record { seg = place.seg; at_seg = place.at_seg; in_block = refl };
      there = record { seg = next.0; at_seg = next.1; in_block = next.2 };
    }
  where
    some_is : {a b : Block} → Some a ≡ Some b → a ≡ b
    some_is e = cc

module _ (m : Module) (formed : IsWellFormed m) (held : Fact → Bool) (is : JustifiesItself m held) where
  -- a segment is not dead where its rule fails
  pub not_dead : (k : ℕ) → (IsDead m held k → ⊥) → held (dead k) ≡ false
  not_dead k fails = by (held (dead k)) refl
    where
      by : (b : Bool) → held (dead k) ≡ b → b ≡ false
      by false e = refl
      by true e = absurd (fails (is (dead k) e).1)

  -- where a body begins, if it is called somewhere
  pub entry_lives : (f : ℕ) → is_body m f ≡ true → (IsUncalled m held f → ⊥) → held (dead_at (entry_of m f)) ≡ false
  entry_lives f body called = not_dead (entry_of m f).seg.0 (λ dead. called (dead.entry f (body, refl)))

  -- an open body is called by the outside
  pub open_called : (f : ℕ) → is_open m f ≡ true → IsUncalled m held f → ⊥
  open_called f opens none = true≢false (sym opens ∙ none.closed)

  -- a body is called where an inner call of it is not dead
  pub inner_called : (f : ℕ) (s : Spot) (instr : Instr) → instr_at m s ≡ Some instr → inner_callee m instr.op ≡ Some f → held (dead_at s) ≡ false →
      IsUncalled m held f → ⊥
  inner_called f s instr at inner live none = true≢false (sym (none.callers s instr at (inner_direct m instr.op f inner)) ∙ live)

  -- behind a call that may return
  pub behind_lives : (f : ℕ) (s : Spot) (instr : Instr) (call : Call) → IsIn m f s → instr_at m s ≡ Some instr → instr.op ≡ op.Call call →
      held (dead_at s) ≡ false → call_has m held NoReturn instr.op ≡ false → held (dead_at (behind_call s)) ≡ false
  behind_lives f s instr call stands at is_op live may =
      not_dead (s.seg.0 + 1) (λ dead. true≢false (sym (dead.later s instr (next_segment m formed f s instr call stands at is_op) at
      (subst (λ o. is_call o ≡ true) (sym is_op) refl) live) ∙ may))

  -- where an edge leads that is not dead, from a place of a body whose beginning is not dead
  pub block_lives : (f : ℕ) (t : Spot) (n : ℕ) (e : Edge) → IsIn m f t → IsEdgeAt m t n e → is_dead_edge m held t e ≡ false →
      held (dead_at (entry_of m f)) ≡ false → held (dead (first_seg_of m e.to.0)) ≡ false
  unfolding entry_of
  block_lives f t n e stands edge live begins = by (is_first_block m e.to.0 home.0) refl
    where
      place : IsFormedAt m f t edge.instr
      place = formed_at m f t edge.instr formed stands edge.at_spot

      home : IsBlockIn m f e.to.0
      home = subst (λ f. IsBlockIn m f e.to.0) place.of (place.formed.names.targets n e edge.is_edge)

      by : (b : Bool) → is_first_block m e.to.0 home.0 ≡ b → held (dead (first_seg_of m e.to.0)) ≡ false
      by true first =
          let number : first_block_in (slice_get m.funcs f) ≡ e.to.0 =
          eqb-true (first_block_in (slice_get m.funcs f)) e.to.0 (subst (λ f. (first_block_in (slice_get m.funcs f) == e.to.0) ≡ true) home.2 first) in
          subst (λ i. held (dead (first_seg_of m i)) ≡ false) number begins
      by false other =
          not_dead (first_seg_of m e.to.0) (λ dead. true≢false (sym (dead.start e.to.0 (record {
            block = home.0;
            at_block = home.1;
            first = ap first_seg_in (sym home.1);
            not_entry = other;
          }) t n e edge refl) ∙ live))
