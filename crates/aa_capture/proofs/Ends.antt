-- The arms of a phi and the terminators by which they are taken.
use Rattle.std.proofs.Common.{arith, ◌≡◌, ◌+◌, ◌-◌, ◌||◌, ◌⊎◌, ℕ, Bool, true, false, length, slice_get, Some, refl, sym, ap, subst, ◌∙◌, inl, inr}
use Rattle.ir_module.specs.declared.op.Arm.{Arm}
use Rattle.ir_module.specs.declared.op.Op.{Op}
use Rattle.ir_module.specs.declared.op.Op.TheVariants as op
use Rattle.ir_module.specs.declared.op.Instr.{Instr}
use Rattle.ir_module.specs.declared.edge.Edge.{Edge}
use Rattle.ir_module.specs.declared.module.Block.{Block}
use Rattle.ir_module.specs.declared.module.Seg.{Seg}
use Rattle.ir_module.specs.declared.module.Spot.{Spot}
use Rattle.ir_module.specs.declared.module.Module.{Module}
use Rattle.ir_module.specs.Edges.{edges}
use Rattle.ir_module.specs.Places.{spot, instr_at, IsSegInBlock}
use Rattle.ir_module.specs.Formed.{IsPlaced}
use Rattle.ir_module.specs.WellFormed.{IsWellFormed}
use Rattle.ir_module.proofs.Spots.{at_spot, formed_at}
use Rattle.ir_module.proofs.Runs.{is_of_run}
use Rattle.facts.specs.declared.pos.Pos.{Pos}
use Rattle.facts.specs.Facts.{Fact, dead, dead_at}
use Rattle.facts.specs.DeadEdges.{IsArmBy, is_never, EdgeSpeaks, WaySpeaks}
use Rattle.facts.specs.Uses.{ResultUseSpeaks}
use Rattle.rule_terms.specs.System.{System}
use Rattle.positions.specs.Numbering.{Numbered}
use Rattle.rule_says.specs.Meeting.{Meets}
use Rattle.rule_says.proofs.Mets.{meets_iff}
use Rattle.aa_capture.specs.Asked.{AsksArm, SpeaksArm}
use Rattle.aa_capture.specs.Arms.{IsLastSeg, AsksEdges, SpeaksEdges}

clash : {A : Type 0} → true ≡ false → A
clash e = absurd (cc)

or_false : (a b : Bool) → a ≡ false → b ≡ false → (a || b) ≡ false
or_false false false e f = refl
or_false true b e f = clash e
or_false false true e f = clash f

both_false : (a b : Bool) → (a || b) ≡ false → (a ≡ false) × (b ≡ false)
both_false false false e = (refl, refl)
both_false true b e = clash e
both_false false true e = clash e

-- a segment stands in one block
pub one_block : (m : Module) (a b k : ℕ) → IsSegInBlock m a k → IsSegInBlock m b k → a ≡ b
one_block m a b k x y =
    let seg : y.seg ≡ x.seg = (let p = x.at_seg in let q = y.at_seg in cc) in
    sym x.in_block ∙ (ap (λ (s : Seg). s.block.0) (sym seg) ∙ y.in_block)

-- what has edges stands last in the last segment of its block
edge_ends : (b : Block) (k count i : ℕ) (o : Op) (n : ℕ) (e : Edge) → slice_get (edges o) n ≡ Some e → IsPlaced b k count i o →
    (i + 1 ≡ count) × (k + 1 ≡ b.first_seg + b.seg_count)
edge_ends b k count i (op.Invoke call normal unwind) n e at placed = (placed.0, placed.1)
edge_ends b k count i (op.Jump to) n e at placed = (placed.0, placed.1)
edge_ends b k count i (op.Branch c so otherwise) n e at placed = (placed.0, placed.1)
edge_ends b k count i (op.Switch on other cases) n e at placed = (placed.0, placed.1)
edge_ends b k count i _ n e at placed = absurd (cc)

module _ (m : Module) (formed : IsWellFormed m) (k : ℕ) (i : Instr) (arm : Arm) (block q : ℕ) (here : IsSegInBlock m block k) (ends : IsLastSeg m
    arm.from.0 q) (seg : Seg) (at_seg : slice_get m.segs q ≡ Some seg) (t : Instr) (last : slice_get seg.instrs (length seg.instrs - 1) ≡ Some t) where
  -- the arm is taken by the edges of this terminator alone
  pub one_terminator : (s : Spot) (n : ℕ) (e : Edge) → IsArmBy m (spot k 0) s n e arm →
      (s.seg.0 ≡ q) × (instr_at m s ≡ Some t) × (slice_get (edges t.op) n ≡ Some e) × (e.to.0 ≡ block)
  one_terminator s n e by =
      let f = formed_at m s by.edge.instr formed by.edge.at_spot in
      let stand = edge_ends f.block s.seg.0 (length f.stands.seg.instrs) s.at by.edge.instr.op n e by.edge.is_edge f.placed in
      let home : f.stands.seg.block.0 ≡ arm.from.0 =
      one_block m f.stands.seg.block.0 arm.from.0 s.seg.0 (record { seg = f.stands.seg; at_seg = f.stands.at_seg; in_block = refl }) by.from in
      let run = is_of_run m arm.from.0 q f.block formed (subst (λ b. slice_get m.blocks b ≡ Some f.block) home f.at_block) ends.within in
      let high = run.1 in
      let low = ends.last s.seg.0 by.from in
      let after = stand.1 in
      let same_seg : s.seg.0 ≡ q = omega (arith, high, low, after) in
      let seg_is : f.stands.seg ≡ seg = (let x : slice_get m.segs q ≡ Some f.stands.seg =
      subst (λ n. slice_get m.segs n ≡ Some f.stands.seg) same_seg f.stands.at_seg in let y = at_seg in cc) in
      let count = stand.0 in
      let long : length f.stands.seg.instrs ≡ length seg.instrs = ap (λ (x : Seg). length x.instrs) seg_is in
      let place : s.at ≡ length seg.instrs - 1 = omega (arith, count, long) in
      let read : slice_get seg.instrs (length seg.instrs - 1) ≡ Some by.edge.instr =
      subst (λ n. slice_get seg.instrs n ≡ Some by.edge.instr) place
      (subst (λ (x : Seg). slice_get x.instrs s.at ≡ Some by.edge.instr) seg_is f.stands.at_place) in
      let instr_is : by.edge.instr ≡ t = (let x = last in cc) in (
        same_seg,
        by.edge.at_spot ∙ ap (λ (x : Instr). Some x) instr_is,
        subst (λ (x : Instr). slice_get (edges x.op) n ≡ Some e) instr_is by.edge.is_edge,
        one_block m e.to.0 block k by.to here,
      )

  there : Spot
  there = spot q (length seg.instrs - 1)

  at_there : instr_at m there ≡ Some t
  unfolding there
  at_there = at_spot m (spot q (length seg.instrs - 1)) seg t at_seg last

  arm_by : (n : ℕ) (e : Edge) → slice_get (edges t.op) n ≡ Some e → e.to.0 ≡ block → IsArmBy m (spot k 0) there n e arm
  unfolding there
  arm_by n e at to = record {
    edge = record { instr = t; at_spot = at_there; is_edge = at };
    to = subst (λ b. IsSegInBlock m b k) (sym to) here;
    from = ends.within;
  }

  module _ (ps : Numbered) where
    asks_down : (held : Fact → Bool) (p : Pos) (bit : ℕ) → AsksEdges m q t block i arm.val held p bit → AsksArm m k i arm held p bit
    asks_down held p bit h kind v s n e named at of has by live =
        let w = one_terminator s n e by in
        let parts = both_false (held (dead_at s)) (is_never m held e.way (instr_at m s)) live in
        h n e w.2 w.3 kind v named at of has (subst (λ x. held (dead x) ≡ false) w.0 parts.0)
        (subst (λ o. is_never m held e.way o ≡ false) w.1 parts.1)

    asks_up : (held : Fact → Bool) (p : Pos) (bit : ℕ) → AsksArm m k i arm held p bit → AsksEdges m q t block i arm.val held p bit
    unfolding there
    asks_up held p bit h n e at to kind v named here of has live never =
        h kind v there n e named here of has (arm_by n e at to)
        (or_false (held (dead q)) (is_never m held e.way (instr_at m there)) live (subst (λ o. is_never m held e.way o ≡ false) (sym at_there) never))

    speaks_down : (p : Pos) (y : Fact) → SpeaksEdges m q t block i arm.val p y → SpeaksArm m k i arm p y
    unfolding there
    speaks_down p y s = (
      s.3.1,
      s.3.2,
      there,
      s.0,
      s.1,
      s.3.3,
      s.3.4,
      s.3.5,
      arm_by s.0 s.1 s.2 s.3.0,
      by s.3.6,
    )
      where
        by : (y ≡ dead q) ⊎ (WaySpeaks m s.1.way (Some t) y ⊎ ResultUseSpeaks s.3.1 i y) → EdgeSpeaks m there s.1 y ⊎ ResultUseSpeaks s.3.1 i y
        by (inl h) = inl (inl h)
        by (inr (inl h)) = inl (inr (subst (λ o. WaySpeaks m s.1.way o y) (sym at_there) h))
        by (inr (inr h)) = inr h

    speaks_up : (p : Pos) (y : Fact) → SpeaksArm m k i arm p y → SpeaksEdges m q t block i arm.val p y
    speaks_up p y s =
        let w = one_terminator s.2 s.3 s.4 s.8 in (s.3, s.4, w.2, (w.3, s.0, s.1, s.5, s.6, s.7, by s.9))
      where
        by : EdgeSpeaks m s.2 s.4 y ⊎ ResultUseSpeaks s.0 i y → (y ≡ dead q) ⊎ (WaySpeaks m s.4.way (Some t) y ⊎ ResultUseSpeaks s.0 i y)
        by (inl (inl h)) = inl (h ∙ ap dead (one_terminator s.2 s.3 s.4 s.8).0)
        by (inl (inr h)) = inr (inl (subst (λ o. WaySpeaks m s.4.way o y) (one_terminator s.2 s.3 s.4 s.8).1 h))
        by (inr h) = inr (inr h)

    pub arm_met : (a b : System) → Meets m ps a b (AsksEdges m q t block i arm.val) (SpeaksEdges m q t block i arm.val) →
        Meets m ps a b (AsksArm m k i arm) (SpeaksArm m k i arm)
    arm_met a b met =
        meets_iff m ps a b (AsksEdges m q t block i arm.val) (AsksArm m k i arm) (SpeaksEdges m q t block i arm.val) (SpeaksArm m k i arm) met
        (λ held p bit. (asks_down held p bit, asks_up held p bit)) (λ p y. (speaks_down p y, speaks_up p y))
