-- Edges, returns and unwindings: the values that they bring to a module frame are as their words say.
use Rattle.std.proofs.Common.{◌≡◌, ℕ, suc, ◌++◌, ◌<◌, ◌≤◌, ◌==◌, Bool, true, false, if◌then◌else◌, List, [], ◌∷◌, slice_get, Option, None, Some}
use Rattle.std.proofs.Common.{refl, sym, ap, subst, ◌∙◌, inl, inr, arith, eqb-true}
use Rattle.std.specs.List.{AllByRecursion, find}
use Rattle.std.specs.Option.{option_map}
use Rattle.std.proofs.lemmas.Option.{same_Some}
use Rattle.attr_ids.specs.declared.ids.ValueId.{ValueId}
use Rattle.ir_module.specs.declared.op.Arm.{Arm}
use Rattle.ir_module.specs.declared.op.Op.{Op}
use Rattle.ir_module.specs.declared.op.Op.TheVariants as op
use Rattle.ir_module.specs.declared.op.Instr.{Instr}
use Rattle.ir_module.specs.declared.op.Written.{Written}
use Rattle.ir_module.specs.declared.edge.Edge.{Edge}
use Rattle.ir_module.specs.declared.edge.Way.TheVariants as way
use Rattle.ir_module.specs.declared.module.Seg.{Seg}
use Rattle.ir_module.specs.declared.module.Spot.{Spot}
use Rattle.ir_module.specs.declared.module.Module.{Module}
use Rattle.ir_module.specs.Places.{spot, instr_at, in_seg, first_seg_of, first_seg_in, IsIn, IsSegInBlock}
use Rattle.ir_module.specs.Edges.{edge, edges, IsEdgeAt}
use Rattle.ir_module.specs.Formed.{IsBlockIn}
use Rattle.ir_module.specs.WellFormed.{IsWellFormed}
use Rattle.facts.specs.Facts.{Fact}
use Rattle.facts.specs.Known.{written_has}
use Rattle.facts.specs.DeadEdges.{is_dead_edge, IsArmBy}
use Rattle.ir_machine.specs.declared.choice.Value.{Value}
use Rattle.ir_machine.specs.Memory.{Memory, put}
use Rattle.ir_machine.specs.Frames.{BodyFrame, Frame, Body, Outside, State}
use Rattle.ir_machine.specs.Moves.{Move, Says, Grows, Turns, Fills, Keeps, Sets, Goes, Takes, Begins, Ends, moved, after, with_value, at_spot}
use Rattle.ir_machine.specs.Reading.{Values}
use Rattle.ir_machine.specs.Edges.{Crossing, arm_from, block_in, block_of, instrs_in, first_instrs, behind_phis, phi_count}
use Rattle.ir_machine.specs.Calls.{with_result, Lands, landing_by, landing_in}
use Rattle.ir_machine.specs.Runs.{Done}
use Rattle.ir_machine.specs.Valid.{scope_of, Known, IsSomeOf, IsValid, IsLater}
use Rattle.ir_machine.proofs.Basics.{Along, put_has}
use Rattle.ir_machine.proofs.Carried.{read_has}
use Rattle.ir_machine.proofs.Moving.{IsPhiSet, IsCrossing, IsOnward, SetsFirst, IsGoingOn, IsThrough}
use Rattle.ir_machine.proofs.Linking.{formed_at, edge_leads_in}
use Rattle.ir_machine.proofs.Linked.{with_stack}
use Rattle.ir_machine.proofs.Valid.{known_closed, later_moved}
use Rattle.law_premises.specs.Premises.{JustifiesItself, TakesLiveEdges}
use Rattle.laws_pointer.proofs.Good.{IsGood, word_of, good_later, HasHomes, AreGood, read_good}
use Rattle.laws_pointer.proofs.Rules.{HasRules, result_rules, taken_good}
use Rattle.laws_pointer.proofs.Results.{same_bit}
use Rattle.laws_pointer.proofs.Frames.{FrameIsGood}

-- ---- arms of phis

arm_found : (source : ℕ) (arms : List Arm) (w : Written) → arm_from source arms ≡ Some w →
    (k : ℕ) × (arm : Arm) × (slice_get arms k ≡ Some arm) × (arm.from.0 ≡ source) × (arm.val ≡ w)
arm_found source [] w e = absurd (cc)
arm_found source (arm ∷ arms) w e = by (arm.from.0 == source) refl e (λ e. arm_found source arms w e)
  where
    by : (b : Bool) → (arm.from.0 == source) ≡ b → option_map (λ (arm : Arm). arm.val) (if b then Some arm else
        find (λ (arm : Arm). arm.from.0 == source) arms) ≡ Some w →
        (arm_from source arms ≡ Some w → (k : ℕ) × (found : Arm) × (slice_get arms k ≡ Some found) × (found.from.0 ≡ source) × (found.val ≡ w)) →
        (k : ℕ) × (found : Arm) × (slice_get (arm ∷ arms) k ≡ Some found) × (found.from.0 ≡ source) × (found.val ≡ w)
    by true test e more = (0, arm, refl, eqb-true arm.from.0 source test, cc)
    by false test e more = let later = more e in (suc later.0, later.1, later.2, later.3, later.4)

stands_first : (m : Module) (block at : ℕ) (instr : Instr) → slice_get (first_instrs m block) at ≡ Some instr →
    instr_at m (spot (first_seg_of m block) at) ≡ Some instr
unfolding instr_at
stands_first m block at instr e = by (slice_get m.segs (first_seg_of m block)) e
  where
    by : (found : Option Seg) → slice_get (instrs_in found) at ≡ Some instr → in_seg at found ≡ Some instr
    by None e = absurd (cc)
    by (Some seg) e = e

-- the edge that was taken leads to this block, and is not dead
pub record IsLiveWay (m : Module) (held : Fact → Bool) (from : Spot) (target : ℕ) : Type 0 where
  pub number : ℕ
  pub edge : Edge
  pub is_edge : IsEdgeAt m from number edge
  pub live : is_dead_edge m held from edge ≡ false
  pub leads : first_seg_of m target ≡ first_seg_of m edge.to.0

-- a later memory of a later one
pub later_still : (a b c : Memory) → IsLater a b → IsLater b c → IsLater a c
later_still a b c first second = record {
  count = let l : a.count ≤ b.count = first.count in let n : b.count ≤ c.count = second.count in omega (arith, l, n);
  home = λ s. second.home s ∙ first.home s;
  shape = λ k low. let l : a.count ≤ b.count = first.count in second.shape k (omega (arith, l, low)) ∙ first.shape k low;
  dead = λ k low gone. let l : a.count ≤ b.count = first.count in second.dead k (omega (arith, l, low)) (first.dead k low gone);
}

module _ (m : Module) (formed : IsWellFormed m) (held : Fact → Bool) (is : JustifiesItself m held) where
  -- ---- moves

  -- what is asked of a value that is made by the frame on top
  abbrev pub SetsGood : Memory → List Frame → ℕ → Value → Type 0
  SetsGood mem [] v x = Unit {0}
  SetsGood mem (Outside frame ∷ below) v x = Unit {0}
  SetsGood mem (Body frame ∷ below) v x = IsGood m mem frame.call (word_of held v) x.datum

  -- what is asked of a move
  abbrev pub C : State → Move → Type 0
  C t (Says what) = Unit {0}
  C t (Grows shape) = Unit {0}
  C t (Turns block life') = Unit {0}
  C t (Fills block bytes) = Unit {0}
  C t (Keeps x) = Unit {0}
  C t (Sets v x) = SetsGood t.memory t.stack v x
  C t (Goes s) = Unit {0}
  C t (Takes x) = Unit {0}
  C t (Begins frame) = FrameIsGood m held is t.memory frame
  C t Ends = Unit {0}

  -- a block begins with a segment of its own
  starts : (f : ℕ) (t : Spot) (n : ℕ) (e : Edge) → IsIn m f t → IsEdgeAt m t n e → IsSegInBlock m e.to.0 (first_seg_of m e.to.0)
  starts f t n e stands edge =
      let place = formed_at m f t edge.instr formed stands edge.at_spot in
      let home : IsBlockIn m f e.to.0 = subst (λ f. IsBlockIn m f e.to.0) place.of (place.formed.names.targets n e edge.is_edge) in
      let block = formed.blocks e.to.0 home.0 home.1 in
      let some : 0 < home.0.seg_count = block.filled in
      let seg = block.segs home.0.first_seg (omega arith, omega (arith, some)) in
      subst (λ found. IsSegInBlock m e.to.0 (first_seg_in found)) (sym home.1) (record { seg = seg.0; at_seg = seg.1; in_block = seg.2 })

  -- ---- edges

  -- the frame, its values and the memory as it takes an edge
  pub record TakesOff (t0 : State) (u : State) (frame : BodyFrame) (values : Values) : Type 0 where
    pub valid : IsValid t0
    pub homes : HasHomes m t0.memory
    pub later : IsLater t0.memory u.memory
    pub stands : IsIn m frame.func frame.spot
    pub good : AreGood m held t0.memory frame.call values
    pub known : (v : ℕ) → IsSomeOf (Known (scope_of t0)) (values v)

  module _ (t0 : State) (frame : BodyFrame) (values : Values) (target : ℕ) where
    abbrev way_to : Crossing
    way_to = record { memory = t0.memory; values = values; source = block_of m frame.spot; target = target }

    -- a phi is as its word says, by its arm
    phi_good : (u : State) → TakesOff t0 u frame values → IsLiveWay m held frame.spot target → IsIn m frame.func (behind_phis m target) → (v : ℕ) (x : Value) →
        IsPhiSet m way_to v x → IsGood m u.memory frame.call (word_of held v) x.datum
    phi_good u off way inside v x phi =
        let low = (read_has t0.memory.count (Known (scope_of t0)) (known_closed.carried (scope_of t0)) m t0.memory values
        (λ s b home. (off.valid.blocks.homes s b home).0) off.known phi.arm x phi.picks phi.rest phi.reads).0 in
        let arm = read_good m held t0.memory (scope_of t0) off.valid.blocks off.homes frame.call values off.good phi.arm x phi.picks phi.rest phi.reads in
        let s = spot (first_seg_of m target) phi.at in
        let here : IsIn m frame.func s = record {
          seg = inside.seg;
          block = inside.block;
          at_seg = inside.at_seg;
          at_block = inside.at_block;
          in_func = inside.in_func;
        } in
        let rules = subst (λ o. HasRules m held is frame.func phi.result.0 s o) phi.phi
        (result_rules m held is frame.func s phi.instr phi.result here (stands_first m target phi.at phi.instr phi.stands) phi.has) in
        let found = arm_found (block_of m frame.spot) phi.arms phi.arm phi.from_arm in
        let by : IsArmBy m s frame.spot way.number way.edge found.1 = record {
          edge = way.is_edge;
          to = subst (IsSegInBlock m way.edge.to.0) (sym way.leads) (starts frame.func frame.spot way.number way.edge off.stands way.is_edge);
          from = record { seg = off.stands.seg; at_seg = off.stands.at_seg; in_block = sym (found.3 ∙ ap block_in off.stands.at_seg) };
        } in
        good_later m t0.memory u.memory off.later frame.call (word_of held v) x.datum low
        (subst (λ n. IsGood m t0.memory frame.call (word_of held n) x.datum) phi.is
        (taken_good m held is t0.memory frame.call frame.func phi.result.0 s (op.Phi phi.arms) x.datum (written_has m held phi.arm) rules
        (λ bit arms. subst (λ w. written_has m held w bit ≡ true) found.4 (arms frame.spot way.number way.edge found.0 found.1 found.2 by way.live))
        (λ bit i e arms. subst (λ w. written_has m held w bit ≡ true) found.4
        (subst (λ n. written_has m held found.1.val n ≡ true) (sym (same_bit bit i e))
        (arms frame.spot way.number way.edge found.0 found.1 found.2 by way.live)))
        (λ bit n arms. subst (λ w. written_has m held w bit ≡ true) found.4 (arms frame.spot way.number way.edge found.0 found.1 found.2 by way.live))
        (λ bit c arms. subst (λ w. written_has m held w bit ≡ true) found.4 (arms frame.spot way.number way.edge found.0 found.1 found.2 by way.live)) arm))

    pub crossing_good : (u : State) (now : BodyFrame) (rest : List Frame) → now.call ≡ frame.call → TakesOff t0 u frame values →
        IsLiveWay m held frame.spot target →
        IsIn m frame.func (behind_phis m target) → (moves : List Move) → IsCrossing m way_to moves → Along C (with_stack u (Body now ∷ rest)) moves
    crossing_good u now rest call off way inside [] cross = absurd cross
    crossing_good u now rest call off way inside (Sets v x ∷ moves) cross = (
      subst (λ c. IsGood m u.memory c (word_of held v) x.datum) (sym call) (phi_good u off way inside v x cross.0),
      crossing_good u (with_value v x now) rest call off way inside moves cross.1,
    )
    crossing_good u now rest call off way inside (Goes s ∷ moves) cross =
        (tt, subst (Along C (moved (with_stack u (Body now ∷ rest)) (Goes s))) (sym cross.1) tt)
    crossing_good u now rest call off way inside (Says what ∷ moves) cross = absurd cross
    crossing_good u now rest call off way inside (Grows shape ∷ moves) cross = absurd cross
    crossing_good u now rest call off way inside (Turns block life' ∷ moves) cross = absurd cross
    crossing_good u now rest call off way inside (Fills block bytes ∷ moves) cross = absurd cross
    crossing_good u now rest call off way inside (Keeps x ∷ moves) cross = absurd cross
    crossing_good u now rest call off way inside (Takes x ∷ moves) cross = absurd cross
    crossing_good u now rest call off way inside (Begins other ∷ moves) cross = absurd cross
    crossing_good u now rest call off way inside (Ends ∷ moves) cross = absurd cross

  -- ---- which edge was taken

  -- the frame is on top at last, behind the phis of the block
  crossing_lands : (u : State) (now : BodyFrame) (rest : List Frame) (way : Crossing) (moves : List Move) → IsCrossing m way moves →
      (last : BodyFrame) × ((after (with_stack u (Body now ∷ rest)) moves).stack ≡ Body last ∷ rest) × (last.spot ≡ behind_phis m way.target)
  crossing_lands u now rest way [] cross = absurd cross
  crossing_lands u now rest way (Sets v x ∷ moves) cross = crossing_lands u (with_value v x now) rest way moves cross.1
  crossing_lands u now rest way (Goes s ∷ moves) cross = (
    at_spot s now,
    subst (λ moves. (after (with_stack u (Body (at_spot s now) ∷ rest)) moves).stack ≡ Body (at_spot s now) ∷ rest) (sym cross.1) refl,
    cross.0,
  )
  crossing_lands u now rest way (Says what ∷ moves) cross = absurd cross
  crossing_lands u now rest way (Grows shape ∷ moves) cross = absurd cross
  crossing_lands u now rest way (Turns block life' ∷ moves) cross = absurd cross
  crossing_lands u now rest way (Fills block bytes ∷ moves) cross = absurd cross
  crossing_lands u now rest way (Keeps x ∷ moves) cross = absurd cross
  crossing_lands u now rest way (Takes x ∷ moves) cross = absurd cross
  crossing_lands u now rest way (Begins other ∷ moves) cross = absurd cross
  crossing_lands u now rest way (Ends ∷ moves) cross = absurd cross

  split_last : (xs zs : List Frame) (a : Frame) → xs ++ (a ∷ zs) ≡ (xs ++ (a ∷ [])) ++ zs
  split_last [] zs a = refl
  split_last (x ∷ xs) zs a = ap (λ l. x ∷ l) (split_last xs zs a)

  -- the block to which a live edge leads is one of the function
  way_inside : (f : ℕ) (s : Spot) (target : ℕ) → IsIn m f s → IsLiveWay m held s target → IsIn m f (behind_phis m target)
  way_inside f s target stands way =
      subst (λ k. IsIn m f (spot k (phi_count (first_instrs m target)))) (sym way.leads)
      (edge_leads_in m f s way.is_edge.instr way.number (phi_count (first_instrs m target)) way.edge formed stands way.is_edge.at_spot way.is_edge.is_edge)

  -- what is known of a frame from which an unwinding may go on
  abbrev pub MayLand : State → Frame → Type 0
  MayLand t0 (Body frame) = IsIn m frame.func frame.spot ×
      (AreGood m held t0.memory frame.call frame.values × ((v : ℕ) → IsSomeOf (Known (scope_of t0)) (frame.values v)))
  MayLand t0 (Outside frame) = Unit {0}

  module _ (d : Done) (takes : TakesLiveEdges m held d) where
    pub live_way : (u : State) (front : List Frame) (frame now : BodyFrame) (rest : List Frame) (way : Crossing) (moves : List Move) →
        d.before.stack ≡ front ++ (Body frame ∷ rest) → (after (with_stack u (Body now ∷ rest)) moves).stack ≡ d.next.stack →
        IsCrossing m way moves → (n : ℕ) (e : Edge) → IsEdgeAt m frame.spot n e → IsLiveWay m held frame.spot way.target
    live_way u front frame now rest way moves before next cross n e edge =
        let lands = crossing_lands u now rest way moves cross in
        let taken = takes frame lands.0 n e (record { above = front; below = rest; before = before; next = sym next ∙ lands.1 }) edge in record {
          number = taken.number;
          edge = taken.edge;
          is_edge = taken.is_edge;
          live = taken.live;
          leads = ap (λ (s : Spot). s.seg.0) (sym lands.2 ∙ taken.arrives);
        }

    -- a module frame goes along an edge to a block
    pub takes_edge : (t0 u : State) (front : List Frame) (frame now : BodyFrame) (rest : List Frame) (values : Values) (target : ℕ) → now.call ≡ frame.call →
        TakesOff t0 u frame values → d.before.stack ≡ front ++ (Body frame ∷ rest) → (n : ℕ) (e : Edge) → IsEdgeAt m frame.spot n e →
        (moves : List Move) → (after (with_stack u (Body now ∷ rest)) moves).stack ≡ d.next.stack →
        IsCrossing m (record { memory = t0.memory; values = values; source = block_of m frame.spot; target = target }) moves →
        Along C (with_stack u (Body now ∷ rest)) moves
    takes_edge t0 u front frame now rest values target call off before n e edge moves next cross =
        let way = live_way u front frame now rest
        (record { memory = t0.memory; values = values; source = block_of m frame.spot; target = target }) moves before next cross
        n e edge in
        crossing_good t0 frame values target u now rest call off way (way_inside frame.func frame.spot target off.stands way) moves cross

    -- a module frame goes on at its call, with a result that is as its word says
    pub going_good : (t0 u : State) (front : List Frame) (frame : BodyFrame) (rest : List Frame) (instr : Instr) (x : Option Value) →
        d.before.stack ≡ front ++ (Body frame ∷ rest) → instr_at m frame.spot ≡ Some instr → TakesOff t0 u frame frame.values →
        ((r : ValueId) (y : Value) → instr.result ≡ Some r → x ≡ Some y →
        IsGood m t0.memory frame.call (word_of held r.0) y.datum × Known (scope_of t0) y) → (moves : List Move) →
        IsGoingOn m t0.memory frame instr x moves → (after (with_stack u (Body frame ∷ rest)) moves).stack ≡ d.next.stack →
        Along C (with_stack u (Body frame ∷ rest)) moves
    going_good t0 u front frame rest instr x before at off sets moves (onwards, onward, first) next = by instr.result refl x refl first
      where
        onward_good : (now : BodyFrame) (values : Values) (o : Op) → now.call ≡ frame.call → instr.op ≡ o → TakesOff t0 u frame values →
            IsOnward m t0.memory frame values o onwards → (after (with_stack u (Body now ∷ rest)) onwards).stack ≡ d.next.stack →
            Along C (with_stack u (Body now ∷ rest)) onwards
        onward_good now values (op.Call call) same_call op_is off goes next = subst (Along C (with_stack u (Body now ∷ rest))) (sym goes) (tt, tt)
        onward_good now values (op.Invoke call normal unwind) same_call op_is off goes next =
            let is_edge : IsEdgeAt m frame.spot 0 (edge way.Normal normal) =
            record { instr = instr; at_spot = at; is_edge = subst (λ o. slice_get (edges o) 0 ≡ Some (edge way.Normal normal)) (sym op_is) refl } in
            takes_edge t0 u front frame now rest values normal.0 same_call off before 0 (edge way.Normal normal) is_edge onwards next goes
        onward_good now values _ same_call op_is off goes next = absurd goes

        by : (result : Option ValueId) → instr.result ≡ result → (x' : Option Value) → x ≡ x' → SetsFirst result x' onwards moves →
            Along C (with_stack u (Body frame ∷ rest)) moves
        by None e x' ex is_first =
            subst (Along C (with_stack u (Body frame ∷ rest))) (sym is_first)
            (onward_good frame frame.values instr.op refl refl off
            (subst (λ result. IsOnward m t0.memory frame (with_result result x frame.values) instr.op onwards) e onward)
            (subst (λ moves. (after (with_stack u (Body frame ∷ rest)) moves).stack ≡ d.next.stack) is_first next))
        by (Some r) e None ex is_first = absurd is_first
        by (Some r) e (Some y) ex is_first =
            let well = sets r y e ex in
            let goes : IsOnward m t0.memory frame (put r.0 (Some y) frame.values) instr.op onwards =
            subst (λ x. IsOnward m t0.memory frame (with_result (Some r) x frame.values) instr.op onwards) ex
            (subst (λ result. IsOnward m t0.memory frame (with_result result x frame.values) instr.op onwards) e onward) in
            subst (Along C (with_stack u (Body frame ∷ rest))) (sym is_first) (
              good_later m t0.memory u.memory off.later frame.call (word_of held r.0) y.datum well.1.0 well.0,
              onward_good (with_value r.0 y frame) (put r.0 (Some y) frame.values) instr.op refl refl
                  (record {
                    valid = off.valid;
                    homes = off.homes;
                    later = off.later;
                    stands = off.stands;
                    good = λ v z at_v. put_has (λ n (found : Option Value). found ≡ Some z → IsGood m t0.memory frame.call (word_of held n) z.datum) r.0
                        (Some y) frame.values v
                        (λ same. subst (λ (z : Value). IsGood m t0.memory frame.call (word_of held r.0) z.datum) (same_Some y z same) well.0)
                        (λ same. off.good v z same) at_v;
                    known = λ v. put_has (λ n (found : Option Value). IsSomeOf (Known (scope_of t0)) found) r.0 (Some y) frame.values v well.1 (off.known v);
                  })
                  goes (subst (λ moves. (after (with_stack u (Body frame ∷ rest)) moves).stack ≡ d.next.stack) is_first next),
            )

    -- ---- unwindings

    -- where an unwinding lands, an edge leads
    landing_edge : (s : Spot) (picks rest : List ℕ) (block : ℕ) (found : Option Instr) → instr_at m s ≡ found → landing_in m picks found ≡ Lands block rest →
        (n : ℕ) × (e : Edge) × IsEdgeAt m s n e
    landing_edge s picks rest block None at lands = absurd (cc)
    landing_edge s picks rest block (Some instr) at lands = by instr.op refl lands
      where
        by : (o : Op) → instr.op ≡ o → landing_by m picks o ≡ Lands block rest → (n : ℕ) × (e : Edge) × IsEdgeAt m s n e
        by (op.Invoke call normal unwind) op_is lands = (
          1,
          edge way.Unwind unwind,
          record {
            instr = instr;
            at_spot = at;
            is_edge = subst (λ o. slice_get (edges o) 1 ≡ Some (edge way.Unwind unwind)) (sym op_is) refl;
          },
        )
        by _ op_is lands = absurd (cc)

    -- the frames that an unwinding goes through, and the one at which it lands
    pub through_good : (t0 u : State) (front : List Frame) (below : List Frame) → IsValid t0 → HasHomes m t0.memory → IsLater t0.memory u.memory →
        d.before.stack ≡ front ++ below → AllByRecursion (MayLand t0) below → (moves : List Move) → IsThrough m t0.memory below moves →
        (after (with_stack u below) moves).stack ≡ d.next.stack → Along C (with_stack u below) moves
    through_good t0 u front [] valid homes later before may moves through next = absurd through
    through_good t0 u front (Outside under ∷ below) valid homes later before may moves through next =
        subst (Along C (with_stack u (Outside under ∷ below))) (sym through) tt
    through_good t0 u front (Body under ∷ below) valid homes later before may moves through next =
        elim through [
          | inl (picks, rest, block, lands, cross) ↦
              let edge = landing_edge under.spot picks rest block (instr_at m under.spot) refl lands in
              takes_edge t0 u front under under below under.values block refl
              (record { valid = valid; homes = homes; later = later; stands = may.0.0; good = may.0.1.0; known = may.0.1.1 })
              before edge.0 edge.1 edge.2 moves next cross
          | inr (picks, rest, more, passes, eq, goes) ↦
              let w = with_stack u (Body under ∷ below) in
              subst (Along C w) (sym eq) (
                tt,
                (
                  tt,
                  through_good t0 (moved w Ends) (front ++ (Body under ∷ [])) below valid homes (later_still t0.memory u.memory (moved w Ends).memory later
                      (later_moved w Ends tt))
                      (before ∙ split_last front below (Body under)) may.1 more goes (subst (λ moves. (after w moves).stack ≡ d.next.stack) eq next),
                ),
              )
        ]
