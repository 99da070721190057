-- Edges, returns and unwindings: the values that they bring to a module frame are well.
use Rattle.std.proofs.Common.{◌≡◌, ℕ, suc, ◌++◌, ◌<◌, ◌==◌, Bool, true, false, if◌then◌else◌, List, [], ◌∷◌, slice_get, Option, None, Some, refl, sym, ap}
use Rattle.std.proofs.Common.{subst, ◌∙◌, inl, inr, arith, eqb-true}
use Rattle.std.specs.List.{AllByRecursion, find}
use Rattle.std.specs.Option.{option_map}
use Rattle.attr_ids.specs.declared.ids.ValueId.{ValueId}
use Rattle.ir_module.specs.declared.op.Arm.{Arm}
use Rattle.ir_module.specs.declared.op.Op.{Op}
use Rattle.ir_module.specs.declared.op.Op.TheVariants as op
use Rattle.ir_module.specs.declared.op.Operand.TheVariants as operand
use Rattle.ir_module.specs.declared.op.Instr.{Instr}
use Rattle.ir_module.specs.declared.op.Written.{Written}
use Rattle.ir_module.specs.declared.edge.Edge.{Edge}
use Rattle.ir_module.specs.declared.edge.Way.TheVariants as way
use Rattle.ir_module.specs.declared.module.Seg.{Seg}
use Rattle.ir_module.specs.declared.module.Spot.{Spot}
use Rattle.ir_module.specs.declared.module.Module.{Module}
use Rattle.ir_module.specs.Places.{spot, instr_at, in_seg, first_seg_of, first_seg_in, IsIn, IsSegInBlock}
use Rattle.ir_module.specs.Edges.{edge, edges, IsEdgeAt}
use Rattle.ir_module.specs.Formed.{IsBlockIn}
use Rattle.ir_module.specs.WellFormed.{IsWellFormed}
use Rattle.facts.specs.Kinds.{Access, UseFact}
use Rattle.facts.specs.Facts.{Fact, used_so}
use Rattle.facts.specs.DeadEdges.{is_dead_edge}
use Rattle.facts.specs.Uses.{ResultUsed}
use Rattle.ir_machine.specs.declared.choice.Value.{Value}
use Rattle.ir_machine.specs.Memory.{Memory, put}
use Rattle.ir_machine.specs.Frames.{Begun, BodyFrame, Frame, Body, Outside, State}
use Rattle.ir_machine.specs.Moves.{Move, Says, Grows, Turns, Fills, Keeps, Sets, Goes, Takes, Begins, Ends, moved, after, with_value, at_spot}
use Rattle.ir_machine.specs.Reading.{Values}
use Rattle.ir_machine.specs.Edges.{Crossing, crossing, arm_from, block_in, block_of, instrs_in, first_instrs, behind_phis}
use Rattle.ir_machine.specs.Calls.{with_result, Lands, landing_by, landing_in}
use Rattle.ir_machine.specs.Runs.{Done}
use Rattle.ir_machine.proofs.Basics.{Along}
use Rattle.ir_machine.proofs.Arguments.{read_is}
use Rattle.ir_machine.proofs.Moving.{IsPhiSet, IsCrossing, IsOnward, SetsFirst, IsGoingOn, IsThrough}
use Rattle.ir_machine.proofs.Linking.{formed_at}
use Rattle.ir_machine.proofs.Linked.{with_stack}
use Rattle.law_premises.specs.Premises.{JustifiesItself, TakesLiveEdges}
use Rattle.laws_uses.proofs.Marks.{Has, IsFrom}
use Rattle.laws_uses.proofs.Levels.{Level, rule}
use Rattle.laws_uses.proofs.Sealed.{IsSecret, Owns, OwnsWell, ForSecrets, under_top_of, KeptOf, SetsWell, C, set_owns, set_came}
use Rattle.laws_uses.proofs.Using.{marked_operand, result_level}

-- ---- arms of phis

arm_found : (source : ℕ) (arms : List Arm) (w : Written) → arm_from source arms ≡ Some w →
    (k : ℕ) × (arm : Arm) × (slice_get arms k ≡ Some arm) × (arm.from.0 ≡ source) × (arm.val ≡ w)
arm_found source [] w e = absurd (cc)
arm_found source (arm ∷ arms) w e = by (arm.from.0 == source) refl e (λ e. arm_found source arms w e)
  where
    by : (b : Bool) → (arm.from.0 == source) ≡ b → option_map (λ (arm : Arm). arm.val) (if b then Some arm else
        find (λ (arm : Arm). arm.from.0 == source) arms) ≡ Some w →
        (arm_from source arms ≡ Some w → (k : ℕ) × (found : Arm) × (slice_get arms k ≡ Some found) × (found.from.0 ≡ source) × (found.val ≡ w)) →
        (k : ℕ) × (found : Arm) × (slice_get (arm ∷ arms) k ≡ Some found) × (found.from.0 ≡ source) × (found.val ≡ w)
    by true test e more = (0, arm, refl, eqb-true arm.from.0 source test, cc)
    by false test e more = let later = more e in (suc later.0, later.1, later.2, later.3, later.4)

stands_first : (m : Module) (block at : ℕ) (instr : Instr) → slice_get (first_instrs m block) at ≡ Some instr →
    instr_at m (spot (first_seg_of m block) at) ≡ Some instr
unfolding instr_at
stands_first m block at instr e = by (slice_get m.segs (first_seg_of m block)) e
  where
    by : (found : Option Seg) → slice_get (instrs_in found) at ≡ Some instr → in_seg at found ≡ Some instr
    by None e = absurd (cc)
    by (Some seg) e = e

-- the edge that was taken leads to this block, and is not dead
pub record IsLiveWay (m : Module) (held : Fact → Bool) (from : Spot) (target : ℕ) : Type 0 where
  pub number : ℕ
  pub edge : Edge
  pub is_edge : IsEdgeAt m from number edge
  pub live : is_dead_edge m held from edge ≡ false
  pub leads : first_seg_of m target ≡ first_seg_of m edge.to.0

module _ (m : Module) (formed : IsWellFormed m) (held : Fact → Bool) (is : JustifiesItself m held) where
  -- a block begins with a segment of its own
  starts : (f : ℕ) (t : Spot) (n : ℕ) (e : Edge) → IsIn m f t → IsEdgeAt m t n e → IsSegInBlock m e.to.0 (first_seg_of m e.to.0)
  starts f t n e stands edge =
      let place = formed_at m f t edge.instr formed stands edge.at_spot in
      let home : IsBlockIn m f e.to.0 = subst (λ f. IsBlockIn m f e.to.0) place.of (place.formed.names.targets n e edge.is_edge) in
      let block = formed.blocks e.to.0 home.0 home.1 in
      let some : 0 < home.0.seg_count = block.filled in
      let seg = block.segs home.0.first_seg (omega arith, omega (arith, some)) in
      subst (λ found. IsSegInBlock m e.to.0 (first_seg_in found)) (sym home.1) (record { seg = seg.0; at_seg = seg.1; in_block = seg.2 })

  -- an arm that is taken passes what it has on to the phi
  arm_passes : (frame : BodyFrame) (mem : Memory) (values : Values) (target : ℕ) (r : ℕ) (x : Value) →
      IsIn m frame.func frame.spot → IsLiveWay m held frame.spot target →
      (phi : IsPhiSet m (record { memory = mem; values = values; source = block_of m frame.spot; target = target }) r x) → (v : ValueId) →
      phi.arm.val ≡ operand.Value v → (kind : UseFact) → held (used_so kind v.0) ≡ true → ResultUsed held kind phi.instr
  arm_passes frame mem values target r x stands way phi v names kind fact =
      let found = arm_found (block_of m frame.spot) phi.arms phi.arm phi.from_arm in
      (rule m held is kind v.0 fact).arms (spot (first_seg_of m target) phi.at) phi.instr found.1 frame.spot way.number way.edge
      (record {
        arms = phi.arms;
        k = found.0;
        at_spot = stands_first m target phi.at phi.instr phi.stands;
        is_phi = phi.phi;
        is_arm = found.2;
        is_value = ap (λ (w : Written). w.val) found.4 ∙ names;
      })
      (record {
        edge = way.is_edge;
        to = subst (IsSegInBlock m way.edge.to.0) (sym way.leads) (starts frame.func frame.spot way.number way.edge stands way.is_edge);
        from = record {
          seg = stands.seg;
          at_seg = stands.at_seg;
          in_block = sym (found.3 ∙ ap block_in stands.at_seg);
        };
      })
      way.live

  module _ (access : Option Access) where
    -- values of a module frame that came in, seen from the secrets of the frames under it
    abbrev pub Came : BodyFrame → List Frame → Values → Type 0
    Came frame rest values = ForSecrets m held access rest (λ above low j. (v : ℕ) (y : Value) → values v ≡ Some y → Has low.call.number j y →
        IsFrom frame.call low.call.number j y)

    -- the frame goes along an edge: each phi has what its arm has
    pub crossing_well : (u : State) (frame now : BodyFrame) (rest : List Frame) (mem : Memory) (values : Values) (target : ℕ) →
        now.call ≡ frame.call → now.func ≡ frame.func → IsIn m frame.func frame.spot → IsLiveWay m held frame.spot target →
        Owns m held access frame values → Came frame rest values → (moves : List Move) →
        IsCrossing m (record { memory = mem; values = values; source = block_of m frame.spot; target = target }) moves →
        Along (C m held access) (with_stack u (Body now ∷ rest)) moves
    crossing_well u frame now rest mem values target call func stands way own came [] cross = absurd cross
    crossing_well u frame now rest mem values target call func stands way own came (Sets r x ∷ moves) cross = (
      (
        (λ j k secret has.
            let old : IsSecret m held access frame j k = subst (λ f. IsSecret m held access (record frame { func = f }) j k) func secret in
            let named = operand_of frame.call.number j (subst (λ (c : Begun). Has c.number j x) call has) in
            subst (λ r. Level held access k r) cross.0.is
            (result_level held access cross.0.instr cross.0.result k named.0.0 cross.0.has (own j k old named.0.0 x named.2
            (subst (λ (c : Begun). Has c.number j x) call has))
            (arm_passes frame mem values target r x stands way cross.0 named.0 named.1))),
        (λ above low below e j secret has.
            let named = operand_of low.call.number j has in
            subst (λ c. IsFrom c low.call.number j x) (sym call) (came above low below e j secret named.0.0 x named.2 has)),
      ),
      crossing_well u frame (with_value r x now) rest mem values target call func stands way own came moves cross.1,
    )
      where
        operand_of : (c j : ℕ) → Has c j x → (v : ValueId) × (cross.0.arm.val ≡ operand.Value v) × (values v.0 ≡ Some x)
        operand_of c j has =
            marked_operand mem.home values cross.0.arm.val x c j
            (read_is m (record { state = record u { memory = mem }; frame = record frame { values = values }; below = rest; instr = cross.0.instr })
            cross.0.arm x (cross.0.picks, cross.0.rest, cross.0.reads)) has
    crossing_well u frame now rest mem values target call func stands way own came (Goes s ∷ moves) cross =
        (tt, subst (Along (C m held access) (moved (with_stack u (Body now ∷ rest)) (Goes s))) (sym cross.1) tt)
    crossing_well u frame now rest mem values target call func stands way own came (Says what ∷ moves) cross = absurd cross
    crossing_well u frame now rest mem values target call func stands way own came (Grows shape ∷ moves) cross = absurd cross
    crossing_well u frame now rest mem values target call func stands way own came (Turns block life' ∷ moves) cross = absurd cross
    crossing_well u frame now rest mem values target call func stands way own came (Fills block bytes ∷ moves) cross = absurd cross
    crossing_well u frame now rest mem values target call func stands way own came (Keeps x ∷ moves) cross = absurd cross
    crossing_well u frame now rest mem values target call func stands way own came (Takes x ∷ moves) cross = absurd cross
    crossing_well u frame now rest mem values target call func stands way own came (Begins other ∷ moves) cross = absurd cross
    crossing_well u frame now rest mem values target call func stands way own came (Ends ∷ moves) cross = absurd cross

    -- ---- which edge was taken

    -- the frame is on top at last, behind the phis of the block
    crossing_lands : (u : State) (now : BodyFrame) (rest : List Frame) (way : Crossing) (moves : List Move) → IsCrossing m way moves →
        (last : BodyFrame) × ((after (with_stack u (Body now ∷ rest)) moves).stack ≡ Body last ∷ rest) × (last.spot ≡ behind_phis m way.target)
    crossing_lands u now rest way [] cross = absurd cross
    crossing_lands u now rest way (Sets v x ∷ moves) cross = crossing_lands u (with_value v x now) rest way moves cross.1
    crossing_lands u now rest way (Goes s ∷ moves) cross = (
      at_spot s now,
      subst (λ moves. (after (with_stack u (Body (at_spot s now) ∷ rest)) moves).stack ≡ Body (at_spot s now) ∷ rest) (sym cross.1) refl,
      cross.0,
    )
    crossing_lands u now rest way (Says what ∷ moves) cross = absurd cross
    crossing_lands u now rest way (Grows shape ∷ moves) cross = absurd cross
    crossing_lands u now rest way (Turns block life' ∷ moves) cross = absurd cross
    crossing_lands u now rest way (Fills block bytes ∷ moves) cross = absurd cross
    crossing_lands u now rest way (Keeps x ∷ moves) cross = absurd cross
    crossing_lands u now rest way (Takes x ∷ moves) cross = absurd cross
    crossing_lands u now rest way (Begins other ∷ moves) cross = absurd cross
    crossing_lands u now rest way (Ends ∷ moves) cross = absurd cross

    split_last : (xs zs : List Frame) (a : Frame) → xs ++ (a ∷ zs) ≡ (xs ++ (a ∷ [])) ++ zs
    split_last [] zs a = refl
    split_last (x ∷ xs) zs a = ap (λ l. x ∷ l) (split_last xs zs a)

    -- a module frame stands in its body
    abbrev pub StandsIn : Frame → Type 0
    StandsIn (Body frame) = IsIn m frame.func frame.spot
    StandsIn (Outside frame) = Unit {0}

    -- what is given of the edges of a step whose last moves these are
    module _ (d : Done) (takes : TakesLiveEdges m held d) where
      pub live_way : (u : State) (front : List Frame) (frame now : BodyFrame) (rest : List Frame) (way : Crossing) (moves : List Move) →
          d.before.stack ≡ front ++ (Body frame ∷ rest) → (after (with_stack u (Body now ∷ rest)) moves).stack ≡ d.next.stack →
          IsCrossing m way moves → (n : ℕ) (e : Edge) → IsEdgeAt m frame.spot n e → IsLiveWay m held frame.spot way.target
      live_way u front frame now rest way moves before next cross n e edge =
          let lands = crossing_lands u now rest way moves cross in
          let taken = takes frame lands.0 n e (record { above = front; below = rest; before = before; next = sym next ∙ lands.1 }) edge in record {
            number = taken.number;
            edge = taken.edge;
            is_edge = taken.is_edge;
            live = taken.live;
            leads = ap (λ (s : Spot). s.seg.0) (sym lands.2 ∙ taken.arrives);
          }

      -- a module frame goes on at its call, with a result that is well
      pub going_well : (u : State) (front : List Frame) (frame : BodyFrame) (rest : List Frame) (mem : Memory) (instr : Instr) (x : Option Value) →
          d.before.stack ≡ front ++ (Body frame ∷ rest) → IsIn m frame.func frame.spot → instr_at m frame.spot ≡ Some instr →
          Owns m held access frame frame.values → Came frame rest frame.values →
          ((r : ValueId) (y : Value) → instr.result ≡ Some r → x ≡ Some y → SetsWell m held access (Body frame ∷ rest) r.0 y) → (moves : List Move) →
          IsGoingOn m mem frame instr x moves → (after (with_stack u (Body frame ∷ rest)) moves).stack ≡ d.next.stack →
          Along (C m held access) (with_stack u (Body frame ∷ rest)) moves
      going_well u front frame rest mem instr x before stands at own came sets moves (onwards, onward, first) next = by instr.result refl x refl first
        where
          onward_well : (now : BodyFrame) (values : Values) (o : Op) → now.call ≡ frame.call → now.func ≡ frame.func → instr.op ≡ o →
              Owns m held access frame values → Came frame rest values → IsOnward m mem frame values o onwards →
              (after (with_stack u (Body now ∷ rest)) onwards).stack ≡ d.next.stack → Along (C m held access) (with_stack u (Body now ∷ rest)) onwards
          onward_well now values (op.Call call) same_call same_func op_is own came goes next =
              subst (Along (C m held access) (with_stack u (Body now ∷ rest))) (sym goes) (tt, tt)
          onward_well now values (op.Invoke call normal unwind) same_call same_func op_is own came goes next =
              let is_edge : IsEdgeAt m frame.spot 0 (edge way.Normal normal) =
              record { instr = instr; at_spot = at; is_edge = subst (λ o. slice_get (edges o) 0 ≡ Some (edge way.Normal normal)) (sym op_is) refl } in
              crossing_well u frame now rest mem values normal.0 same_call same_func stands
              (live_way u front frame now rest (crossing m mem frame values normal.0) onwards before next goes 0 (edge way.Normal normal) is_edge) own came
              onwards goes
          onward_well now values _ same_call same_func op_is own came goes next = absurd goes

          by : (result : Option ValueId) → instr.result ≡ result → (x' : Option Value) → x ≡ x' → SetsFirst result x' onwards moves →
              Along (C m held access) (with_stack u (Body frame ∷ rest)) moves
          by None e x' ex is_first =
              subst (Along (C m held access) (with_stack u (Body frame ∷ rest))) (sym is_first)
              (onward_well frame frame.values instr.op refl refl refl own came
              (subst (λ result. IsOnward m mem frame (with_result result x frame.values) instr.op onwards) e onward)
              (subst (λ moves. (after (with_stack u (Body frame ∷ rest)) moves).stack ≡ d.next.stack) is_first next))
          by (Some r) e None ex is_first = absurd is_first
          by (Some r) e (Some y) ex is_first =
              let well = sets r y e ex in
              let goes : IsOnward m mem frame (put r.0 (Some y) frame.values) instr.op onwards =
              subst (λ x. IsOnward m mem frame (with_result (Some r) x frame.values) instr.op onwards) ex
              (subst (λ result. IsOnward m mem frame (with_result result x frame.values) instr.op onwards) e onward) in
              subst (Along (C m held access) (with_stack u (Body frame ∷ rest))) (sym is_first) (
                well,
                onward_well (with_value r.0 y frame) (put r.0 (Some y) frame.values) instr.op refl refl refl
                    (set_owns m held access frame r.0 y own well.0)
                    (λ above low below eq j secret. set_came m held access frame r.0 y low.call.number j (came above low below eq j secret)
                    (well.1 above low below eq j secret))
                    goes (subst (λ moves. (after (with_stack u (Body frame ∷ rest)) moves).stack ≡ d.next.stack) is_first next),
              )

      -- ---- unwindings

      -- where an unwinding lands, an edge leads
      landing_edge : (s : Spot) (picks rest : List ℕ) (block : ℕ) (found : Option Instr) → instr_at m s ≡ found → landing_in m picks found ≡ Lands block rest →
          (n : ℕ) × (e : Edge) × IsEdgeAt m s n e
      landing_edge s picks rest block None at lands = absurd (cc)
      landing_edge s picks rest block (Some instr) at lands = by instr.op refl lands
        where
          by : (o : Op) → instr.op ≡ o → landing_by m picks o ≡ Lands block rest → (n : ℕ) × (e : Edge) × IsEdgeAt m s n e
          by (op.Invoke call normal unwind) op_is lands = (
            1,
            edge way.Unwind unwind,
            record {
              instr = instr;
              at_spot = at;
              is_edge = subst (λ o. slice_get (edges o) 1 ≡ Some (edge way.Unwind unwind)) (sym op_is) refl;
            },
          )
          by _ op_is lands = absurd (cc)

      -- the frames that an unwinding goes through, and the one at which it lands
      pub through_well : (t u : State) (front : List Frame) (mem : Memory) (below : List Frame) → d.before.stack ≡ front ++ below →
          AllByRecursion (OwnsWell m held access) below → ForSecrets m held access below (KeptOf m held access t) →
          AllByRecursion StandsIn below → (moves : List Move) → IsThrough m mem below moves →
          (after (with_stack u below) moves).stack ≡ d.next.stack → Along (C m held access) (with_stack u below) moves
      through_well t u front mem [] before own kept stand moves through next = absurd through
      through_well t u front mem (Outside under ∷ below) before own kept stand moves through next =
          subst (Along (C m held access) (with_stack u (Outside under ∷ below))) (sym through) tt
      through_well t u front mem (Body under ∷ below) before own kept stand moves through next =
          elim through [
            | inl (picks, rest, block, lands, cross) ↦
                let edge = landing_edge under.spot picks rest block (instr_at m under.spot) refl lands in
                crossing_well u under under below mem under.values block refl refl stand.0
                (live_way u front under under below (crossing m mem under under.values block) moves before next cross edge.0 edge.1 edge.2) own.0
                (λ above low below' e j secret. (under_top_of m held access (KeptOf m held access t) (Body under) below kept above low below' e j
                secret).0.0.values)
                moves cross
            | inr (picks, rest, more, passes, eq, goes) ↦
                let w = with_stack u (Body under ∷ below) in
                subst (Along (C m held access) w) (sym eq) (
                  ((λ above low below' e j secret. tt), tt),
                  (
                    tt,
                    through_well t (moved w Ends) (front ++ (Body under ∷ [])) mem below
                        (before ∙ split_last front below (Body under)) own.1
                        (λ above low below' e j secret.
                        let old = under_top_of m held access (KeptOf m held access t) (Body under) below kept above low below' e j secret in (old.0.1, old.1))
                        stand.1 more goes (subst (λ moves. (after w moves).stack ≡ d.next.stack) eq next),
                  ),
                )
          ]
