-- No dead edge is taken: where a frame is on top after a step in its old place, its step went along an edge that is not dead, or its
-- instruction has no edges.
use Rattle.std.proofs.Common.{◌≡◌, ℕ, suc, ◌+◌, ◌++◌, ◌||◌, Bool, true, false, if◌then◌else◌, List, [], ◌∷◌, slice_get, map, length, Option, None, Some, refl}
use Rattle.std.proofs.Common.{sym, ap, subst, ◌∙◌, inl, inr, arith}
use Rattle.std.specs.List.{AllByRecursion}
use Rattle.std.proofs.lemmas.List.{append_cancel_right, length-append}
use Rattle.attr_ids.specs.declared.ids.ValueId.{ValueId}
use Rattle.ir_ops.specs.declared.conversion.CastOp.TheVariants as cast
use Rattle.ir_module.specs.declared.op.Op.{Op}
use Rattle.ir_module.specs.declared.op.Op.TheVariants as op
use Rattle.ir_module.specs.declared.op.Instr.{Instr}
use Rattle.ir_module.specs.declared.op.Written.{Written}
use Rattle.ir_module.specs.declared.edge.Edge.{Edge}
use Rattle.ir_module.specs.declared.edge.Way.TheVariants as way
use Rattle.ir_module.specs.declared.module.Spot.{Spot}
use Rattle.ir_module.specs.declared.module.Module.{Module}
use Rattle.ir_module.specs.Places.{instr_at, behind_call}
use Rattle.ir_module.specs.Edges.{edge, edges, catches_all, IsEdgeAt}
use Rattle.ir_module.specs.Calls.{Nounwind, Noreturn}
use Rattle.ir_module.specs.WellFormed.{IsWellFormed}
use Rattle.facts.specs.Kinds.{NoUnwind, NoReturn}
use Rattle.facts.specs.Facts.{Fact, dead_at}
use Rattle.facts.specs.Promises.{call_has}
use Rattle.facts.specs.DeadEdges.{takes_other, is_unused}
use Rattle.ir_machine.specs.declared.choice.Value.{Value}
use Rattle.ir_machine.specs.declared.choice.Datum.{Datum}
use Rattle.ir_machine.specs.declared.choice.Datum.TheVariants as datum
use Rattle.ir_machine.specs.declared.choice.Byte.TheVariants as byte
use Rattle.ir_machine.specs.declared.choice.Choice.{Choice}
use Rattle.ir_machine.specs.Memory.{Memory, Heap, Live, Closed, Dead, is_dead, without_allocas}
use Rattle.ir_machine.specs.Frames.{BodyFrame, OutsideFrame, Frame, Body, Outside, active, State, What, Enter, Read, Write, HiddenRead, HiddenWrite, Free}
use Rattle.ir_machine.specs.Frames.{Capture, Return, Unwind}
use Rattle.ir_machine.specs.Moves.{Move, Says, Grows, Turns, Fills, Keeps, Sets, Goes, Takes, Begins, Ends, moved, after, says, with_value, with_hand, at_spot}
use Rattle.ir_machine.specs.Reading.{Here, behind}
use Rattle.ir_machine.specs.Edges.{crossing, Crossing, behind_phis}
use Rattle.ir_machine.specs.Calls.{is_end_name, marks_last, turns, is_alloca_result, Lands, landing_by, landing_in, takes, with_result, body_frame, begun_by}
use Rattle.ir_machine.specs.Calls.{passed_to}
use Rattle.ir_machine.specs.Compute.{computed}
use Rattle.ir_machine.specs.Outside.{block_in, pointers_in, reads_at, taking, captures_in, written_at}
use Rattle.ir_machine.specs.Access.{alloca_shape, hidden, bytes_with}
use Rattle.ir_machine.specs.Values.{plain}
use Rattle.ir_machine.specs.Steps.{plan}
use Rattle.ir_machine.specs.Runs.{Done, done}
use Rattle.ir_machine.specs.Links.{AreLinked, IsLinked}
use Rattle.ir_machine.specs.Moves.{Gives}
use Rattle.ir_machine.proofs.Basics.{OnOutcome}
use Rattle.ir_machine.proofs.Instructions.{EachKind, EachAct, by_step, here_in, passing_at, passing_in}
use Rattle.ir_machine.proofs.Moving.{IsCrossing, crossed, IsOnward, SetsFirst, IsGoingOn, went_on, IsComing, came, IsThrough, went_through}
use Rattle.ir_machine.proofs.Linked.{with_stack}
use Rattle.law_premises.specs.Premises.{JustifiesItself, StandLive, IsByLiveEdge, TakesLiveEdges}
use Rattle.laws_of_control.proofs.Literals.{led}
use Rattle.laws_of_control.proofs.Able.{lands_at}
use Rattle.laws_of_control.proofs.Moves.{Lacks, MayHappen, Right, has_over, never_at, live_edge, passing_may}
use Rattle.laws_of_control.proofs.Steps.{marker_returns}

-- ---- frames over the same frames

split_last : (xs zs : List Frame) (a : Frame) → xs ++ (a ∷ zs) ≡ (xs ++ (a ∷ [])) ++ zs
split_last [] zs a = refl
split_last (x ∷ xs) zs a = ap (λ l. x ∷ l) (split_last xs zs a)

same_last : (xs ys : List Frame) (a b : Frame) → xs ++ (a ∷ []) ≡ ys ++ (b ∷ []) → a ≡ b
same_last [] [] a b e = cc
same_last [] (y ∷ []) a b e = absurd (cc)
same_last [] (y ∷ z ∷ ys) a b e = absurd (cc)
same_last (x ∷ []) [] a b e = absurd (cc)
same_last (x ∷ z ∷ xs) [] a b e = absurd (cc)
same_last (x ∷ xs) (y ∷ ys) a b e = let rest : xs ++ (a ∷ []) ≡ ys ++ (b ∷ []) = cc in same_last xs ys a b rest

-- two frames over the same frames of one stack are one
same_place : (xs ys zs : List Frame) (a b : Frame) → xs ++ (a ∷ zs) ≡ ys ++ (b ∷ zs) → a ≡ b
same_place xs ys zs a b e =
    same_last xs ys a b (append_cancel_right (xs ++ (a ∷ [])) (ys ++ (b ∷ [])) zs (sym (split_last xs zs a) ∙ (e ∙ split_last ys zs b)))

module _ (m : Module) (held : Fact → Bool) where
  -- from this frame an edge that is not dead leads to the spot, if its instruction has edges
  abbrev GoesWell : BodyFrame → Spot → Type 0
  GoesWell frame to = (n : ℕ) (e : Edge) → IsEdgeAt m frame.spot n e → IsByLiveEdge m held frame.spot to

  -- what is asked of the stack after a step, by the one before it
  abbrev Arrived : List Frame → List Frame → Type 0
  Arrived before next = (frame now : BodyFrame) (above below : List Frame) → before ≡ above ++ (Body frame ∷ below) → next ≡ Body now ∷ below →
      GoesWell frame now.spot

  -- a frame that is on top in its old place
  arrived_at : (before front below : List Frame) (was now : BodyFrame) → before ≡ front ++ (Body was ∷ below) → GoesWell was now.spot →
      Arrived before (Body now ∷ below)
  arrived_at before front below was now e well frame other above rest e_frame e_now =
      let same_rest : rest ≡ below = cc in
      let same_now : now ≡ other = cc in
      let place : Body was ≡ Body frame = same_place front above below (Body was) (Body frame)
      (sym e ∙ (e_frame ∙ ap (λ l. above ++ (Body frame ∷ l)) same_rest)) in
      let same_frame : was ≡ frame = cc in
      subst (λ f. GoesWell f other.spot) same_frame (subst (λ f. GoesWell was f.spot) same_now well)

  arrived_outside : (before below : List Frame) (top : OutsideFrame) → Arrived before (Outside top ∷ below)
  arrived_outside before below top frame now above rest e_frame e_now = absurd (cc)

  no_longer : (above rest : List Frame) (f : Frame) → rest ≡ above ++ (f ∷ rest) → ⊥
  no_longer above rest f e =
      let long : length rest ≡ length above + suc (length rest) = ap length e ∙ length-append above (f ∷ rest) in omega (arith, long)

  -- a new frame on the stack
  arrived_new : (before : List Frame) (new : Frame) → Arrived before (new ∷ before)
  arrived_new before new frame now above rest e_frame e_now =
      let same_rest : rest ≡ before = cc in
      absurd (no_longer above before (Body frame) (e_frame ∙ ap (λ l. above ++ (Body frame ∷ l)) same_rest))

  -- an instruction without edges
  edge_of : (s : Spot) (instr : Instr) (o : Op) (n : ℕ) (e : Edge) → instr_at m s ≡ Some instr → instr.op ≡ o → IsEdgeAt m s n e →
      slice_get (edges o) n ≡ Some e
  edge_of s instr o n e at op_is edge =
      let same_instr : edge.instr ≡ instr = some_is (sym edge.at_spot ∙ at) in
      subst (λ o. slice_get (edges o) n ≡ Some e) (ap (λ (i : Instr). i.op) same_instr ∙ op_is) edge.is_edge
    where
      some_is : {a b : Instr} → Some a ≡ Some b → a ≡ b
      some_is e = cc

  no_edge : (frame : BodyFrame) (instr : Instr) (o : Op) (to : Spot) → instr_at m frame.spot ≡ Some instr → instr.op ≡ o → edges o ≡ [] → GoesWell frame to
  no_edge frame instr o to at op_is none n e edge =
      absurd (empty (subst (λ es. slice_get es n ≡ Some e) none (edge_of frame.spot instr o n e at op_is edge)))
    where
      empty : slice_get [] n ≡ Some e → ⊥
      empty e = absurd (cc)

  -- what is computed is computed by an instruction without edges
  computed_edges : (here : Here) (picks : List ℕ) (o : Op) (x : Value) → computed m here picks o ≡ Gives x → edges o ≡ []
  computed_edges here picks (op.Invoke call normal unwind) x e = absurd (cc)
  computed_edges here picks (op.Jump to) x e = absurd (cc)
  computed_edges here picks (op.Branch c so otherwise) x e = absurd (cc)
  computed_edges here picks (op.Switch on other cases) x e = absurd (cc)
  computed_edges here picks _ x e = refl

module _ (m : Module) (formed : IsWellFormed m) (held : Fact → Bool) (is : JustifiesItself m held) where
  -- ---- edges

  -- along an edge that neither a literal nor a call keeps from being taken
  goes_by : (frame : BodyFrame) (instr : Instr) (o : Op) (n : ℕ) (e : Edge) (to : Spot) → instr_at m frame.spot ≡ Some instr → instr.op ≡ o →
      held (dead_at frame.spot) ≡ false → slice_get (edges o) n ≡ Some e → (takes_other m o e.way || is_unused m held o e.way) ≡ false →
      to ≡ behind_phis m e.to.0 → GoesWell m held frame to
  goes_by frame instr o n e to at op_is live is_edge free arrives _ _ _ = record {
    number = n;
    edge = e;
    is_edge = record { instr = instr; at_spot = at; is_edge = subst (λ o. slice_get (edges o) n ≡ Some e) (sym op_is) is_edge };
    live = live_edge m formed held is frame.spot instr e at live (never_at m formed held is instr o e op_is free);
    arrives = arrives;
  }

  -- a frame that was in `before` over these frames goes along an edge
  crossing_arrives : (before front : List Frame) (was : BodyFrame) (way : Crossing) (t : State) (frame : BodyFrame) (below : List Frame) →
      before ≡ front ++ (Body was ∷ below) → GoesWell m held was (behind_phis m way.target) → (moves : List Move) → IsCrossing m way moves →
      Arrived m held before (after (with_stack t (Body frame ∷ below)) moves).stack
  crossing_arrives before front was way t frame below e well [] cross = absurd cross
  crossing_arrives before front was way t frame below e well (Sets v x ∷ moves) cross =
      crossing_arrives before front was way t (with_value v x frame) below e well moves cross.1
  crossing_arrives before front was way t frame below e well (Goes s ∷ moves) cross =
      subst (λ rest. Arrived m held before (after (with_stack t (Body (at_spot s frame) ∷ below)) rest).stack) (sym cross.1)
      (arrived_at m held before front below was (at_spot s frame) e (subst (GoesWell m held was) (sym cross.0) well))
  crossing_arrives before front was way t frame below e well (Says what ∷ moves) cross = absurd cross
  crossing_arrives before front was way t frame below e well (Grows shape ∷ moves) cross = absurd cross
  crossing_arrives before front was way t frame below e well (Turns block life' ∷ moves) cross = absurd cross
  crossing_arrives before front was way t frame below e well (Fills block bytes ∷ moves) cross = absurd cross
  crossing_arrives before front was way t frame below e well (Keeps x ∷ moves) cross = absurd cross
  crossing_arrives before front was way t frame below e well (Takes x ∷ moves) cross = absurd cross
  crossing_arrives before front was way t frame below e well (Begins other ∷ moves) cross = absurd cross
  crossing_arrives before front was way t frame below e well (Ends ∷ moves) cross = absurd cross

  onward_arrives : (before front : List Frame) (t : State) (mem : Memory) (frame now : BodyFrame) (below : List Frame) (values : ℕ → Option Value)
      (instr : Instr) (o : Op) → before ≡ front ++ (Body frame ∷ below) → held (dead_at frame.spot) ≡ false → instr_at m frame.spot ≡ Some instr →
      instr.op ≡ o → call_has m held NoReturn o ≡ false → (moves : List Move) → IsOnward m mem frame values o moves →
      Arrived m held before (after (with_stack t (Body now ∷ below)) moves).stack
  onward_arrives before front t mem frame now below values instr (op.Call call) e live at op_is may moves onward =
      subst (λ moves. Arrived m held before (after (with_stack t (Body now ∷ below)) moves).stack) (sym onward)
      (arrived_at m held before front below frame (at_spot (behind_call frame.spot) now) e
      (no_edge m held frame instr (op.Call call) (behind_call frame.spot) at op_is refl))
  onward_arrives before front t mem frame now below values instr (op.Invoke call normal unwind) e live at op_is may moves onward =
      crossing_arrives before front frame (crossing m mem frame values normal.0) t now below e
      (goes_by frame instr (op.Invoke call normal unwind) 0 (edge way.Normal normal) (behind_phis m normal.0) at op_is live refl may refl) moves onward
  onward_arrives before front t mem frame now below values instr _ e live at op_is may moves onward = absurd onward

  going_arrives : (before front : List Frame) (t : State) (mem : Memory) (frame : BodyFrame) (below : List Frame) (instr : Instr) (x : Option Value) →
      before ≡ front ++ (Body frame ∷ below) → held (dead_at frame.spot) ≡ false → instr_at m frame.spot ≡ Some instr →
      call_has m held NoReturn instr.op ≡ false → (moves : List Move) → IsGoingOn m mem frame instr x moves →
      Arrived m held before (after (with_stack t (Body frame ∷ below)) moves).stack
  going_arrives before front t mem frame below instr x e live at may moves (rest, onward, first) = by instr.result x first
    where
      by : (result : Option ValueId) (x' : Option Value) → SetsFirst result x' rest moves →
          Arrived m held before (after (with_stack t (Body frame ∷ below)) moves).stack
      by None x' sets =
          subst (λ moves. Arrived m held before (after (with_stack t (Body frame ∷ below)) moves).stack) (sym sets)
          (onward_arrives before front t mem frame frame below (with_result instr.result x frame.values) instr instr.op e live at refl may rest onward)
      by (Some v) None sets = absurd sets
      by (Some v) (Some y) sets =
          subst (λ moves. Arrived m held before (after (with_stack t (Body frame ∷ below)) moves).stack) (sym sets)
          (onward_arrives before front t mem frame (with_value v.0 y frame) below (with_result instr.result x frame.values) instr instr.op e live at refl may
          rest onward)

  coming_arrives : (before front : List Frame) (t : State) (mem : Memory) (body : Option ℕ) (top : Frame) (below : List Frame) (x : Option Value) →
      before ≡ front ++ below → AreLinked m top below → StandLive held below → Lacks m formed held is NoReturn Noreturn (active top) →
      (moves : List Move) → IsComing m mem body below x moves → Arrived m held before (after (with_stack t below) moves).stack
  coming_arrives before front t mem body top [] x e h live may moves comes = absurd comes
  coming_arrives before front t mem body top (Outside under ∷ below) x e h live may moves comes =
      subst (λ moves. Arrived m held before (after (with_stack t (Outside under ∷ below)) moves).stack) (sym comes) (by x)
    where
      by : (x : Option Value) → Arrived m held before (after (with_stack t (Outside under ∷ below)) (takes x)).stack
      by None = arrived_outside m held before below under
      by (Some x) = arrived_outside m held before below (with_hand x under)
  coming_arrives before front t mem body top (Body under ∷ below) x e h live may moves (instr, y, at, back, goes) =
      going_arrives before front t mem under below instr y e live.0 at (sym (has_over m formed held is NoReturn Noreturn top under below instr h at) ∙ may)
      moves goes

  -- ---- unwindings

  landing_well : (under : BodyFrame) (picks rest : List ℕ) (block : ℕ) (found : Option Instr) → held (dead_at under.spot) ≡ false →
      instr_at m under.spot ≡ found → ((instr : Instr) → found ≡ Some instr → call_has m held NoUnwind instr.op ≡ false) →
      landing_in m picks found ≡ Lands block rest → GoesWell m held under (behind_phis m block)
  landing_well under picks rest block None live at may lands = absurd (cc)
  landing_well under picks rest block (Some instr) live at may lands = by instr.op refl lands
    where
      by : (o : Op) → instr.op ≡ o → landing_by m picks o ≡ Lands block rest → GoesWell m held under (behind_phis m block)
      by (op.Invoke call normal unwind) op_is lands =
          goes_by under instr (op.Invoke call normal unwind) 1 (edge way.Unwind unwind) (behind_phis m block) at op_is live refl
          (subst (λ o. call_has m held NoUnwind o ≡ false) op_is (may instr refl))
          (ap (behind_phis m) (sym (lands_at (catches_all m unwind.0) picks rest unwind.0 block lands)))
      by _ op_is lands = absurd (cc)

  through_arrives : (before front : List Frame) (t : State) (mem : Memory) (top : Frame) (below : List Frame) → before ≡ front ++ below →
      AreLinked m top below → StandLive held below → Lacks m formed held is NoUnwind Nounwind (active top) → (moves : List Move) →
      IsThrough m mem below moves → Arrived m held before (after (with_stack t below) moves).stack
  through_arrives before front t mem top [] e h live may moves through = absurd through
  through_arrives before front t mem top (Outside under ∷ below) e h live may moves through =
      subst (λ moves. Arrived m held before (after (with_stack t (Outside under ∷ below)) moves).stack) (sym through)
      (arrived_outside m held before below under)
  through_arrives before front t mem top (Body under ∷ below) e h live may moves through =
      elim through [
        | inl (picks, rest, block, lands, cross) ↦
            crossing_arrives before front under (crossing m mem under under.values block) t under below e
            (landing_well under picks rest block (instr_at m under.spot) live.0 refl
            (λ instr at. sym (has_over m formed held is NoUnwind Nounwind top under below instr h at) ∙ may) lands) moves cross
        | inr (picks, rest, more, passes, eq, goes) ↦
            let u = with_stack t (Body under ∷ below) in
            let may_under = passing_may m formed held is top under below picks rest (instr_at m under.spot) h live may refl passes in
            subst (λ moves. Arrived m held before (after u moves).stack) (sym eq)
            (through_arrives before (front ++ (Body under ∷ [])) (moved u Ends) mem (Body under) below (e ∙ split_last front below (Body under)) h.2 live.1
            may_under more goes)
      ]

  -- ---- markers

  turns_arrives : (before : List Frame) (t : State) (mem : Memory) (is_end : Bool) (d : Datum) (moves : List Move) →
      ((u : State) → u.stack ≡ t.stack → Arrived m held before (after u moves).stack) → Arrived m held before (after t (turns mem is_end d moves)).stack
  turns_arrives before t mem is_end (datum.Ptr block offset) moves rest = by (is_dead (mem.life block)) is_end
    where
      by : (gone is_end : Bool) → Arrived m held before (after t (if gone then moves else (if is_end then Turns block Closed ∷ moves
          else Turns block Live ∷ Fills block (λ at. byte.Undef) ∷ moves))).stack
      by true is_end = rest t refl
      by false true = rest (moved t (Turns block Closed)) refl
      by false false = rest (moved (moved t (Turns block Live)) (Fills block (λ at. byte.Undef))) refl
  turns_arrives before t mem is_end datum.Null moves rest = rest t refl
  turns_arrives before t mem is_end datum.Undef moves rest = rest t refl
  turns_arrives before t mem is_end datum.Poison moves rest = rest t refl
  turns_arrives before t mem is_end (datum.Int bits) moves rest = rest t refl
  turns_arrives before t mem is_end datum.Pair moves rest = rest t refl

  marks_arrives : (before : List Frame) (t : State) (mem : Memory) (is_end : Bool) (ws : List Written) (xs : List Value) (moves : List Move) →
      ((u : State) → u.stack ≡ t.stack → Arrived m held before (after u moves).stack) →
      Arrived m held before (after t (marks_last m mem is_end ws xs moves)).stack
  marks_arrives before t mem is_end [] xs moves rest = rest t refl
  marks_arrives before t mem is_end (w ∷ []) [] moves rest = rest t refl
  marks_arrives before t mem is_end (w ∷ []) (x ∷ []) moves rest = by (is_alloca_result m w.val)
    where
      by : (b : Bool) → Arrived m held before (after t (if b then turns mem is_end x.datum moves else moves)).stack
      by true = turns_arrives before t mem is_end x.datum moves rest
      by false = rest t refl
  marks_arrives before t mem is_end (w ∷ []) (x ∷ y ∷ xs) moves rest = rest t refl
  marks_arrives before t mem is_end (w ∷ v ∷ ws) [] moves rest = rest t refl
  marks_arrives before t mem is_end (w ∷ v ∷ ws) (x ∷ xs) moves rest = marks_arrives before t mem is_end (v ∷ ws) xs moves rest

  -- ---- steps

  -- what is given of each step: what the first induction shows
  abbrev pub Known : Done → Type 0
  Known d = IsLinked m d.before.stack × StandLive held d.before.stack × AllByRecursion (Right m formed held is) d.events

  abbrev Asked : State → List Move → Type 0
  Asked t moves = Known (done t moves) → TakesLiveEdges m held (done t moves)

  -- the step's stack is known, and what it leaves
  arriving : (t : State) (stack : List Frame) (moves : List Move) → t.stack ≡ stack → Arrived m held stack (after (with_stack t stack) moves).stack →
      TakesLiveEdges m held (done t moves)
  arriving t stack moves e arrived frame now n edge goes =
      let here = subst (λ s. Arrived m held s (after (with_stack t s) moves).stack) (sym e) arrived in
      here frame now goes.above goes.below goes.before goes.next n edge

  says_arrive : (before : List Frame) (t : State) (whats : List What) (moves : List Move) → Arrived m held before (after t moves).stack →
      Arrived m held before (after t (says whats moves)).stack
  says_arrive before t [] moves arrived = arrived
  says_arrive before t (what ∷ whats) moves arrived = says_arrive before t whats moves arrived

  module _ (t : State) where
    body_arrives : (frame : BodyFrame) (below : List Frame) (instr : Instr) → t.stack ≡ Body frame ∷ below → instr_at m frame.spot ≡ Some instr →
        EachKind m (here_in t frame below instr) (Asked t)
    body_arrives frame below instr stack at =
        let here = here_in t frame below instr in
        let old = Body frame ∷ below in
        let u = with_stack t old in
        let stays = λ (v : ℕ) (x : Value) (none : GoesWell m held frame (behind frame.spot)).
        arrived_at m held old [] below frame (at_spot (behind frame.spot) (with_value v x frame)) refl none in record {
          computing = λ picks x v gives has given. arriving t old (Sets v.0 x ∷ Goes (behind frame.spot) ∷ []) stack
              (stays v.0 x (no_edge m held frame instr instr.op _ at refl (computed_edges m held here picks instr.op x gives)));
          comparing = λ pred flagged a b x y z v op_is at_a at_b bare has given. arriving t old (Says (Capture x.origins) ∷ Says (Capture y.origins) ∷ Sets v.0
              z ∷ Goes (behind frame.spot) ∷ []) stack
              (stays v.0 z (no_edge m held frame instr (op.Icmp pred flagged a b) _ at op_is refl));
          exposing = λ flagged a x z v op_is at_a bare has given. arriving t old (Says (Capture x.origins) ∷ Sets v.0 z ∷ Goes (behind frame.spot) ∷ []) stack
              (stays v.0 z (no_edge m held frame instr (op.Cast cast.PtrToInt flagged a) _ at op_is refl));
          allocating = λ ty count written align base size v op_is can has given. arriving t old
              (Grows (alloca_shape here v.0 base size) ∷ Sets v.0 (plain (datum.Ptr t.memory.count 0)) ∷ Goes (behind frame.spot) ∷ []) stack
              (stays v.0 (plain (datum.Ptr t.memory.count 0)) (no_edge m held frame instr (op.Alloca ty count written) _ at op_is refl));
          loading = λ ptr align volatile p place x v op_is at_p can loaded has given. arriving t old (says (Read place.block p.origins ∷ hidden volatile p)
              (Sets v.0 x ∷ Goes (behind frame.spot) ∷ [])) stack
              (says_arrive old u (Read place.block p.origins ∷ hidden volatile p) (Sets v.0 x ∷ Goes (behind frame.spot) ∷ [])
              (stays v.0 x (no_edge m held frame instr (op.Load ptr align volatile) _ at op_is refl)));
          storing = λ val ptr align volatile x p place op_is at_val at_ptr can given. arriving t old
              (says (Write place.block p.origins ∷ Capture x.origins ∷ hidden volatile p)
              (Fills place.block (bytes_with t.memory place x) ∷ Goes (behind frame.spot) ∷ [])) stack
              (says_arrive old u (Write place.block p.origins ∷ Capture x.origins ∷ hidden volatile p)
              (Fills place.block (bytes_with t.memory place x) ∷ Goes (behind frame.spot) ∷ [])
              (arrived_at m held old [] below frame (at_spot (behind frame.spot) frame) refl
              (no_edge m held frame instr (op.Store val ptr align volatile) _ at op_is refl)));
          branching = λ picks to moves leads gives given.
              let way = led m held here instr.op to leads in
              let live = subst (StandLive held) stack given.1 in
              arriving t old moves stack (crossing_arrives old [] frame (crossing m t.memory frame frame.values to) t frame below refl
              (goes_by frame instr instr.op way.number way.edge (behind_phis m to) at refl live.0 way.is_edge way.free (ap (behind_phis m) (sym way.leads)))
              moves
              (crossed m (crossing m t.memory frame frame.values to) picks moves gives));
          calling_body = λ call xs args f is_call reads inner enters given.
              let new = Body (body_frame m t (passing_at here call xs) f args) in
              arriving t old (Begins new ∷ Says (Enter f) ∷ []) stack (arrived_new m held old new);
          calling_outside = λ call callee xs is_call at_callee reads inner given.
              let args = passed_to m t (passing_at here call xs) in
              let new = Outside (record { call = begun_by m t (passing_at here call xs) args; hand = args }) in
              arriving t old (Says (Capture callee.origins) ∷ Begins new ∷ []) stack (arrived_new m held old new);
          marking = λ call f xs picks moves is_call callee lifetime reads goes given.
              let live = subst (StandLive held) stack given.1 in
              arriving t old (marks_last m t.memory (is_end_name f.name) call.args xs moves) stack
              (marks_arrives old u t.memory (is_end_name f.name) call.args xs moves (λ w e. onto_stack w old moves e
              (going_arrives old [] w t.memory frame below instr None refl live.0 at (marker_returns m held instr.op f callee lifetime) moves
              (went_on m t.memory frame instr None picks moves goes))));
          returning = λ val x picks moves op_is reads back given.
              let mem = without_allocas frame.call.number t.memory in
              let may = subst (λ s. MayHappen m formed held is (map active s) (Return x)) stack given.2.0 in
              arriving t old (Says (Return x) ∷ Ends ∷ moves) stack (coming_arrives old (Body frame ∷ []) (moved u Ends) mem (Some frame.func) (Body frame)
              below x refl
              (subst (IsLinked m) stack given.0) (subst (StandLive held) stack given.1).1 may moves (came m mem (Some frame.func) below x picks moves back));
          unwinding = λ val picks moves op_is gives given.
              let may = subst (λ s. MayHappen m formed held is (map active s) Unwind) stack given.2.0 in
              arriving t old (Says Unwind ∷ Ends ∷ moves) stack (through_arrives old (Body frame ∷ []) (moved u Ends) t.memory (Body frame) below refl
              (subst (IsLinked m) stack given.0) (subst (StandLive held) stack given.1).1 may moves (went_through m t.memory below picks moves gives));
        }
      where
        onto_stack : (w : State) (stack : List Frame) (moves : List Move) → w.stack ≡ stack →
            Arrived m held stack (after (with_stack w stack) moves).stack → Arrived m held stack (after w moves).stack
        onto_stack w stack moves e arrived = subst (λ s. Arrived m held stack (after (with_stack w s) moves).stack) (sym e) arrived

    taking_arrives : (before : List Frame) (u : State) (frame : OutsideFrame) (below : List Frame) (xs : List Value) →
        Arrived m held before (after (with_stack u (Outside frame ∷ below)) (taking xs)).stack
    taking_arrives before u frame below [] = arrived_outside m held before below frame
    taking_arrives before u frame below (x ∷ xs) = taking_arrives before u (with_hand x frame) below xs

    outside_arrives : (frame : OutsideFrame) (below : List Frame) → t.stack ≡ Outside frame ∷ below → EachAct m t frame below (Asked t)
    outside_arrives frame below stack =
        let old = Outside frame ∷ below in
        let u = with_stack t old in
        let stays = arrived_outside m held old below frame in record {
          reading = λ p size can given. arriving t old (Says (Read (block_in p.datum) p.origins) ∷ taking (pointers_in [] (reads_at t.memory p size))) stack
              (taking_arrives old t frame below (pointers_in [] (reads_at t.memory p size)));
          writing = λ p bytes can given. arriving t old (says (Write (block_in p.datum) p.origins ∷ captures_in bytes)
              (Fills (block_in p.datum) (written_at t.memory p bytes) ∷ [])) stack (says_arrive old u (Write (block_in p.datum) p.origins ∷ captures_in bytes)
              (Fills (block_in p.datum) (written_at t.memory p bytes) ∷ []) stays);
          hidden_reading = λ given. arriving t old (Says HiddenRead ∷ []) stack stays;
          hidden_writing = λ given. arriving t old (Says HiddenWrite ∷ []) stack stays;
          making = λ base size can given. arriving t old (Grows (record { size = size; base = base; kind = Heap }) ∷ []) stack stays;
          freeing = λ block can given. arriving t old (Says (Free block) ∷ Turns block Dead ∷ []) stack stays;
          keeping = λ x can given. arriving t old (Says (Capture x.origins) ∷ Keeps x ∷ []) stack stays;
          entering = λ f xs args is_open passes enters given.
              let new = Body (body_frame m t (passing_in m f xs) f args) in
              arriving t old (Begins new ∷ Says (Enter f) ∷ []) stack (arrived_new m held old new);
          returning = λ x picks moves can back given.
              let mem = without_allocas frame.call.number t.memory in
              let may = subst (λ s. MayHappen m formed held is (map active s) (Return x)) stack given.2.0 in
              arriving t old (Says (Return x) ∷ Ends ∷ moves) stack (coming_arrives old (Outside frame ∷ []) (moved u Ends) mem None (Outside frame) below x
              refl
              (subst (IsLinked m) stack given.0) (subst (StandLive held) stack given.1).1 may moves (came m mem None below x picks moves back));
          unwinding = λ picks moves gives given.
              let may = subst (λ s. MayHappen m formed held is (map active s) Unwind) stack given.2.0 in
              arriving t old (Says Unwind ∷ Ends ∷ moves) stack (through_arrives old (Outside frame ∷ []) (moved u Ends) t.memory (Outside frame) below refl
              (subst (IsLinked m) stack given.0) (subst (StandLive held) stack given.1).1 may moves (went_through m t.memory below picks moves gives));
        }

    -- each step goes along live edges alone
    pub edges_step : (choice : Choice) → OnOutcome (Asked t) (plan m t choice)
    edges_step choice = by_step m t (Asked t) (record { body = body_arrives; outside = outside_arrives }) choice
