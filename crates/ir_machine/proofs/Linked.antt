-- The frames of every run are linked: a condition for each move, and each step meets it.
use Rattle.std.proofs.Common.{◌≡◌, ℕ, drop, ◌==◌, Bool, true, false, if◌then◌else◌, List, [], ◌∷◌, slice_get, map, Option, None, Some, is_some, refl, sym, ap}
use Rattle.std.proofs.Common.{subst, ◌∙◌, inl, inr, zero, suc}
use Rattle.std.specs.List.{AllByRecursion}
use Rattle.attr_ids.specs.declared.ids.BlockId.{BlockId}
use Rattle.attr_ids.specs.declared.ids.ValueId.{ValueId}
use Rattle.shelf.proofs.Every.{every_always}
use Rattle.ir_module.specs.declared.op.Call.{Call}
use Rattle.ir_module.specs.declared.op.Case.{Case}
use Rattle.ir_module.specs.declared.op.Op.{Op}
use Rattle.ir_module.specs.declared.op.Op.TheVariants as op
use Rattle.ir_module.specs.declared.op.Instr.{Instr}
use Rattle.ir_module.specs.declared.op.Written.{Written}
use Rattle.ir_module.specs.declared.edge.Edge.{Edge}
use Rattle.ir_module.specs.declared.edge.Way.TheVariants as way
use Rattle.ir_module.specs.declared.module.Spot.{Spot}
use Rattle.ir_module.specs.declared.module.Module.{Module}
use Rattle.ir_module.specs.Places.{instr_at, IsIn, behind_call}
use Rattle.ir_module.specs.Edges.{edge, edges, case_edge, catches_all}
use Rattle.ir_module.specs.Calls.{call_of, is_call}
use Rattle.ir_module.specs.WellFormed.{IsWellFormed}
use Rattle.ir_machine.specs.declared.choice.Value.{Value}
use Rattle.ir_machine.specs.declared.choice.Datum.{Datum}
use Rattle.ir_machine.specs.declared.choice.Datum.TheVariants as datum
use Rattle.ir_machine.specs.declared.choice.Byte.TheVariants as byte
use Rattle.ir_machine.specs.declared.choice.Choice.{Choice}
use Rattle.ir_machine.specs.Memory.{Memory, Live, Closed, is_dead, without_allocas}
use Rattle.ir_machine.specs.Frames.{BodyFrame, OutsideFrame, Frame, Body, Outside, State, What, Event, active, Enter, Read, Write, Capture, Return, Unwind}
use Rattle.ir_machine.specs.Moves.{Move, Says, Grows, Turns, Fills, Keeps, Sets, Goes, Takes, Begins, Ends, moved, says, with_value, set_on_top, gone_on_top}
use Rattle.ir_machine.specs.Moves.{taken_on_top, under_top}
use Rattle.ir_machine.specs.Reading.{pick, Here, behind}
use Rattle.ir_machine.specs.Values.{plain}
use Rattle.ir_machine.specs.Access.{alloca_shape, hidden, bytes_with}
use Rattle.ir_machine.specs.Edges.{is_int_of, case_target, crossing, Crossing, behind_phis, phi_count, first_instrs}
use Rattle.ir_machine.specs.Calls.{is_end_name, marks_last, turns, is_alloca_result, Lands, Passes, lands_or, landing_by, landing_in, takes, with_result}
use Rattle.ir_machine.specs.Calls.{body_frame}
use Rattle.ir_machine.specs.Outside.{pointers_in, reads_at, taking, captures_in}
use Rattle.ir_machine.specs.Steps.{plan}
use Rattle.ir_machine.specs.Runs.{IsOpening, run}
use Rattle.ir_machine.specs.Links.{CallsBodyIn, RunsItsCallee, AreLinked, IsLinked}
use Rattle.ir_machine.proofs.Basics.{OnOutcome, Along, along_says, Law, Shown, run_law, outcome_mapped}
use Rattle.ir_machine.proofs.Instructions.{Leads, EachKind, EachAct, by_step, here_in, passing_at, passing_in}
use Rattle.ir_machine.proofs.Moving.{IsCrossing, crossed, IsOnward, SetsFirst, IsGoingOn, went_on, IsComing, came, IsThrough, went_through}
use Rattle.ir_machine.proofs.Linking.{body_begins, open_has_blocks, inner_has_blocks, edge_leads_in, behind_in}

-- the state with this stack
abbrev pub with_stack : State → List Frame → State
with_stack t stack = record t { stack = stack }

-- a state may be taken with its stack as it is known
pub onto : (C : State → Move → Type 0) (t : State) (stack : List Frame) (moves : List Move) → t.stack ≡ stack → Along C (with_stack t stack) moves →
    Along C t moves
onto C t stack moves e along = subst (λ s. Along C (with_stack t s) moves) (sym e) along

module _ (m : Module) (formed : IsWellFormed m) where
  abbrev pub Linked : State → Type 0
  Linked t = IsLinked m t.stack

  abbrev StandsOn : List Frame → Spot → Type 0
  StandsOn [] s = Unit {0}
  StandsOn (Body frame ∷ below) s = IsIn m frame.func s
  StandsOn (Outside frame ∷ below) s = Unit {0}

  abbrev Links : State → Move → Type 0
  Links t (Says what) = Unit {0}
  Links t (Grows shape) = Unit {0}
  Links t (Turns block life') = Unit {0}
  Links t (Fills block bytes) = Unit {0}
  Links t (Keeps x) = Unit {0}
  Links t (Sets v x) = Unit {0}
  Links t (Goes s) = StandsOn t.stack s
  Links t (Takes x) = Unit {0}
  Links t (Begins frame) = AreLinked m frame t.stack
  Links t Ends = under_top t.stack ≡ [] → ⊥

  -- ---- each move
  set_linked : (v : ℕ) (x : Value) (stack : List Frame) → IsLinked m stack → IsLinked m (set_on_top v x stack)
  set_linked v x [] h = h
  set_linked v x (Outside f ∷ below) h = h
  set_linked v x (Body f ∷ []) h = h
  set_linked v x (Body f ∷ Body g ∷ below) h = h
  set_linked v x (Body f ∷ Outside g ∷ below) h = h

  gone_linked : (s : Spot) (stack : List Frame) → StandsOn stack s → IsLinked m stack → IsLinked m (gone_on_top s stack)
  gone_linked s [] is h = h
  gone_linked s (Outside f ∷ below) is h = h
  gone_linked s (Body f ∷ []) is h = ((h.0.0, is), h.1)
  gone_linked s (Body f ∷ Body g ∷ below) is h = ((h.0.0, is), h.1, h.2)
  gone_linked s (Body f ∷ Outside g ∷ below) is h = ((h.0.0, is), h.1, h.2)

  taken_linked : (x : Value) (stack : List Frame) → IsLinked m stack → IsLinked m (taken_on_top x stack)
  taken_linked x [] h = h
  taken_linked x (Body f ∷ below) h = h
  taken_linked x (Outside f ∷ []) h = h
  taken_linked x (Outside f ∷ Body g ∷ below) h = h
  taken_linked x (Outside f ∷ Outside g ∷ below) h = h

  under_linked : (stack : List Frame) → (under_top stack ≡ [] → ⊥) → IsLinked m stack → IsLinked m (under_top stack)
  under_linked [] some h = h
  under_linked (top ∷ []) some h = absurd (some refl)
  under_linked (top ∷ under ∷ below) some h = h.2

  linked_moved : (t : State) (x : Move) → Linked t → Links t x → Linked (moved t x)
  linked_moved t (Says what) h c = h
  linked_moved t (Grows shape) h c = h
  linked_moved t (Turns block life') h c = h
  linked_moved t (Fills block bytes) h c = h
  linked_moved t (Keeps x) h c = h
  linked_moved t (Sets v x) h c = set_linked v x t.stack h
  linked_moved t (Goes s) h c = gone_linked s t.stack c h
  linked_moved t (Takes x) h c = taken_linked x t.stack h
  linked_moved t (Begins frame) h c = c
  linked_moved t Ends h c = under_linked t.stack c h

  run_their_callees : (top : Frame) (below : List Frame) → AreLinked m top below → AllByRecursion (RunsItsCallee m) (map active (top ∷ below))
  run_their_callees top [] h = (h.0.0, tt)
  run_their_callees top (under ∷ below) h = (h.0.0, run_their_callees under below h.2)

  all_callees : (stack : List Frame) → IsLinked m stack → AllByRecursion (RunsItsCallee m) (map active stack)
  all_callees [] h = absurd h
  all_callees (top ∷ below) h = run_their_callees top below h

  abbrev pub RunTheirCallees : Event → Type 0
  RunTheirCallees e = AllByRecursion (RunsItsCallee m) e.calls

  link_law : Law Linked Links RunTheirCallees
  link_law = record { move = linked_moved; happens = λ t what h c. all_callees t.stack h }

  -- ---- where a frame may go

  case_leads : (n : ℕ) (other : BlockId) (cases : List Case) (xs : List Value) →
      (k : ℕ) × (e : Edge) × (slice_get (edge way.Other other ∷ map case_edge cases) k ≡ Some e) × (e.to.0 ≡ (case_target n other cases xs).0)
  case_leads n other [] xs = (0, edge way.Other other, refl, refl)
  case_leads n other (case ∷ cases) [] = (0, edge way.Other other, refl, refl)
  case_leads n other (case ∷ cases) (x ∷ xs) = by (is_int_of n x.datum) (case_leads n other cases xs)
    where
      by : (b : Bool) → ((k : ℕ) × (e : Edge) × (slice_get (edge way.Other other ∷ map case_edge cases) k ≡ Some e) × (e.to.0 ≡
          (case_target n other cases xs).0)) →
          (k : ℕ) × (e : Edge) × (slice_get (edge way.Other other ∷ case_edge case ∷ map case_edge cases) k ≡ Some e) ×
          (e.to.0 ≡ (if b then case.to else case_target n other cases xs).0)
      by true later = (1, case_edge case, refl, refl)
      by false later = after_first later.0 later.1 later.2 later.3
        where
          after_first : (k : ℕ) (e : Edge) → slice_get (edge way.Other other ∷ map case_edge cases) k ≡ Some e → e.to.0 ≡ (case_target n other cases xs).0 →
              (k : ℕ) × (e : Edge) × (slice_get (edge way.Other other ∷ case_edge case ∷ map case_edge cases) k ≡ Some e) × (e.to.0 ≡
              (case_target n other cases xs).0)
          after_first zero e at to = (0, e, at, to)
          after_first (suc k) e at to = (suc (suc k), e, at, to)

  -- a branch goes along an edge
  leads_by_edge : (here : Here) (o : Op) (to : ℕ) → Leads m here o to → (k : ℕ) × (e : Edge) × (slice_get (edges o) k ≡ Some e) × (e.to.0 ≡ to)
  leads_by_edge here (op.Jump to) block is = (0, edge way.Jump to, refl, sym is)
  leads_by_edge here (op.Branch c so otherwise) block (x, bits, at, int, is) = by (bits == 0) is
    where
      by : (b : Bool) → block ≡ (if b then otherwise.0 else so.0) →
          (k : ℕ) × (e : Edge) × (slice_get (edges (op.Branch c so otherwise)) k ≡ Some e) × (e.to.0 ≡ block)
      by true is = (1, edge way.No otherwise, refl, sym is)
      by false is = (0, edge way.Yes so, refl, sym is)
  leads_by_edge here (op.Switch on other cases) block (x, bits, xs, at, are, int, is) =
      let found = case_leads bits other cases xs in (found.0, found.1, found.2, found.3 ∙ sym is)
  leads_by_edge here _ block is = absurd is

  -- ---- steps

  whats_link : (u : State) (whats : List What) (moves : List Move) → Along Links u moves → Along Links u (says whats moves)
  whats_link u whats moves rest = along_says Links u whats moves (every_always (λ what. Unit {0}) whats (λ what. tt)) rest

  none_link : (u : State) (moves : List Move) → moves ≡ [] → Along Links u moves
  none_link u moves is = subst (Along Links u) (sym is) tt

  -- a module frame on top goes along an edge
  crossing_links : (way : Crossing) (t : State) (frame : BodyFrame) (below : List Frame) → IsIn m frame.func (behind_phis m way.target) → (moves : List Move) →
      IsCrossing m way moves → Along Links (with_stack t (Body frame ∷ below)) moves
  crossing_links way t frame below stands [] is = absurd is
  crossing_links way t frame below stands (Sets v x ∷ moves) is = (tt, crossing_links way t (with_value v x frame) below stands moves is.1)
  crossing_links way t frame below stands (Goes s ∷ moves) is = (
    subst (λ s. IsIn m frame.func s) (sym is.0) stands,
    none_link (moved (with_stack t (Body frame ∷ below)) (Goes s)) moves is.1,
  )
  crossing_links way t frame below stands (Says what ∷ moves) is = absurd is
  crossing_links way t frame below stands (Grows shape ∷ moves) is = absurd is
  crossing_links way t frame below stands (Turns block life' ∷ moves) is = absurd is
  crossing_links way t frame below stands (Fills block bytes ∷ moves) is = absurd is
  crossing_links way t frame below stands (Keeps x ∷ moves) is = absurd is
  crossing_links way t frame below stands (Takes x ∷ moves) is = absurd is
  crossing_links way t frame below stands (Begins other ∷ moves) is = absurd is
  crossing_links way t frame below stands (Ends ∷ moves) is = absurd is

  -- the block of an edge of the instruction at which a frame stands
  edge_in : (f : ℕ) (s : Spot) (instr : Instr) (o : Op) (k : ℕ) (e : Edge) → IsIn m f s → instr_at m s ≡ Some instr → instr.op ≡ o →
      slice_get (edges o) k ≡ Some e →
      IsIn m f (behind_phis m e.to.0)
  edge_in f s instr o k e stands at is leads =
      edge_leads_in m f s instr k (phi_count (first_instrs m e.to.0)) e formed stands at (subst (λ o. slice_get (edges o) k ≡ Some e) (sym is) leads)

  onward_links : (t : State) (mem : Memory) (frame now : BodyFrame) (below : List Frame) (values : ℕ → Option Value) (instr : Instr) (o : Op) →
      now.func ≡ frame.func →
      IsIn m frame.func frame.spot → instr_at m frame.spot ≡ Some instr → instr.op ≡ o → (moves : List Move) → IsOnward m mem frame values o moves →
      Along Links (with_stack t (Body now ∷ below)) moves
  onward_links t mem frame now below values instr (op.Call call) func stands at is moves onward =
      subst (Along Links (with_stack t (Body now ∷ below))) (sym onward)
      (subst (λ f. IsIn m f (behind_call frame.spot)) (sym func) (behind_in m frame.func frame.spot instr call formed stands at is), tt)
  onward_links t mem frame now below values instr (op.Invoke call normal unwind) func stands at is moves onward =
      crossing_links (crossing m mem frame values normal.0) t now below
      (subst (λ f. IsIn m f (behind_phis m normal.0)) (sym func)
      (edge_in frame.func frame.spot instr (op.Invoke call normal unwind) 0 (edge way.Normal normal) stands at is refl)) moves onward
  onward_links t mem frame now below values instr _ func stands at is moves onward = absurd onward

  -- a body goes on at its call
  going_links : (t : State) (mem : Memory) (frame : BodyFrame) (below : List Frame) (instr : Instr) (x : Option Value) → IsIn m frame.func frame.spot →
      instr_at m frame.spot ≡ Some instr → (moves : List Move) → IsGoingOn m mem frame instr x moves → Along Links (with_stack t (Body frame ∷ below)) moves
  going_links t mem frame below instr x stands at moves (rest, onward, first) = by instr.result x first
    where
      by : (result : Option ValueId) (x' : Option Value) → SetsFirst result x' rest moves → Along Links (with_stack t (Body frame ∷ below)) moves
      by None x' is =
          subst (Along Links (with_stack t (Body frame ∷ below))) (sym is)
          (onward_links t mem frame frame below (with_result instr.result x frame.values) instr instr.op refl stands at refl rest onward)
      by (Some v) None is = absurd is
      by (Some v) (Some y) is =
          subst (Along Links (with_stack t (Body frame ∷ below))) (sym is)
          (tt, onward_links t mem frame (with_value v.0 y frame) below (with_result instr.result x frame.values) instr instr.op refl stands at refl rest onward)

  stands_in : (frame : BodyFrame) (below : List Frame) → AreLinked m (Body frame) below → IsIn m frame.func frame.spot
  stands_in frame [] h = h.0.1
  stands_in frame (under ∷ below) h = h.0.1

  coming_links : (t : State) (mem : Memory) (body : Option ℕ) (top : Frame) (below : List Frame) (x : Option Value) → AreLinked m top below →
      (moves : List Move) →
      IsComing m mem body below x moves → (below ≡ [] → ⊥) × Along Links (with_stack t below) moves
  coming_links t mem body top [] x h moves is = absurd is
  coming_links t mem body top (Outside under ∷ below) x h moves is = ((λ e. cc), subst (Along Links (with_stack t (Outside under ∷ below))) (sym is) (by x))
    where
      by : (x : Option Value) → Along Links (with_stack t (Outside under ∷ below)) (takes x)
      by None = tt
      by (Some x) = (tt, tt)
  coming_links t mem body top (Body under ∷ below) x h moves (instr, y, at, back, goes) =
      ((λ e. cc), going_links t mem under below instr y (stands_in under below h.2) at moves goes)

  -- an unwinding lands at an edge of an `invoke`
  lands_in : (f : ℕ) (s : Spot) (picks rest : List ℕ) (block : ℕ) (found : Option Instr) → IsIn m f s → instr_at m s ≡ found →
      landing_in m picks found ≡ Lands block rest →
      IsIn m f (behind_phis m block)
  lands_in f s picks rest block None stands at lands = absurd (cc)
  lands_in f s picks rest block (Some instr) stands at lands = by instr.op refl lands
    where
      by : (o : Op) → instr.op ≡ o → landing_by m picks o ≡ Lands block rest → IsIn m f (behind_phis m block)
      by (op.Invoke call normal unwind) is lands =
          let target : unwind.0 ≡ block = lands_at (catches_all m unwind.0) lands in
          subst (λ b. IsIn m f (behind_phis m b)) target (edge_in f s instr (op.Invoke call normal unwind) 1 (edge way.Unwind unwind) stands at is refl)
        where
          lands_at : (all : Bool) → lands_or all picks unwind.0 ≡ Lands block rest → unwind.0 ≡ block
          lands_at true e = cc
          lands_at false e = picked (pick picks == 0) e
            where
              picked : (zero' : Bool) → (if zero' then Lands unwind.0 (drop 1 picks) else Passes (drop 1 picks)) ≡ Lands block rest → unwind.0 ≡ block
              picked true e = cc
              picked false e = absurd (cc)
      by _ is lands = absurd (cc)

  through_links : (t : State) (mem : Memory) (top : Frame) (below : List Frame) → AreLinked m top below → (moves : List Move) → IsThrough m mem below moves →
      (below ≡ [] → ⊥) × Along Links (with_stack t below) moves
  through_links t mem top [] h moves is = absurd is
  through_links t mem top (Outside under ∷ below) h moves is = ((λ e. cc), none_link (with_stack t (Outside under ∷ below)) moves is)
  through_links t mem top (Body under ∷ below) h moves is =
      elim is [
        | inl (picks, rest, block, lands, crossing_is) ↦ (
          (λ e. cc),
          crossing_links (crossing m mem under under.values block) t under below (lands_in under.func under.spot picks rest block (instr_at m under.spot)
              (stands_in under below h.2) refl lands) moves crossing_is,
        )
        | inr (picks, rest, more, passes, eq, through) ↦
            let u = with_stack t (Body under ∷ below) in
            let later = through_links (moved u Ends) mem (Body under) below h.2 more through in
            ((λ e. cc), subst (Along Links u) (sym eq) (tt, (later.0, later.1)))
      ]

  -- what a lifetime marker does moves no frame
  turns_link : (t : State) (mem : Memory) (is_end : Bool) (d : Datum) (moves : List Move) → ((u : State) → u.stack ≡ t.stack → Along Links u moves) →
      Along Links t (turns mem is_end d moves)
  turns_link t mem is_end (datum.Ptr block offset) moves rest = by (is_dead (mem.life block)) is_end
    where
      by : (dead is_end : Bool) → Along Links t (if dead then moves else (if is_end then Turns block Closed ∷ moves
          else Turns block Live ∷ Fills block (λ at. byte.Undef) ∷ moves))
      by true is_end = rest t refl
      by false true = (tt, rest (moved t (Turns block Closed)) refl)
      by false false = (tt, (tt, rest (moved (moved t (Turns block Live)) (Fills block (λ at. byte.Undef))) refl))
  turns_link t mem is_end datum.Null moves rest = rest t refl
  turns_link t mem is_end datum.Undef moves rest = rest t refl
  turns_link t mem is_end datum.Poison moves rest = rest t refl
  turns_link t mem is_end (datum.Int bits) moves rest = rest t refl
  turns_link t mem is_end datum.Pair moves rest = rest t refl

  marks_link : (t : State) (mem : Memory) (is_end : Bool) (ws : List Written) (xs : List Value) (moves : List Move) →
      ((u : State) → u.stack ≡ t.stack → Along Links u moves) → Along Links t (marks_last m mem is_end ws xs moves)
  marks_link t mem is_end [] xs moves rest = rest t refl
  marks_link t mem is_end (w ∷ []) [] moves rest = rest t refl
  marks_link t mem is_end (w ∷ []) (x ∷ []) moves rest = by (is_alloca_result m w.val)
    where
      by : (b : Bool) → Along Links t (if b then turns mem is_end x.datum moves else moves)
      by true = turns_link t mem is_end x.datum moves rest
      by false = rest t refl
  marks_link t mem is_end (w ∷ []) (x ∷ y ∷ xs) moves rest = rest t refl
  marks_link t mem is_end (w ∷ v ∷ ws) [] moves rest = rest t refl
  marks_link t mem is_end (w ∷ v ∷ ws) (x ∷ xs) moves rest = marks_link t mem is_end (v ∷ ws) xs moves rest

  next_in : (f : ℕ) (s : Spot) → IsIn m f s → IsIn m f (behind s)
  next_in f s is = record { seg = is.seg; block = is.block; at_seg = is.at_seg; at_block = is.at_block; in_func = is.in_func }

  called : (o : Op) (call : Call) → call_of o ≡ Some call → is_call o ≡ true
  called o call e = ap is_some e

  module _ (t : State) (linked : IsLinked m t.stack) where
    -- the stack as it is known
    stack_links : (top : Frame) (below : List Frame) → t.stack ≡ top ∷ below → AreLinked m top below
    stack_links top below e = subst (IsLinked m) e linked

    body_links : (frame : BodyFrame) (below : List Frame) (instr : Instr) → t.stack ≡ Body frame ∷ below → instr_at m frame.spot ≡ Some instr →
        EachKind m (here_in t frame below instr) (Along Links t)
    body_links frame below instr stack at =
        let here = here_in t frame below instr in
        let u = with_stack t (Body frame ∷ below) in
        let h = stack_links (Body frame) below stack in
        let stands = stands_in frame below h in
        let next = next_in frame.func frame.spot stands in record {
          computing = λ picks x v gives has. onto Links t (Body frame ∷ below) (Sets v.0 x ∷ Goes (behind frame.spot) ∷ []) stack (tt, (next, tt));
          comparing = λ pred flagged a b x y z v is at_a at_b bare has. onto Links t (Body frame ∷ below)
              (Says (Capture x.origins) ∷ Says (Capture y.origins) ∷ Sets v.0 z ∷ Goes (behind frame.spot) ∷ []) stack (tt, (tt, (tt, (next, tt))));
          exposing = λ flagged a x z v is at_a bare has. onto Links t (Body frame ∷ below)
              (Says (Capture x.origins) ∷ Sets v.0 z ∷ Goes (behind frame.spot) ∷ []) stack (tt, (tt, (next, tt)));
          allocating = λ ty count written align base size v is can has. onto Links t (Body frame ∷ below)
              (Grows (alloca_shape here v.0 base size) ∷ Sets v.0 (plain (datum.Ptr t.memory.count 0)) ∷ Goes (behind frame.spot) ∷ []) stack (
                tt,
                (
                  tt,
                  (next, tt),
                ),
              );
          loading = λ ptr align volatile p place x v is at_p can loaded has. onto Links t (Body frame ∷ below)
              (says (Read place.block p.origins ∷ hidden volatile p) (Sets v.0 x ∷ Goes (behind frame.spot) ∷ [])) stack
              (whats_link u (Read place.block p.origins ∷ hidden volatile p) (Sets v.0 x ∷ Goes (behind frame.spot) ∷ []) (tt, (next, tt)));
          storing = λ val ptr align volatile x p place is at_val at_ptr can. onto Links t (Body frame ∷ below)
              (says (Write place.block p.origins ∷ Capture x.origins ∷ hidden volatile p) (Fills place.block (bytes_with t.memory place x) ∷ Goes
              (behind frame.spot) ∷ [])) stack
              (whats_link u (Write place.block p.origins ∷ Capture x.origins ∷ hidden volatile p)
              (Fills place.block (bytes_with t.memory place x) ∷ Goes (behind frame.spot) ∷ []) (tt, (next, tt)));
          branching = λ picks to moves leads gives.
              let found = leads_by_edge here instr.op to leads in
              onto Links t (Body frame ∷ below) moves stack (crossing_links (crossing m t.memory frame frame.values to) t frame below
              (subst (λ b. IsIn m frame.func (behind_phis m b)) found.3
              (edge_in frame.func frame.spot instr instr.op found.0 found.1 stands at refl found.2)) moves
              (crossed m (crossing m t.memory frame frame.values to) picks moves gives));
          calling_body = λ call xs args f is reads inner enters.
              let new = Body (body_frame m t (passing_at here call xs) f args) in
              onto Links t (Body frame ∷ below) (Begins new ∷ Says (Enter f) ∷ []) stack (
                (
                  (
                    subst (CallsBodyIn m (Some f)) (sym at) (called instr.op call is, sym inner),
                    body_begins m f formed
                        (inner_has_blocks m instr.op f inner),
                  ),
                  refl,
                  h,
                ),
                (tt, tt),
              );
          calling_outside = λ call callee xs is at_callee reads inner.
              onto Links t (Body frame ∷ below) (Says (Capture callee.origins) ∷ Begins (Outside _) ∷ []) stack
              (tt, (((subst (CallsBodyIn m None) (sym at) (called instr.op call is, sym inner), tt), refl, h), tt));
          marking = λ call f xs picks moves is callee lifetime reads goes.
              marks_link t t.memory (is_end_name f.name) call.args xs moves (λ w e.
              onto Links w (Body frame ∷ below) moves (e ∙ stack) (going_links w t.memory frame below instr None stands at moves
              (went_on m t.memory frame instr None picks moves goes)));
          returning = λ val x picks moves is reads back.
              let mem = without_allocas frame.call.number t.memory in
              let later = coming_links (moved u Ends) mem (Some frame.func) (Body frame) below x h moves (came m mem
              (Some frame.func) below x picks moves back) in
              onto Links t (Body frame ∷ below) (Says (Return x) ∷ Ends ∷ moves) stack (tt, (later.0, later.1));
          unwinding = λ val picks moves is gives.
              let later = through_links (moved u Ends) t.memory (Body frame) below h moves (went_through m t.memory below picks moves gives) in
              onto Links t (Body frame ∷ below) (Says Unwind ∷ Ends ∷ moves) stack (tt, (later.0, later.1));
        }

    taking_links : (u : State) (xs : List Value) → Along Links u (taking xs)
    taking_links u [] = tt
    taking_links u (x ∷ xs) = (tt, taking_links (moved u (Takes x)) xs)

    outside_links : (frame : OutsideFrame) (below : List Frame) → t.stack ≡ Outside frame ∷ below → EachAct m t frame below (Along Links t)
    outside_links frame below stack =
        let u = with_stack t (Outside frame ∷ below) in
        let h = stack_links (Outside frame) below stack in record {
          reading = λ p size can. (tt, taking_links t (pointers_in [] (reads_at t.memory p size)));
          writing = λ p bytes can. (tt, whats_link t (captures_in bytes) _ (tt, tt));
          hidden_reading = (tt, tt);
          hidden_writing = (tt, tt);
          making = λ base size can. (tt, tt);
          freeing = λ block can. (tt, (tt, tt));
          keeping = λ x can. (tt, (tt, tt));
          entering = λ f xs args is_open passes enters.
              let new = Body (body_frame m t (passing_in m f xs) f args) in
              onto Links t (Outside frame ∷ below) (Begins new ∷ Says (Enter f) ∷ []) stack
              ((((f, refl, is_open), body_begins m f formed (open_has_blocks m f is_open)), refl, h), (tt, tt));
          returning = λ x picks moves can back.
              let mem = without_allocas frame.call.number t.memory in
              let later = coming_links (moved u Ends) mem None (Outside frame) below x h moves (came m mem None below x picks moves back) in
              onto Links t (Outside frame ∷ below) (Says (Return x) ∷ Ends ∷ moves) stack (tt, (later.0, later.1));
          unwinding = λ picks moves gives.
              let later = through_links (moved u Ends) t.memory (Outside frame) below h moves (went_through m t.memory below picks moves gives) in
              onto Links t (Outside frame ∷ below) (Says Unwind ∷ Ends ∷ moves) stack (tt, (later.0, later.1));
        }

    pub links_step : (choice : Choice) → OnOutcome (Along Links t) (plan m t choice)
    links_step choice = by_step m t (Along Links t) (record { body = body_links; outside = outside_links }) choice

  -- ---- runs
  opening_linked : (t : State) → IsOpening m t → IsLinked m t.stack
  opening_linked t is = subst (IsLinked m) (sym is.stack) ((refl, tt), refl)

  -- at every moment the frames are linked, and the calls of every event run their callees
  pub all_linked : (t : State) → IsOpening m t → (choices : List Choice) → AllByRecursion (Shown Linked RunTheirCallees) (run m t choices)
  all_linked t is choices =
      run_law m Linked (λ d. Unit {0}) Links RunTheirCallees link_law
      (λ t choice h. outcome_mapped (Along Links t) (λ moves. Unit {0} → Along Links t moves) (plan m t choice) (λ moves along _. along)
      (links_step t h choice))
      choices t (opening_linked t is) (every_always (λ d. Unit {0}) (run m t choices) (λ d. tt))
