-- The one induction: at every moment each frame stands where it is not dead, and who unwinds, returns or frees may do so. These rest on each
-- other, since the place behind a call is dead where the call does not return, and a body's rule skips what is dead.
use Rattle.std.proofs.Common.{◌≡◌, ℕ, ◌<◌, ◌||◌, Bool, true, false, List, [], ◌∷◌, slice_get, map, Option, None, Some, refl, sym, subst, ◌∙◌, inl, inr}
use Rattle.std.specs.List.{AllByRecursion}
use Rattle.attr_ids.specs.declared.ids.ValueId.{ValueId}
use Rattle.ir_module.specs.declared.op.Op.{Op}
use Rattle.ir_module.specs.declared.op.Op.TheVariants as op
use Rattle.ir_module.specs.declared.op.Instr.{Instr}
use Rattle.ir_module.specs.declared.edge.Edge.{Edge}
use Rattle.ir_module.specs.declared.edge.Way.TheVariants as way
use Rattle.ir_module.specs.declared.module.Spot.{Spot}
use Rattle.ir_module.specs.declared.module.Module.{Module}
use Rattle.ir_module.specs.Places.{instr_at, entry_of, first_seg_of, IsIn}
use Rattle.ir_module.specs.Edges.{edge, edges, catches_all}
use Rattle.ir_module.specs.Calls.{Promise, Nounwind, Noreturn, Nofree, inner_callee, is_open, is_promised}
use Rattle.ir_module.specs.WellFormed.{IsWellFormed}
use Rattle.facts.specs.Kinds.{FunctionFact, NoUnwind, NoReturn, NoFree}
use Rattle.facts.specs.Facts.{Fact, dead, dead_at}
use Rattle.facts.specs.Promises.{has_by, call_has}
use Rattle.facts.specs.DeadEdges.{is_dead_edge, takes_other, is_unused, is_never}
use Rattle.ir_machine.specs.declared.choice.Value.{Value}
use Rattle.ir_machine.specs.Memory.{Memory}
use Rattle.ir_machine.specs.Frames.{Entered, BodyFrame, Frame, Body, Outside, Active, active, call_of as call_in, State, What, Free, Return, Unwind, Event}
use Rattle.ir_machine.specs.Moves.{Move, Says, Grows, Turns, Fills, Keeps, Sets, Goes, Takes, Begins, Ends, moved, says, with_value, set_on_top, gone_on_top}
use Rattle.ir_machine.specs.Moves.{taken_on_top, under_top}
use Rattle.ir_machine.specs.Edges.{crossing, Crossing}
use Rattle.ir_machine.specs.Calls.{Lands, Passes, landing_by, landing_in, takes, with_result}
use Rattle.ir_machine.specs.Runs.{Done}
use Rattle.ir_machine.specs.Honest.{IsFair}
use Rattle.ir_machine.specs.Links.{BeginsAs, CallsBody, CallsBodyIn, RunsItsCallee, AreLinked, IsLinked}
use Rattle.ir_machine.specs.Valid.{AreOrdered}
use Rattle.ir_machine.proofs.Basics.{Along, along_says, Law}
use Rattle.ir_machine.proofs.Moving.{IsCrossing, IsOnward, SetsFirst, IsGoingOn, IsComing, IsThrough}
use Rattle.ir_machine.proofs.Linking.{open_has_blocks, inner_has_blocks}
use Rattle.ir_machine.proofs.Linked.{with_stack}
use Rattle.fact_meanings.specs.Runs.{StandsLive}
use Rattle.law_premises.specs.Premises.{JustifiesItself, StandLive}
use Rattle.laws_of_control.proofs.Living.{entry_lives, open_called, inner_called, behind_lives, block_lives}
use Rattle.laws_of_control.proofs.Able.{has, made_has, found_calls, lands_at, unwound_may}

-- the first call, if there is one, is P
abbrev pub FirstIs : (Active → Type 0) → List Active → Type 0
FirstIs P [] = Unit {0}
FirstIs P (a ∷ calls) = P a

module _ (m : Module) (formed : IsWellFormed m) (held : Fact → Bool) (is : JustifiesItself m held) where
  -- the call lacks the fact, so that it may do what that forbids
  abbrev pub Lacks : FunctionFact → Promise → Active → Type 0
  Lacks kind p a = has m held kind p a ≡ false

  -- a call that frees nothing older is younger than the block
  abbrev pub Spares : ℕ → Active → Type 0
  Spares b a = has m held NoFree Nofree a ≡ true → b < a.call.born → ⊥

  -- what happens may happen, by the calls that stand
  abbrev pub MayHappen : List Active → What → Type 0
  MayHappen calls Unwind = FirstIs (Lacks NoUnwind Nounwind) calls
  MayHappen calls (Return x) = FirstIs (Lacks NoReturn Noreturn) calls
  MayHappen calls (Free b) = AllByRecursion (Spares b) calls
  MayHappen calls _ = Unit {0}

  abbrev pub Right : Event → Type 0
  Right e = MayHappen e.calls e.what

  abbrev pub Inv : State → Type 0
  Inv t = StandLive held t.stack

  abbrev pub C : State → Move → Type 0
  C t (Says what) = MayHappen (map active t.stack) what
  C t (Grows shape) = Unit {0}
  C t (Turns block life') = Unit {0}
  C t (Fills block bytes) = Unit {0}
  C t (Keeps x) = Unit {0}
  C t (Sets v x) = Unit {0}
  C t (Goes s) = held (dead_at s) ≡ false
  C t (Takes x) = Unit {0}
  C t (Begins frame) = StandsLive held frame
  C t Ends = Unit {0}

  -- what is given of each step
  abbrev pub Given : Done → Type 0
  Given d = IsLinked m d.before.stack × AreOrdered d.before.born d.before.next_call d.before.memory.count d.before.stack × AllByRecursion (IsFair m) d.events

  -- ---- each move

  set_live : (v : ℕ) (x : Value) (stack : List Frame) → StandLive held stack → StandLive held (set_on_top v x stack)
  set_live v x [] h = h
  set_live v x (Outside f ∷ below) h = h
  set_live v x (Body f ∷ below) h = h

  gone_live : (s : Spot) (stack : List Frame) → held (dead_at s) ≡ false → StandLive held stack → StandLive held (gone_on_top s stack)
  gone_live s [] live h = h
  gone_live s (Outside f ∷ below) live h = h
  gone_live s (Body f ∷ below) live h = (live, h.1)

  taken_live : (x : Value) (stack : List Frame) → StandLive held stack → StandLive held (taken_on_top x stack)
  taken_live x [] h = h
  taken_live x (Body f ∷ below) h = h
  taken_live x (Outside f ∷ below) h = (tt, h.1)

  under_live : (stack : List Frame) → StandLive held stack → StandLive held (under_top stack)
  under_live [] h = h
  under_live (top ∷ below) h = h.1

  pub live_moved : (t : State) (x : Move) → Inv t → C t x → Inv (moved t x)
  live_moved t (Says what) h c = h
  live_moved t (Grows shape) h c = h
  live_moved t (Turns block life') h c = h
  live_moved t (Fills block bytes) h c = h
  live_moved t (Keeps x) h c = h
  live_moved t (Sets v x) h c = set_live v x t.stack h
  live_moved t (Goes s) h c = gone_live s t.stack c h
  live_moved t (Takes x) h c = taken_live x t.stack h
  live_moved t (Begins frame) h c = (c, h)
  live_moved t Ends h c = under_live t.stack h

  pub control_law : Law Inv C Right
  control_law = record { move = live_moved; happens = λ t what h c. c }

  -- ---- a frame and the call over it

  pub stands_in : (frame : BodyFrame) (below : List Frame) → AreLinked m (Body frame) below → IsIn m frame.func frame.spot
  stands_in frame [] h = h.0.1
  stands_in frame (under ∷ below) h = h.0.1

  begins_as : (top : Frame) (below : List Frame) → AreLinked m top below → RunsItsCallee m (active top)
  begins_as top [] h = h.0.0
  begins_as top (under ∷ below) h = h.0.0

  -- the body of a frame is called somewhere, so its beginning is not dead
  pub begins_live : (frame : BodyFrame) (below : List Frame) → AreLinked m (Body frame) below → StandLive held below →
      held (dead_at (entry_of m frame.func)) ≡ false
  begins_live frame [] h live = absurd (none_some (subst (BeginsAs m (Some frame.func)) h.1 h.0.0))
    where
      none_some : Some frame.func ≡ None → ⊥
      none_some e = cc
  begins_live frame (Outside under ∷ below) h live = by (subst (BeginsAs m (Some frame.func)) h.1 h.0.0)
    where
      by : BeginsAs m (Some frame.func) Entered → held (dead_at (entry_of m frame.func)) ≡ false
      by (f, is_f, opens) =
          let number : f ≡ frame.func = cc in
          let opens_it : is_open m frame.func ≡ true = subst (λ f. is_open m f ≡ true) number opens in
          entry_lives m formed held is frame.func (open_has_blocks m frame.func opens_it) (open_called m formed held is frame.func opens_it)
  begins_live frame (Body under ∷ below) h live = by (instr_at m under.spot) refl (subst (BeginsAs m (Some frame.func)) h.1 h.0.0)
    where
      by : (found : Option Instr) → instr_at m under.spot ≡ found → CallsBodyIn m (Some frame.func) found → held (dead_at (entry_of m frame.func)) ≡ false
      by None at calls = absurd calls
      by (Some instr) at calls =
          entry_lives m formed held is frame.func (inner_has_blocks m instr.op frame.func (sym calls.1))
          (inner_called m formed held is frame.func under.spot instr at (sym calls.1) live.0)

  -- what the call on a frame calls is what the instruction there does
  pub calls_over : (top : Frame) (under : BodyFrame) (below : List Frame) (instr : Instr) → AreLinked m top (Body under ∷ below) →
      instr_at m under.spot ≡ Some instr → CallsBody m (active top).body instr.op
  calls_over top under below instr h at = found_calls m held under.spot (active top).body instr at (subst (BeginsAs m (active top).body) h.1 h.0.0)

  -- and it lacks what the instruction lacks
  pub has_over : (kind : FunctionFact) (p : Promise) (top : Frame) (under : BodyFrame) (below : List Frame) (instr : Instr) →
      AreLinked m top (Body under ∷ below) → instr_at m under.spot ≡ Some instr →
      has m held kind p (active top) ≡ has_by held kind (is_promised m p instr.op) (inner_callee m instr.op)
  has_over kind p top under below instr h at =
      made_has m held kind p under.spot (call_in top).made (active top).body instr at (calls_over top under below instr h at) h.1

  -- ---- edges

  -- an edge is not dead whose place is not, and which neither a literal nor a call keeps from being taken
  pub live_edge : (s : Spot) (instr : Instr) (e : Edge) → instr_at m s ≡ Some instr → held (dead_at s) ≡ false →
      is_never m held e.way (Some instr) ≡ false → is_dead_edge m held s e ≡ false
  live_edge s instr e at live free =
      neither (held (dead_at s)) (is_never m held e.way (instr_at m s)) live (subst (λ found. is_never m held e.way found ≡ false) (sym at) free)
    where
      neither : (a b : Bool) → a ≡ false → b ≡ false → (a || b) ≡ false
      neither false b ea eb = eb
      neither true b ea eb = absurd (cc)

  -- nothing at an instruction keeps an edge from being taken
  pub never_at : (instr : Instr) (o : Op) (e : Edge) → instr.op ≡ o → (takes_other m o e.way || is_unused m held o e.way) ≡ false →
      is_never m held e.way (Some instr) ≡ false
  never_at instr o e op_is free = subst (λ o. (takes_other m o e.way || is_unused m held o e.way) ≡ false) (sym op_is) free

  -- the block is not dead to which such an edge leads from where a frame stands
  pub target_lives : (frame : BodyFrame) (below : List Frame) (instr : Instr) (o : Op) (n : ℕ) (e : Edge) → AreLinked m (Body frame) below →
      StandLive held (Body frame ∷ below) → instr_at m frame.spot ≡ Some instr → instr.op ≡ o → slice_get (edges o) n ≡ Some e →
      (takes_other m o e.way || is_unused m held o e.way) ≡ false → held (dead (first_seg_of m e.to.0)) ≡ false
  target_lives frame below instr o n e h live at op_is is_edge free =
      block_lives m formed held is frame.func frame.spot n e (stands_in frame below h)
      (record { instr = instr; at_spot = at; is_edge = subst (λ o. slice_get (edges o) n ≡ Some e) (sym op_is) is_edge })
      (live_edge frame.spot instr e at live.0 (never_at instr o e op_is free)) (begins_live frame below h live.1)

  -- ---- steps

  pub whats_live : (u : State) (whats : List What) (moves : List Move) → AllByRecursion (λ what. MayHappen (map active u.stack) what) whats → Along C u moves →
      Along C u (says whats moves)
  whats_live u whats moves each rest = along_says C u whats moves each rest

  none_live : (u : State) (moves : List Move) → moves ≡ [] → Along C u moves
  none_live u moves none = subst (Along C u) (sym none) tt

  -- a module frame on top goes along an edge
  pub crossing_live : (way : Crossing) (t : State) (frame : BodyFrame) (below : List Frame) → held (dead (first_seg_of m way.target)) ≡ false →
      (moves : List Move) →
      IsCrossing m way moves → Along C (with_stack t (Body frame ∷ below)) moves
  crossing_live way t frame below live [] cross = absurd cross
  crossing_live way t frame below live (Sets v x ∷ moves) cross = (tt, crossing_live way t (with_value v x frame) below live moves cross.1)
  crossing_live way t frame below live (Goes s ∷ moves) cross = (
    subst (λ s. held (dead_at s) ≡ false) (sym cross.0) live,
    none_live (moved (with_stack t (Body frame ∷ below)) (Goes s)) moves cross.1,
  )
  crossing_live way t frame below live (Says what ∷ moves) cross = absurd cross
  crossing_live way t frame below live (Grows shape ∷ moves) cross = absurd cross
  crossing_live way t frame below live (Turns block life' ∷ moves) cross = absurd cross
  crossing_live way t frame below live (Fills block bytes ∷ moves) cross = absurd cross
  crossing_live way t frame below live (Keeps x ∷ moves) cross = absurd cross
  crossing_live way t frame below live (Takes x ∷ moves) cross = absurd cross
  crossing_live way t frame below live (Begins other ∷ moves) cross = absurd cross
  crossing_live way t frame below live (Ends ∷ moves) cross = absurd cross

  -- a body goes on behind its call, which may return
  onward_live : (t : State) (mem : Memory) (frame now : BodyFrame) (below : List Frame) (values : ℕ → Option Value) (instr : Instr) (o : Op) →
      AreLinked m (Body frame) below → StandLive held (Body frame ∷ below) → instr_at m frame.spot ≡ Some instr → instr.op ≡ o →
      call_has m held NoReturn o ≡ false → (moves : List Move) → IsOnward m mem frame values o moves → Along C (with_stack t (Body now ∷ below)) moves
  onward_live t mem frame now below values instr (op.Call call) h live at op_is may moves onward =
      subst (Along C (with_stack t (Body now ∷ below))) (sym onward) (
        behind_lives m formed held is frame.func frame.spot instr call (stands_in frame below h) at op_is live.0
            (subst (λ o. call_has m held NoReturn o ≡ false) (sym op_is) may),
        tt,
      )
  onward_live t mem frame now below values instr (op.Invoke call normal unwind) h live at op_is may moves onward =
      crossing_live (crossing m mem frame values normal.0) t now below
      (target_lives frame below instr (op.Invoke call normal unwind) 0 (edge way.Normal normal) h live at op_is refl may) moves onward
  onward_live t mem frame now below values instr _ h live at op_is may moves onward = absurd onward

  -- a body goes on at its call
  pub going_live : (t : State) (mem : Memory) (frame : BodyFrame) (below : List Frame) (instr : Instr) (x : Option Value) → AreLinked m (Body frame) below →
      StandLive held (Body frame ∷ below) → instr_at m frame.spot ≡ Some instr → call_has m held NoReturn instr.op ≡ false → (moves : List Move) →
      IsGoingOn m mem frame instr x moves → Along C (with_stack t (Body frame ∷ below)) moves
  going_live t mem frame below instr x h live at may moves (rest, onward, first) = by instr.result x first
    where
      by : (result : Option ValueId) (x' : Option Value) → SetsFirst result x' rest moves → Along C (with_stack t (Body frame ∷ below)) moves
      by None x' sets =
          subst (Along C (with_stack t (Body frame ∷ below))) (sym sets)
          (onward_live t mem frame frame below (with_result instr.result x frame.values) instr instr.op h live at refl may rest onward)
      by (Some v) None sets = absurd sets
      by (Some v) (Some y) sets =
          subst (Along C (with_stack t (Body frame ∷ below))) (sym sets)
          (tt, onward_live t mem frame (with_value v.0 y frame) below (with_result instr.result x frame.values) instr instr.op h live at refl may rest onward)

  -- the frame on top is gone, and what it returned comes back
  pub coming_live : (t : State) (mem : Memory) (body : Option ℕ) (top : Frame) (below : List Frame) (x : Option Value) → AreLinked m top below →
      StandLive held below → Lacks NoReturn Noreturn (active top) → (moves : List Move) → IsComing m mem body below x moves →
      Along C (with_stack t below) moves
  coming_live t mem body top [] x h live may moves comes = absurd comes
  coming_live t mem body top (Outside under ∷ below) x h live may moves comes = subst (Along C (with_stack t (Outside under ∷ below))) (sym comes) (by x)
    where
      by : (x : Option Value) → Along C (with_stack t (Outside under ∷ below)) (takes x)
      by None = tt
      by (Some x) = (tt, tt)
  coming_live t mem body top (Body under ∷ below) x h live may moves (instr, y, at, back, goes) =
      going_live t mem under below instr y h.2 live at (sym (has_over NoReturn Noreturn top under below instr h at) ∙ may) moves goes

  -- ---- unwindings

  -- where an unwinding lands
  landing_lives : (under : BodyFrame) (below : List Frame) (picks rest : List ℕ) (block : ℕ) (found : Option Instr) → AreLinked m (Body under) below →
      StandLive held (Body under ∷ below) → instr_at m under.spot ≡ found → ((instr : Instr) → found ≡ Some instr → call_has m held NoUnwind instr.op ≡ false) →
      landing_in m picks found ≡ Lands block rest → held (dead (first_seg_of m block)) ≡ false
  landing_lives under below picks rest block None h live at may lands = absurd (cc)
  landing_lives under below picks rest block (Some instr) h live at may lands = by instr.op refl lands
    where
      by : (o : Op) → instr.op ≡ o → landing_by m picks o ≡ Lands block rest → held (dead (first_seg_of m block)) ≡ false
      by (op.Invoke call normal unwind) op_is lands =
          let target : unwind.0 ≡ block = lands_at (catches_all m unwind.0) picks rest unwind.0 block lands in
          subst (λ b. held (dead (first_seg_of m b)) ≡ false) target
          (target_lives under below instr (op.Invoke call normal unwind) 1 (edge way.Unwind unwind) h live at op_is refl
          (subst (λ o. call_has m held NoUnwind o ≡ false) op_is (may instr refl)))
      by _ op_is lands = absurd (cc)

  -- a body through which an unwinding goes may unwind
  pub passing_may : (top : Frame) (under : BodyFrame) (below : List Frame) (picks rest : List ℕ) (found : Option Instr) → AreLinked m top (Body under ∷ below) →
      StandLive held (Body under ∷ below) → Lacks NoUnwind Nounwind (active top) → instr_at m under.spot ≡ found → landing_in m picks found ≡ Passes rest →
      Lacks NoUnwind Nounwind (active (Body under))
  passing_may top under below picks rest None h live may at passes =
      absurd (subst (CallsBodyIn m (active top).body) at (subst (BeginsAs m (active top).body) h.1 h.0.0))
  passing_may top under below picks rest (Some instr) h live may at passes =
      unwound_may m held is under.func under.spot picks rest instr (stands_in under below h.2) at live.0 (calls_over top under below instr h at).0
      (sym (has_over NoUnwind Nounwind top under below instr h at) ∙ may) passes

  pub through_live : (t : State) (mem : Memory) (top : Frame) (below : List Frame) → AreLinked m top below → StandLive held below →
      Lacks NoUnwind Nounwind (active top) → (moves : List Move) → IsThrough m mem below moves → Along C (with_stack t below) moves
  through_live t mem top [] h live may moves through = absurd through
  through_live t mem top (Outside under ∷ below) h live may moves through = none_live (with_stack t (Outside under ∷ below)) moves through
  through_live t mem top (Body under ∷ below) h live may moves through =
      elim through [
        | inl (picks, rest, block, lands, cross) ↦
            crossing_live (crossing m mem under under.values block) t under below
            (landing_lives under below picks rest block (instr_at m under.spot) h.2 live refl
            (λ instr at. sym (has_over NoUnwind Nounwind top under below instr h at) ∙ may) lands) moves cross
        | inr (picks, rest, more, passes, eq, goes) ↦
            let u = with_stack t (Body under ∷ below) in
            let may_under = passing_may top under below picks rest (instr_at m under.spot) h live may refl passes in
            subst (Along C u) (sym eq) (may_under, (tt, through_live (moved u Ends) mem (Body under) below h.2 live.1 may_under more goes))
      ]
