-- Which bodies are not entered: while a call stands that keeps a body out, that body is not entered above it. A call that
-- leads to the entry lets it in; and who is under one that lets it in lets it in too, by the rule at the call between them.
use Rattle.std.proofs.Common.{◌≡◌, ◌≢◌, ℕ, zero, suc, ◌+◌, ◌*◌, ◌/◌, ◌%◌, ◌&&◌, not, Bool, true, false, List, [], ◌∷◌, slice_get, map, All, Option, None}
use Rattle.std.proofs.Common.{Some, is_some}
use Rattle.std.proofs.Common.{refl, sym, ap, subst, ◌∙◌, ◌⊎◌, inl, inr}
use Rattle.std.specs.List.{AllByRecursion}
use Rattle.std.specs.Option.{option_and_then}
use Rattle.std.proofs.lemmas.Nat.{div-add-mod'}
use Rattle.std.proofs.lemmas.Bool.{and_parts}
use Rattle.std.proofs.lemmas.Option.{same_Some}
use Rattle.std.proofs.lemmas.List.Elements.{recursion_from_All, All-from_recursion}
use Rattle.shelf.proofs.Every.{every_at, every_mapped}
use Rattle.lattice_words.specs.declared.reach.TheConstants.{BODIES}
use Rattle.attr_ids.specs.declared.ids.FuncId.{FuncId}
use Rattle.ir_module.specs.declared.op.Call.{Call}
use Rattle.ir_module.specs.declared.op.Op.{Op}
use Rattle.ir_module.specs.declared.op.Instr.{Instr}
use Rattle.ir_module.specs.declared.module.Func.{Func}
use Rattle.ir_module.specs.declared.module.Spot.{Spot}
use Rattle.ir_module.specs.declared.module.Module.{Module}
use Rattle.ir_module.specs.Places.{instr_at, IsIn}
use Rattle.ir_module.specs.Calls.{Nocallback, is_call, is_inner, is_outer, is_exact_in, callee_of, callee_in, direct_callee, inner_callee, is_promised, is_open}
use Rattle.ir_module.specs.WellFormed.{IsWellFormed}
use Rattle.facts.specs.Bodies.{rank, body_count, is_body, IsBodyNumber}
use Rattle.facts.specs.Facts.{Fact, unreached_by, dead_at}
use Rattle.facts.specs.Reach.{PassesBy, IsPassedBy}
use Rattle.ir_machine.specs.declared.choice.Value.{Value}
use Rattle.ir_machine.specs.declared.choice.Byte.{Byte}
use Rattle.ir_machine.specs.declared.choice.Byte.TheVariants as byte
use Rattle.ir_machine.specs.declared.choice.Choice.{Choice}
use Rattle.ir_machine.specs.Memory.{without_allocas}
use Rattle.ir_machine.specs.Frames.{Made, Lowest, Entered, At, Active, active, BodyFrame, OutsideFrame, Frame, Body, Outside, call_of as call_in, State}
use Rattle.ir_machine.specs.Frames.{What, Enter, Read, Write, HiddenRead, HiddenWrite, Free, Capture, Return, Unwind, Event, event}
use Rattle.ir_machine.specs.Moves.{Move, Says, Grows, Turns, Fills, Keeps, Sets, Goes, Takes, Begins, Ends, moved, after, says}
use Rattle.ir_machine.specs.Reading.{behind}
use Rattle.ir_machine.specs.Access.{hidden, bytes_with}
use Rattle.ir_machine.specs.Edges.{crossing}
use Rattle.ir_machine.specs.Calls.{params_of, body_frame, is_end_name}
use Rattle.ir_machine.specs.Outside.{pointers_in, reads_at, captures_in, written_at, block_in, taking}
use Rattle.ir_machine.specs.Steps.{plan}
use Rattle.ir_machine.specs.Runs.{Done, done, IsOpening, run, events_of}
use Rattle.ir_machine.specs.Links.{BeginsAs, CallsBody, CallsBodyIn, AreLinked, IsLinked}
use Rattle.ir_machine.specs.Meanings.{IsDuring, IsBelow}
use Rattle.ir_machine.specs.Honest.{IsFair, IsHonest, promises, promised_at, promised_in}
use Rattle.ir_machine.proofs.Basics.{OnOutcome, outcome_mapped, Along, along_says, Shown, of_events, of_steps}
use Rattle.ir_machine.proofs.Instructions.{EachKind, EachAct, by_step, here_in, passing_at, passing_in}
use Rattle.ir_machine.proofs.Moving.{crossed, came, went_on, went_through, along_all, crossing_all, coming_all, going_all, through_all, taking_all}
use Rattle.ir_machine.proofs.Linking.{inner_has_blocks, open_has_blocks}
use Rattle.ir_machine.proofs.Linked.{Linked, RunTheirCallees, all_linked}
use Rattle.fact_meanings.specs.Runs.{StandsLive, IsUnreachedBy, RowHolds}
use Rattle.law_premises.specs.Premises.{JustifiesItself, StandLive, IsControlled}
use Rattle.laws_effects.proofs.Quiet.{run_given, both_of, Says_well, said_well, IsQuiet, quiet_says, marks_quiet}

tail_of : (a b : Active) (xs ys : List Active) → (a ∷ xs) ≡ (b ∷ ys) → xs ≡ ys
tail_of a b xs ys e = cc

-- an outer call is no inner one
outer_call : (m : Module) (o : Op) → is_call o ≡ true → None ≡ inner_callee m o → is_outer m o ≡ true
outer_call m o is none = by (is_inner m o) refl
  where
    no_callee : (found : Option FuncId) → direct_callee m o ≡ found → is_inner m o ≡ true → callee_in true found ≡ None → ⊥
    no_callee None e inner given_none = no_exact (callee_of m o) (ap (λ (g : Option FuncId). option_and_then (λ (g : FuncId). slice_get m.funcs g.0) g) e) inner
      where
        no_exact : (found : Option Func) → found ≡ None → is_exact_in found ≡ true → ⊥
        no_exact None e exact = cc
        no_exact (Some f) e exact = cc
    no_callee (Some g) e inner given_none = cc

    by : (b : Bool) → is_inner m o ≡ b → is_outer m o ≡ true
    by false e = outer_of (is_call o) (is_inner m o) is e
      where
        outer_of : (a b : Bool) → a ≡ true → b ≡ false → (a && not b) ≡ true
        outer_of a b is none = cc
    by true e = absurd (no_callee (direct_callee m o) refl e (sym (none ∙ ap (λ b. callee_in b (direct_callee m o)) e)))

module _ (m : Module) (held : Fact → Bool) (is : JustifiesItself m held) where
  -- the rule of a row
  rule : (r n : ℕ) → held (unreached_by r n) ≡ true → IsPassedBy m held r n
  rule r n has = subst (λ t. IsPassedBy m held r t) (div-add-mod' n BODIES) (is (unreached_by r n) has)

  -- the call keeps body number n from being entered while it stands: by its row, or as the outside
  abbrev KeepsOutAs : ℕ → Active → Option ℕ → Type 0
  KeepsOutAs n a (Some f) = held (unreached_by (rank m f) n) ≡ true
  KeepsOutAs n a None = (promised_at m Nocallback a.call.made ≡ true) ⊎ (held (unreached_by (body_count m) n) ≡ true)

  abbrev KeepsOut : ℕ → Active → Type 0
  KeepsOut n a = KeepsOutAs n a a.body

  abbrev LetsIn : ℕ → Active → Type 0
  LetsIn n a = KeepsOut n a → ⊥

  -- what an entry says of the calls under it, and of the outside
  pub record IsLetIn (n : ℕ) (calls : List Active) : Type 0 where
    pub each : AllByRecursion (LetsIn n) calls
    pub outside : held (unreached_by (body_count m) n) ≡ true → ⊥

  has_body : (f : ℕ) (made : Made) → BeginsAs m (Some f) made → is_body m f ≡ true
  has_body f Lowest begins = absurd (cc)
  has_body f Entered (g, same, open') = open_has_blocks m f (subst (λ n. is_open m n ≡ true) (sym (same_Some f g same)) open')
  has_body f (At s) begins = by (instr_at m s) begins
    where
      by : (found : Option Instr) → CallsBodyIn m (Some f) found → is_body m f ≡ true
      by None calls = absurd calls
      by (Some instr) calls = inner_has_blocks m instr.op f (sym calls.1)

  stands_in : (frame : BodyFrame) (below : List Frame) → AreLinked m (Body frame) below → IsIn m frame.func frame.spot
  stands_in frame [] h = h.0.1
  stands_in frame (under ∷ below) h = h.0.1

  begins_as : (top : Frame) (below : List Frame) → AreLinked m top below → BeginsAs m (active top).body (call_in top).made
  begins_as top [] h = h.0.0
  begins_as top (under ∷ below) h = h.0.0

  -- a body that keeps n out passes it by at the call where it stands
  passes_by : (n : ℕ) (frame : BodyFrame) (below : List Frame) (instr : Instr) → AreLinked m (Body frame) below → held (dead_at frame.spot) ≡ false →
      instr_at m frame.spot ≡ Some instr → KeepsOut n (active (Body frame)) → PassesBy m held n instr.op
  passes_by n frame below instr h live at keeps =
      (rule (rank m frame.func) n keeps).body frame.func (has_body frame.func frame.call.made (begins_as (Body frame) below h), refl) frame.spot instr
      (stands_in frame below h) at live

  module _ (n : ℕ) (e : Event) (g : ℕ) (fair : IsFair m e) (enters : e.what ≡ Enter g) where
    -- an honest call of the outside that promises to call nothing back lets nothing in
    no_promise : (a : Active) → IsDuring a e → promises m Nocallback a ≡ true → ⊥
    no_promise a during promised = fair Nocallback a promised during g enters

    -- whoever is under a call that lets n in lets it in
    under_lets : (top under : Frame) (below : List Frame) → AreLinked m top (under ∷ below) → StandsLive held under →
        IsDuring (active under) e → LetsIn n (active top) → LetsIn n (active under)
    under_lets top (Outside under) below h live during lets (inl promised) = no_promise (active (Outside under)) during promised
    under_lets top (Outside under) below h live during lets (inr row) =
        by (active top).body (subst (BeginsAs m (active top).body) h.1 h.0.0) lets
      where
        by : (body : Option ℕ) → BeginsAs m body Entered → (KeepsOutAs n (active top) body → ⊥) → ⊥
        by body (f, same, open') lets = lets (subst (λ b. KeepsOutAs n (active top) b) (sym same) (((rule (body_count m) n row).outside refl).others f open'))
    under_lets top (Body under) below h live during lets keeps =
        by (instr_at m under.spot) refl (subst (BeginsAs m (active top).body) h.1 h.0.0)
      where
        by : (found : Option Instr) → instr_at m under.spot ≡ found → CallsBodyIn m (active top).body found → ⊥
        by None at calls = calls
        by (Some instr) at calls = as_called (active top).body calls.0 calls.1 (passes_by n under below instr h.2 live at keeps) lets
          where
            as_called : (body : Option ℕ) → is_call instr.op ≡ true → body ≡ inner_callee m instr.op → PassesBy m held n instr.op →
                (KeepsOutAs n (active top) body → ⊥) → ⊥
            as_called (Some f) is_one inner passes lets = lets (passes.inner f (sym inner)).1
            as_called None is_one inner passes lets =
                elim (passes.outer (outer_call m instr.op is_one inner)) [
                  | inl promised ↦ lets (inl (subst (λ made. promised_at m Nocallback made ≡ true) (sym h.1)
                      (subst (λ found. promised_in m Nocallback found ≡ true) (sym at) promised)))
                  | inr row ↦ lets (inr row)
                ]

    down : (top : Frame) (below : List Frame) → AreLinked m top below → StandLive held below →
        ((k : ℕ) (a : Active) → slice_get (map active below) k ≡ Some a → IsDuring a e) → LetsIn n (active top) → IsLetIn n (map active (top ∷ below))
    down top [] h live during lets = record {
      each = (lets, tt);
      outside = λ row. lowest (active top).body (subst (BeginsAs m (active top).body) h.1 h.0.0) lets row;
    }
      where
        lowest : (body : Option ℕ) → BeginsAs m body Lowest → (KeepsOutAs n (active top) body → ⊥) → held (unreached_by (body_count m) n) ≡ true → ⊥
        lowest None begins lets row = lets (inr row)
        lowest (Some f) begins lets row = absurd (cc)
    down top (under ∷ below) h live during lets =
        let rest = down under below h.2 live.1 (λ k a at. during (suc k) a at)
        (under_lets top under below h live.0 (during 0 (active under) refl) lets) in
        record { each = (lets, rest.each); outside = rest.outside }

  -- ---- each event

  -- the calls under the one that begins let it in
  abbrev pub EntersAllowed : Event → Type 0
  EntersAllowed e = (n g : ℕ) → IsBodyNumber m n g → e.what ≡ Enter g → (top : Active) × (below : List Active) × (e.calls ≡ top ∷ below) × IsLetIn n below

  -- it is no entry
  abbrev NoEntry : What → Type 0
  NoEntry (Enter f) = ⊥
  NoEntry _ = Unit {0}

  silent : (stack : List Frame) (what : What) → NoEntry what → EntersAllowed (event stack what)
  silent stack (Enter f) none n g number is = absurd none
  silent stack (Read b origins) none n g number is = absurd (cc)
  silent stack (Write b origins) none n g number is = absurd (cc)
  silent stack HiddenRead none n g number is = absurd (cc)
  silent stack HiddenWrite none n g number is = absurd (cc)
  silent stack (Free b) none n g number is = absurd (cc)
  silent stack (Capture origins) none n g number is = absurd (cc)
  silent stack (Return x) none n g number is = absurd (cc)
  silent stack Unwind none n g number is = absurd (cc)

  pub record Given (d : Done) : Type 0 where
    pub linked : IsLinked m d.before.stack
    pub live : StandLive held d.before.stack
    pub fair : AllByRecursion (IsFair m) d.events

  abbrev Q : State → List Move → Type 0
  Q t moves = Given (done t moves) → Along (Says_well EntersAllowed) t moves

  quiet : (t : State) (moves : List Move) → AllByRecursion (IsQuiet NoEntry) moves → Along (Says_well EntersAllowed) t moves
  quiet t moves all = along_all (Says_well EntersAllowed) (IsQuiet NoEntry) (quiet_says NoEntry EntersAllowed silent) t moves all

  says_quiet : (whats : List What) (moves : List Move) → AllByRecursion NoEntry whats → AllByRecursion (IsQuiet NoEntry) moves →
      AllByRecursion (IsQuiet NoEntry) (says whats moves)
  says_quiet [] moves none all = all
  says_quiet (what ∷ whats) moves none all = (none.0, says_quiet whats moves none.1 all)

  hidden_quiet : (volatile : Bool) (p : Value) → AllByRecursion NoEntry (hidden volatile p)
  hidden_quiet true p = (tt, (tt, (tt, tt)))
  hidden_quiet false p = tt

  captures_quiet : (bytes : List Byte) → AllByRecursion NoEntry (captures_in bytes)
  captures_quiet [] = tt
  captures_quiet (byte.Fragment k x ∷ bytes) = (tt, captures_quiet bytes)
  captures_quiet (byte.Number n ∷ bytes) = captures_quiet bytes
  captures_quiet (byte.Undef ∷ bytes) = captures_quiet bytes
  captures_quiet (byte.Poison ∷ bytes) = captures_quiet bytes

  -- a body is entered over this stack, by the frame on top of it
  entry_allowed : (new top : Frame) (below : List Frame) (f : ℕ) → AreLinked m top below → StandLive held below →
      IsFair m (event (new ∷ top ∷ below) (Enter f)) →
      ((n : ℕ) → IsBodyNumber m n f → IsDuring (active top) (event (new ∷ top ∷ below) (Enter f)) → LetsIn n (active top)) →
      EntersAllowed (event (new ∷ top ∷ below) (Enter f))
  entry_allowed new top below f h live fair lets n g number is =
      let same : f ≡ g = cc in
      let e = event (new ∷ top ∷ below) (Enter f) in (
        active new,
        map active (top ∷ below),
        refl,
        down n e f fair refl top below h live (λ k a at. (suc (suc k), at)) (lets n (subst (λ g. IsBodyNumber m n g) (sym same) number) (1, refl)),
      )

  body_step : (t : State) (frame : BodyFrame) (below : List Frame) (instr : Instr) → t.stack ≡ Body frame ∷ below → instr_at m frame.spot ≡ Some instr →
      EachKind m (here_in t frame below instr) (Q t)
  body_step t frame below instr stack at = record {
    computing = λ picks x v gives has given. (tt, (tt, tt));
    comparing = λ pred flagged a b x y z v op_is at_a at_b bare has given.
        quiet t (Says (Capture x.origins) ∷ Says (Capture y.origins) ∷ Sets v.0 z ∷ Goes (behind frame.spot) ∷ []) (tt, (tt, (tt, (tt, tt))));
    exposing = λ flagged a x z v op_is at_a bare has given.
        quiet t (Says (Capture x.origins) ∷ Sets v.0 z ∷ Goes (behind frame.spot) ∷ []) (tt, (tt, (tt, tt)));
    allocating = λ ty count written align base size v op_is can has given. (tt, (tt, (tt, tt)));
    loading = λ ptr align volatile p place x v op_is at_p can loaded has given.
        quiet t (says (Read place.block p.origins ∷ hidden volatile p) (Sets v.0 x ∷ Goes (behind frame.spot) ∷ []))
        (says_quiet (Read place.block p.origins ∷ hidden volatile p) (Sets v.0 x ∷ Goes (behind frame.spot) ∷ []) (tt, hidden_quiet volatile p) (tt, (tt, tt)));
    storing = λ val ptr align volatile x p place op_is at_val at_ptr can given.
        quiet t (says (Write place.block p.origins ∷ Capture x.origins ∷ hidden volatile p)
        (Fills place.block (bytes_with t.memory place x) ∷ Goes (behind frame.spot) ∷ []))
        (says_quiet (Write place.block p.origins ∷ Capture x.origins ∷ hidden volatile p)
        (Fills place.block (bytes_with t.memory place x) ∷ Goes (behind frame.spot) ∷ []) (tt, (tt, hidden_quiet volatile p)) (tt, (tt, tt)));
    branching = λ picks to moves leads gives given.
        quiet t moves (crossing_all (IsQuiet NoEntry) (λ v x. tt) (λ s. tt) (λ x. tt) m (crossing m t.memory frame frame.values to) moves
        (crossed m (crossing m t.memory frame frame.values to) picks moves gives));
    calling_body = λ call xs args f is_call reads inner enters given.
        let new = Body (body_frame m t (passing_at (here_in t frame below instr) call xs) f args) in (
          tt,
          (
            subst (λ s. EntersAllowed (event (new ∷ s) (Enter f))) (sym stack)
                (entry_allowed new (Body frame) below f (subst (IsLinked m) stack given.linked) (subst (StandLive held) stack given.live).1
                (subst (λ s. IsFair m (event (new ∷ s) (Enter f))) stack given.fair.0)
                (λ n number during keeps.
                let passes = passes_by n frame below instr (subst (IsLinked m) stack given.linked) (subst (StandLive held) stack given.live).0 at keeps in
                (passes.inner f inner).0 number.1)),
            tt,
          ),
        );
    calling_outside = λ call callee xs is_call at_callee reads inner given.
        (silent t.stack (Capture callee.origins) tt, (tt, tt));
    marking = λ call f xs picks moves is_call callee lifetime reads goes given.
        quiet t _ (marks_quiet NoEntry m t.memory (is_end_name f.name) call.args xs moves
        (going_all (IsQuiet NoEntry) (λ v x. tt) (λ s. tt) (λ x. tt) m t.memory frame instr None moves (went_on m t.memory frame instr None picks moves goes)));
    returning = λ val x picks moves op_is reads back given.
        let mem = without_allocas frame.call.number t.memory in (
          silent t.stack (Return x) tt,
          (
            tt,
            quiet (moved t Ends) moves (coming_all (IsQuiet NoEntry) (λ v x. tt) (λ s. tt) (λ x. tt) m mem (Some frame.func) below x moves
                (came m mem (Some frame.func) below x picks moves back)),
          ),
        );
    unwinding = λ val picks moves op_is gives given. (
      silent t.stack Unwind tt,
      (
        tt,
        quiet (moved t Ends) moves (through_all (IsQuiet NoEntry) (λ v x. tt) (λ s. tt) (λ x. tt) tt tt m t.memory below moves
            (went_through m t.memory below picks moves gives)),
      ),
    );
  }

  outside_step : (t : State) (frame : OutsideFrame) (below : List Frame) → t.stack ≡ Outside frame ∷ below → EachAct m t frame below (Q t)
  outside_step t frame below stack = record {
    reading = λ p size can given. (
      silent t.stack (Read (block_in p.datum) p.origins) tt,
      quiet t (taking (pointers_in [] (reads_at t.memory p size)))
          (taking_all (IsQuiet NoEntry) (λ v x. tt) (λ s. tt) (λ x. tt) (pointers_in [] (reads_at t.memory p size))),
    );
    writing = λ p bytes can given.
        quiet t (says (Write (block_in p.datum) p.origins ∷ captures_in bytes) (Fills (block_in p.datum) (written_at t.memory p bytes) ∷ []))
        (says_quiet (Write (block_in p.datum) p.origins ∷ captures_in bytes) (Fills (block_in p.datum) (written_at t.memory p bytes) ∷ [])
        (tt, captures_quiet bytes) (tt, tt));
    hidden_reading = λ given. (silent t.stack HiddenRead tt, tt);
    hidden_writing = λ given. (silent t.stack HiddenWrite tt, tt);
    making = λ base size can given. (tt, tt);
    freeing = λ block can given. (silent t.stack (Free block) tt, (tt, tt));
    keeping = λ x can given. (silent t.stack (Capture x.origins) tt, (tt, tt));
    entering = λ f xs args open' passes enters given.
        let new = Body (body_frame m t (passing_in m f xs) f args) in
        let fair = subst (λ s. IsFair m (event (new ∷ s) (Enter f))) stack given.fair.0 in (
          tt,
          (
            subst (λ s. EntersAllowed (event (new ∷ s) (Enter f))) (sym stack)
                (entry_allowed new (Outside frame) below f (subst (IsLinked m) stack given.linked) (subst (StandLive held) stack given.live).1 fair
                (λ n number during keeps. by_outside n f number open' keeps (λ promised. fair Nocallback (active (Outside frame)) promised during f refl))),
            tt,
          ),
        );
    returning = λ x picks moves can back given.
        let mem = without_allocas frame.call.number t.memory in (
          silent t.stack (Return x) tt,
          (
            tt,
            quiet (moved t Ends) moves (coming_all (IsQuiet NoEntry) (λ v x. tt) (λ s. tt) (λ x. tt) m mem None below x moves
                (came m mem None below x picks moves back)),
          ),
        );
    unwinding = λ picks moves gives given. (
      silent t.stack Unwind tt,
      (
        tt,
        quiet (moved t Ends) moves (through_all (IsQuiet NoEntry) (λ v x. tt) (λ s. tt) (λ x. tt) tt tt m t.memory below moves
            (went_through m t.memory below picks moves gives)),
      ),
    );
  }
    where
      by_outside : (n f : ℕ) → IsBodyNumber m n f → is_open m f ≡ true → KeepsOut n (active (Outside frame)) →
          (promises m Nocallback (active (Outside frame)) ≡ true → ⊥) → ⊥
      by_outside n f number open' (inl promised) none = none promised
      by_outside n f number open' (inr row) none = clash (is_open m f) open' (((rule (body_count m) n row).outside refl).closed f number)
        where
          clash : (b : Bool) → b ≡ true → b ≡ false → ⊥
          clash b is none = cc

  pub reach_step : (t : State) (choice : Choice) → OnOutcome (Q t) (plan m t choice)
  reach_step t choice = by_step m t (Q t) (record { body = body_step t; outside = outside_step t }) choice

  -- ---- runs

  module _ (formed : IsWellFormed m) (opening : State) (opens : IsOpening m opening) (choices : List Choice) (honest : IsHonest m (run m opening choices))
      (controlled : All (IsControlled m held) (run m opening choices)) where
    abbrev steps : List Done
    steps = run m opening choices

    given_all : AllByRecursion Given steps
    given_all =
        both_of (Shown (Linked m formed) (RunTheirCallees m formed)) (λ d. IsControlled m held d × AllByRecursion (IsFair m) d.events) Given steps
        (λ d own taken. record { linked = own.before; live = taken.0.live; fair = taken.1 })
        (all_linked m formed opening opens choices)
        (both_of (IsControlled m held) (λ (d : Done). AllByRecursion (IsFair m) d.events)
        (λ d. IsControlled m held d × AllByRecursion (IsFair m) d.events) steps
        (λ d c f. (c, f)) (recursion_from_All (IsControlled m held) steps controlled)
        (of_steps (IsFair m) steps (recursion_from_All (IsFair m) (events_of steps) honest)))

    all_allowed : AllByRecursion EntersAllowed (events_of steps)
    all_allowed =
        of_events EntersAllowed steps
        (run_given m Given (λ (d : Done). AllByRecursion EntersAllowed d.events)
        (λ t choice. outcome_mapped (λ moves. Given (done t moves) → Along (Says_well EntersAllowed) t moves)
        (λ moves. Given (done t moves) → AllByRecursion EntersAllowed (done t moves).events) (plan m t choice)
        (λ moves well g. said_well EntersAllowed t moves (well g)) (reach_step t choice))
        choices opening given_all)

    -- what a row says holds of all events
    pub rows_of : (r t : ℕ) → RowHolds m held r t steps
    rows_of r t = record {
      body = λ has f g of_f of_g.
          All-from_recursion (IsUnreachedBy f g) (events_of steps)
          (every_mapped EntersAllowed (IsUnreachedBy f g) (events_of steps) (λ e allowed a body below what.
          lets_none e allowed has f g of_f of_g a body below what) all_allowed);
      outside = λ has g of_g.
          All-from_recursion (λ e. e.what ≢ Enter g) (events_of steps)
          (every_mapped EntersAllowed (λ e. e.what ≢ Enter g) (events_of steps) (λ e allowed what. (allowed t g of_g what).3.outside has) all_allowed);
    }
      where
        lets_none : (e : Event) → EntersAllowed e → held (unreached_by r t) ≡ true → (f g : ℕ) → IsBodyNumber m r f → IsBodyNumber m t g → (a : Active) →
            a.body ≡ Some f → IsBelow a e → e.what ≡ Enter g → ⊥
        lets_none e allowed has f g of_f of_g a body (top, below, k, calls, at) what =
            let let_in = allowed t g of_g what in
            let same : let_in.1 ≡ below = tail_of let_in.0 top let_in.1 below (sym let_in.2 ∙ calls) in
            every_at (LetsIn t) below k a (subst (AllByRecursion (LetsIn t)) same let_in.3.each) at
            (subst (λ b. KeepsOutAs t a b) (sym body) (subst (λ r. held (unreached_by r t) ≡ true) (sym of_f.1) has))
