-- Every state of every run is valid, and the induction along which laws carry it.
use Rattle.std.proofs.Common.{◌≡◌, ℕ, ◌<◌, Bool, true, false, if◌then◌else◌, List, [], ◌∷◌, None, Some, refl, subst}
use Rattle.std.specs.List.{AllByRecursion}
use Rattle.std.proofs.lemmas.Bool.{and_parts}
use Rattle.shelf.proofs.Every.{every_always}
use Rattle.ir_module.specs.declared.op.Instr.{Instr}
use Rattle.ir_module.specs.declared.op.Symbol.{Symbol}
use Rattle.ir_module.specs.declared.op.Written.{Written}
use Rattle.ir_module.specs.declared.module.Module.{Module}
use Rattle.ir_machine.specs.declared.choice.Datum.{Datum}
use Rattle.ir_machine.specs.declared.choice.Datum.TheVariants as datum
use Rattle.ir_machine.specs.declared.choice.Value.{Value}
use Rattle.ir_machine.specs.declared.choice.Byte.TheVariants as byte
use Rattle.ir_machine.specs.declared.choice.Choice.{Choice}
use Rattle.ir_machine.specs.Memory.{Life, Live, Closed, Dead, is_dead, is_live, has_room, without_allocas}
use Rattle.ir_machine.specs.Frames.{BodyFrame, OutsideFrame, Frame, Body, Outside, State, What, Event, event, Read, Write, Capture}
use Rattle.ir_machine.specs.Moves.{Move, Says, Grows, Turns, Fills, Keeps, Sets, Goes, Takes, Begins, Ends, moved, after, says}
use Rattle.ir_machine.specs.Access.{can_lie, hidden}
use Rattle.ir_machine.specs.Edges.{crossing}
use Rattle.ir_machine.specs.Calls.{is_end_name, marks_last, turns, is_alloca_result}
use Rattle.ir_machine.specs.Outside.{pointers_in, reads_at, captures_in}
use Rattle.ir_machine.specs.Steps.{plan}
use Rattle.ir_machine.specs.Runs.{Done, done, run}
use Rattle.ir_machine.specs.Valid.{IsValid, AreOrdered, IsLater}
use Rattle.ir_machine.proofs.Basics.{OnOutcome, Along, along_says, along_both, outcome_both, outcome_mapped, Shown, run_shows, run_law}
use Rattle.ir_machine.proofs.Instructions.{EachKind, EachAct, by_step, here_in}
use Rattle.ir_machine.proofs.Moving.{crossed, came, went_on, went_through, along_all, crossing_all, coming_all, going_all, through_all, taking_all}
use Rattle.ir_machine.proofs.Brought.{Brought, brought}
use Rattle.ir_machine.proofs.Valid.{known_closed, Restricts, Fits, valid_moved, later_after}
use Rattle.ir_machine.specs.Valid.{Known}

-- moves of which nothing is asked
abbrev IsFree : Move → Type 0
IsFree (Says what) = Unit {0}
IsFree (Grows shape) = ⊥
IsFree (Turns block life') = ⊥
IsFree (Fills block bytes) = Unit {0}
IsFree (Keeps x) = Unit {0}
IsFree (Sets v x) = Unit {0}
IsFree (Goes spot) = Unit {0}
IsFree (Takes x) = Unit {0}
IsFree (Begins frame) = ⊥
IsFree Ends = Unit {0}

free_fits : (t : State) (x : Move) → IsFree x → Restricts t x
free_fits t (Says what) free = tt
free_fits t (Grows shape) free = absurd free
free_fits t (Turns block life') free = absurd free
free_fits t (Fills block bytes) free = tt
free_fits t (Keeps x) free = tt
free_fits t (Sets v x) free = tt
free_fits t (Goes spot) free = tt
free_fits t (Takes x) free = tt
free_fits t (Begins frame) free = absurd free
free_fits t Ends free = tt

free_along : (t : State) (moves : List Move) → AllByRecursion IsFree moves → Along Restricts t moves
free_along t moves all = along_all Restricts IsFree free_fits t moves all

along_whats : (u : State) (whats : List What) (moves : List Move) → Along Restricts u moves → Along Restricts u (says whats moves)
along_whats u whats moves rest = along_says Restricts u whats moves (every_always (λ what. Unit {0}) whats (λ what. tt)) rest

not_live_dead : (life' : Life) → is_live life' ≡ true → is_dead life' ≡ false
not_live_dead Live e = refl
not_live_dead Closed e = refl
not_live_dead Dead e = absurd (cc)

module _ (m : Module) (t : State) (valid : IsValid t) where
  along_turns : (is_end : Bool) (d : Datum) (moves : List Move) → AllByRecursion IsFree moves → Along Restricts t (turns t.memory is_end d moves)
  along_turns is_end (datum.Ptr block offset) moves free = by (is_dead (t.memory.life block)) refl is_end
    where
      by : (dead : Bool) → is_dead (t.memory.life block) ≡ dead → (is_end : Bool) →
          Along Restricts t (if dead then moves else (if is_end then Turns block Closed ∷ moves
          else Turns block Live ∷ Fills block (λ at. byte.Undef) ∷ moves))
      by true e is_end = free_along t moves free
      by false e true = (e, free_along (moved t (Turns block Closed)) moves free)
      by false e false = (e, (tt, free_along (moved (moved t (Turns block Live)) (Fills block (λ at. byte.Undef))) moves free))
  along_turns is_end datum.Null moves free = free_along t moves free
  along_turns is_end datum.Undef moves free = free_along t moves free
  along_turns is_end datum.Poison moves free = free_along t moves free
  along_turns is_end (datum.Int bits) moves free = free_along t moves free
  along_turns is_end datum.Pair moves free = free_along t moves free

  along_marks : (is_end : Bool) (ws : List Written) (xs : List Value) (moves : List Move) → AllByRecursion IsFree moves →
      Along Restricts t (marks_last m t.memory is_end ws xs moves)
  along_marks is_end [] xs moves free = free_along t moves free
  along_marks is_end (w ∷ []) [] moves free = free_along t moves free
  along_marks is_end (w ∷ []) (x ∷ []) moves free = by (is_alloca_result m w.val)
    where
      by : (b : Bool) → Along Restricts t (if b then turns t.memory is_end x.datum moves else moves)
      by true = along_turns is_end x.datum moves free
      by false = free_along t moves free
  along_marks is_end (w ∷ []) (x ∷ y ∷ xs) moves free = free_along t moves free
  along_marks is_end (w ∷ v ∷ ws) [] moves free = free_along t moves free
  along_marks is_end (w ∷ v ∷ ws) (x ∷ xs) moves free = along_marks is_end (v ∷ ws) xs moves free

  room_of : (align base size : ℕ) → can_lie t.memory align base size ≡ true → has_room t.memory base size ≡ true
  room_of align base size can = (and_parts _ (has_room t.memory base size) can).1

  body_fits : (frame : BodyFrame) (below : List Frame) (instr : Instr) → t.stack ≡ Body frame ∷ below →
      EachKind m (here_in t frame below instr) (Along Restricts t)
  body_fits frame below instr stack = record {
    computing = λ picks x v gives has. (tt, (tt, tt));
    comparing = λ pred flagged a b x y z v is at_a at_b bare has. (tt, (tt, (tt, (tt, tt))));
    exposing = λ flagged a x z v is at bare has. (tt, (tt, (tt, tt)));
    allocating = λ ty count written align base size v is can has. ((room_of align base size can.lies, standing), (tt, (tt, tt)));
    loading = λ ptr align volatile p place x v is at can loaded has. along_whats t (Read place.block p.origins ∷ hidden volatile p) _ (tt, (tt, tt));
    storing = λ val ptr align volatile x p place is at_val at_ptr can. along_whats t
        (Write place.block p.origins ∷ Capture x.origins ∷ hidden volatile p) _ (tt, (tt, tt));
    branching = λ picks to moves leads gives.
        free_along t moves (crossing_all IsFree (λ v x. tt) (λ s. tt) (λ x. tt) m (crossing m t.memory frame frame.values to) moves
        (crossed m (crossing m t.memory frame frame.values to) picks moves gives));
    calling_body = λ call xs args f is at inner enters. ((refl, refl), (tt, tt));
    calling_outside = λ call callee xs is at_callee at inner. (tt, ((refl, refl), tt));
    marking = λ call f xs picks moves is callee lifetime at goes.
        along_marks (is_end_name f.name) call.args xs moves (going_all IsFree (λ v x. tt) (λ s. tt) (λ x. tt) m t.memory frame instr None moves
        (went_on m t.memory frame instr None picks moves goes));
    returning = λ val x picks moves is at back. (
      tt,
      (
        tt,
        free_along (moved t Ends) moves (coming_all IsFree (λ v x. tt) (λ s. tt) (λ x. tt) m (without_allocas frame.call.number t.memory)
            (Some frame.func) below x moves
            (came m (without_allocas frame.call.number t.memory) (Some frame.func) below x picks moves back)),
      ),
    );
    unwinding = λ val picks moves is gives. (
      tt,
      (
        tt,
        free_along (moved t Ends) moves (through_all IsFree (λ v x. tt) (λ s. tt) (λ x. tt) tt tt m t.memory below moves
            (went_through m t.memory below picks moves gives)),
      ),
    );
  }
    where
      standing : frame.call.number < t.next_call
      standing = (subst (AreOrdered t.born t.next_call t.memory.count) stack valid.order).0

  outside_fits : (frame : OutsideFrame) (below : List Frame) → t.stack ≡ Outside frame ∷ below → EachAct m t frame below (Along Restricts t)
  outside_fits frame below stack = record {
    reading = λ p size can. (tt, free_along t _ (taking_all IsFree (λ v x. tt) (λ s. tt) (λ x. tt) (pointers_in [] (reads_at t.memory p size))));
    writing = λ p bytes can. (tt, along_whats t (captures_in bytes) _ (tt, tt));
    hidden_reading = (tt, tt);
    hidden_writing = (tt, tt);
    making = λ base size can. ((room_of 1 base size can, tt), tt);
    freeing = λ block can. (tt, (not_live_dead (t.memory.life block) (and_parts _ (is_live (t.memory.life block)) can).1, tt));
    keeping = λ x can. (tt, (tt, tt));
    entering = λ f xs args open' passes enters. ((refl, refl), (tt, tt));
    returning = λ x picks moves can back. (
      tt,
      (
        tt,
        free_along (moved t Ends) moves (coming_all IsFree (λ v x. tt) (λ s. tt) (λ x. tt) m (without_allocas frame.call.number t.memory) None below x moves
            (came m (without_allocas frame.call.number t.memory) None below x picks moves back)),
      ),
    );
    unwinding = λ picks moves gives. (
      tt,
      (
        tt,
        free_along (moved t Ends) moves (through_all IsFree (λ v x. tt) (λ s. tt) (λ x. tt) tt tt m t.memory below moves
            (went_through m t.memory below picks moves gives)),
      ),
    );
  }

  exist : (s : Symbol) (b : ℕ) → t.memory.home s ≡ Some b → b < t.memory.count
  exist s b home = (valid.blocks.homes s b home).0

  -- each step of a valid state is fitting, move by move
  pub fits_step : (choice : Choice) → OnOutcome (Along Fits t) (plan m t choice)
  fits_step choice =
      outcome_mapped (λ moves. Along Restricts t moves × Along (Brought Known known_closed) t moves) (Along Fits t) (plan m t choice)
      (λ moves two. along_both Restricts (Brought Known known_closed) t moves two.0 two.1)
      (outcome_both (Along Restricts t) (Along (Brought Known known_closed) t) (plan m t choice)
      (by_step m t (Along Restricts t) (record { body = λ frame below instr stack at. body_fits frame below instr stack; outside = outside_fits }) choice)
      (brought Known known_closed m t exist valid.known choice))

-- ---- runs

-- what is true of every step: valid states before and after it, and a later memory
pub record IsValidStep (d : Done) : Type 0 where
  pub before : IsValid d.before
  pub next : IsValid d.next
  pub later : IsLater d.before.memory d.next.memory

-- moves that fit keep a state valid
pub valid_after : (t : State) (moves : List Move) → IsValid t → Along Fits t moves → IsValid (after t moves)
valid_after t [] valid along = valid
valid_after t (x ∷ moves) valid along = valid_after (moved t x) moves (valid_moved t x valid along.0) along.1

pub all_valid : (m : Module) (t : State) → IsValid t → (choices : List Choice) → AllByRecursion IsValidStep (run m t choices)
all_valid m t valid choices =
    run_shows m IsValid (λ d. Unit {0}) Fits valid_moved
    (λ t choice valid. outcome_mapped (Along Fits t) (λ moves. Unit {0} → Along Fits t moves) (plan m t choice) (λ moves along _. along)
    (fits_step m t valid choice))
    IsValidStep (λ t moves valid along. record { before = valid; next = valid_after t moves valid along; later = later_after t moves along })
    choices t valid (every_always (λ d. Unit {0}) (run m t choices) (λ d. tt))

-- A law over valid states: each move keeps its invariant where C holds of it, and C says something of each thing that happens.
pub record ValidLaw (Inv : State → Type 0) (C : State → Move → Type 0) (E : Event → Type 0) : Type 0 where
  pub move : (t : State) (x : Move) → IsValid t → IsValid (moved t x) → Fits t x → Inv t → C t x → Inv (moved t x)
  pub happens : (t : State) (what : What) → IsValid t → Inv t → C t (Says what) → E (event t.stack what)

-- Where P is given of every step, each state of a run that begins in a valid one is valid and has the invariant, and E holds of
-- every event.
pub valid_run : (m : Module) (Inv : State → Type 0) (P : Done → Type 0) (C : State → Move → Type 0) (E : Event → Type 0) → ValidLaw Inv C E →
    ((t : State) (choice : Choice) → IsValid t → Inv t → OnOutcome (λ moves. P (done t moves) → Along C t moves) (plan m t choice)) →
    (choices : List Choice) (t : State) → IsValid t → Inv t → AllByRecursion P (run m t choices) →
    AllByRecursion (Shown (λ t. IsValid t × Inv t) E) (run m t choices)
valid_run m Inv P C E law steps choices t valid inv p =
    run_law m (λ t. IsValid t × Inv t) P (λ t x. Fits t x × C t x) E (record {
      move = λ t x two fits. (valid_moved t x two.0 fits.0, law.move t x two.0 (valid_moved t x two.0 fits.0) fits.0 two.1 fits.1);
      happens = λ t what two fits. law.happens t what two.0 two.1 fits.1;
    })
    (λ t choice two. outcome_mapped (λ moves. Along Fits t moves × (P (done t moves) → Along C t moves)) (λ moves. P (done t moves) →
    Along (λ t x. Fits t x × C t x) t moves)
    (plan m t choice) (λ moves both p. along_both Fits C t moves both.0 (both.1 p))
    (outcome_both (Along Fits t) (λ moves. P (done t moves) → Along C t moves) (plan m t choice) (fits_step m t two.0 choice) (steps t choice two.0 two.1)))
    choices t (valid, inv) p
