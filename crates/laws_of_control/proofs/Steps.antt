-- Each step keeps what the laws of control say: a case for each kind of instruction and each act of the outside.
use Rattle.std.proofs.Common.{◌≡◌, ℕ, suc, ◌<◌, ◌≤◌, ◌&&◌, ◌==◌, not, Bool, true, false, if◌then◌else◌, List, [], ◌∷◌, slice_get, map, Option, None, Some, refl}
use Rattle.std.proofs.Common.{sym, ap, subst, ◌∙◌, arith}
use Rattle.std.specs.List.{AllByRecursion, list_any}
use Rattle.ir_module.specs.declared.op.Op.{Op}
use Rattle.ir_module.specs.declared.op.Instr.{Instr}
use Rattle.ir_module.specs.declared.op.Written.{Written}
use Rattle.ir_module.specs.declared.module.Func.{Func}
use Rattle.ir_module.specs.declared.module.Module.{Module}
use Rattle.ir_module.specs.Places.{instr_at, first_seg_of}
use Rattle.ir_module.specs.Calls.{Promise, Nounwind, Noreturn, Nofree, direct_callee, callee_of, callee_in, is_exact_in, is_replaceable, is_lifetime}
use Rattle.ir_module.specs.Calls.{is_lifetime_name, lifetime_attrs, attrs_of, own_attrs, promising_by, is_written, is_promised}
use Rattle.ir_module.specs.WellFormed.{IsWellFormed}
use Rattle.facts.specs.Kinds.{NoReturn, NoFree}
use Rattle.facts.specs.Facts.{Fact, dead, dead_at}
use Rattle.facts.specs.Promises.{has_by, call_has}
use Rattle.facts.specs.Functions.{KeepsNounwind, KeepsNoreturn}
use Rattle.ir_machine.specs.declared.choice.Value.{Value}
use Rattle.ir_machine.specs.declared.choice.Datum.{Datum}
use Rattle.ir_machine.specs.declared.choice.Datum.TheVariants as datum
use Rattle.ir_machine.specs.declared.choice.Byte.{Byte}
use Rattle.ir_machine.specs.declared.choice.Byte.TheVariants as byte
use Rattle.ir_machine.specs.Memory.{Memory, Live, Closed, Dead, is_dead, without_allocas}
use Rattle.ir_machine.specs.Frames.{BodyFrame, OutsideFrame, Frame, Body, Outside, Active, active, call_of as call_in, State, Enter, Read, Write, Free, Capture}
use Rattle.ir_machine.specs.Frames.{Return, Unwind, event}
use Rattle.ir_machine.specs.Moves.{Move, Says, Grows, Turns, Fills, Sets, Goes, Takes, Begins, Ends, moved, says}
use Rattle.ir_machine.specs.Reading.{behind}
use Rattle.ir_machine.specs.Values.{plain}
use Rattle.ir_machine.specs.Access.{alloca_shape, hidden, bytes_with}
use Rattle.ir_machine.specs.Edges.{crossing}
use Rattle.ir_machine.specs.Calls.{is_end_name, marks_last, turns, is_alloca_result, body_frame, begun_by, passed_to}
use Rattle.ir_machine.specs.Outside.{pointers_in, reads_at, taking, captures_in}
use Rattle.ir_machine.specs.Runs.{done}
use Rattle.ir_machine.specs.Honest.{IsFair, promises, promised_at}
use Rattle.ir_machine.specs.Links.{BeginsAs, CallsBodyIn, AreLinked, IsLinked}
use Rattle.ir_machine.specs.Valid.{AreOrdered}
use Rattle.ir_machine.proofs.Basics.{Along, Steps}
use Rattle.ir_machine.proofs.Instructions.{EachKind, EachAct, by_step, here_in, passing_at, passing_in}
use Rattle.ir_machine.proofs.Moving.{crossed, went_on, came, went_through}
use Rattle.ir_machine.proofs.Linking.{open_has_blocks, inner_has_blocks}
use Rattle.ir_machine.proofs.Linked.{with_stack, onto}
use Rattle.law_premises.specs.Premises.{JustifiesItself, StandLive}
use Rattle.laws_of_control.proofs.Literals.{led}
use Rattle.laws_of_control.proofs.Living.{entry_lives, open_called, inner_called}
use Rattle.laws_of_control.proofs.Able.{resumed_may, returned_may, called_keeps}
use Rattle.laws_of_control.proofs.Moves.{Spares, MayHappen, Inv, C, Given, stands_in, has_over, calls_over, target_lives, whats_live, crossing_live, going_live}
use Rattle.laws_of_control.proofs.Moves.{coming_live, through_live}

-- what holds of the call at each place of a list
pub each_call : (P : Active → Type 0) (calls : List Active) → ((k : ℕ) (a : Active) → slice_get calls k ≡ Some a → P a) → AllByRecursion P calls
each_call P [] each = tt
each_call P (a ∷ calls) each = (each 0 a refl, each_call P calls (λ k a at. each (suc k) a at))

-- ---- markers

-- a lifetime marker is declared, so that it is no inner call, and it does not promise not to return
pub marker_returns : (m : Module) (held : Fact → Bool) (o : Op) (f : Func) → callee_of m o ≡ Some f → is_lifetime f ≡ true → call_has m held NoReturn o ≡ false
unfolding is_promised
marker_returns m held o f callee marks =
    subst (λ found. has_by held NoReturn (list_any (is_written Noreturn) (promising_by (own_attrs o) found)) (callee_in (is_exact_in found) (direct_callee m o))
    ≡ false)
    (sym callee) (by (f.block_count == 0) (is_lifetime_name f.name) marks)
  where
    by : (declared named : Bool) → (declared && named) ≡ true →
        has_by held NoReturn (list_any (is_written Noreturn) (if declared then (if declared && named then lifetime_attrs f ∷ [] else attrs_of f ∷ own_attrs o)
        else []))
        (callee_in (not declared && not (is_replaceable f.linkage)) (direct_callee m o)) ≡ false
    by true true e = refl
    by true false e = absurd (cc)
    by false named e = absurd (cc)

module _ (m : Module) (formed : IsWellFormed m) (held : Fact → Bool) (is : JustifiesItself m held) where
  -- ---- what a lifetime marker does moves no frame

  turns_live : (t : State) (mem : Memory) (is_end : Bool) (d : Datum) (moves : List Move) →
      ((u : State) → u.stack ≡ t.stack → Along (C m formed held is) u moves) →
      Along (C m formed held is) t (turns mem is_end d moves)
  turns_live t mem is_end (datum.Ptr block offset) moves rest = by (is_dead (mem.life block)) is_end
    where
      by : (gone is_end : Bool) → Along (C m formed held is) t (if gone then moves else (if is_end then Turns block Closed ∷ moves
          else Turns block Live ∷ Fills block (λ at. byte.Undef) ∷ moves))
      by true is_end = rest t refl
      by false true = (tt, rest (moved t (Turns block Closed)) refl)
      by false false = (tt, (tt, rest (moved (moved t (Turns block Live)) (Fills block (λ at. byte.Undef))) refl))
  turns_live t mem is_end datum.Null moves rest = rest t refl
  turns_live t mem is_end datum.Undef moves rest = rest t refl
  turns_live t mem is_end datum.Poison moves rest = rest t refl
  turns_live t mem is_end (datum.Int bits) moves rest = rest t refl
  turns_live t mem is_end datum.Pair moves rest = rest t refl

  marks_live : (t : State) (mem : Memory) (is_end : Bool) (ws : List Written) (xs : List Value) (moves : List Move) →
      ((u : State) → u.stack ≡ t.stack → Along (C m formed held is) u moves) → Along (C m formed held is) t (marks_last m mem is_end ws xs moves)
  marks_live t mem is_end [] xs moves rest = rest t refl
  marks_live t mem is_end (w ∷ []) [] moves rest = rest t refl
  marks_live t mem is_end (w ∷ []) (x ∷ []) moves rest = by (is_alloca_result m w.val)
    where
      by : (b : Bool) → Along (C m formed held is) t (if b then turns mem is_end x.datum moves else moves)
      by true = turns_live t mem is_end x.datum moves rest
      by false = rest t refl
  marks_live t mem is_end (w ∷ []) (x ∷ y ∷ xs) moves rest = rest t refl
  marks_live t mem is_end (w ∷ v ∷ ws) [] moves rest = rest t refl
  marks_live t mem is_end (w ∷ v ∷ ws) (x ∷ xs) moves rest = marks_live t mem is_end (v ∷ ws) xs moves rest

  -- ---- who frees

  -- Down the stack: a call that frees nothing older calls only such calls, and these are younger than it.
  spared_by : (b : ℕ) (born : ℕ → ℕ) (next most : ℕ) (top : Frame) (below : List Frame) → AreLinked m top below → StandLive held (top ∷ below) →
      AreOrdered born next most (top ∷ below) →
      AllByRecursion (λ a. promises m Nofree a ≡ true → b < a.call.born → ⊥) (map active (top ∷ below)) → Spares m formed held is b (active top) →
      AllByRecursion (Spares m formed held is b) (map active (top ∷ below))
  spared_by b born next most top [] h live order fair spares = (spares, tt)
  spared_by b born next most top (Outside under ∷ below) h live order fair spares =
      (spares, spared_by b born (call_in top).number (call_in top).born (Outside under) below h.2 live.1 order.3 fair.1 fair.1.0)
  spared_by b born next most top (Body under ∷ below) h live order fair spares =
      (spares, spared_by b born (call_in top).number (call_in top).born (Body under) below h.2 live.1 order.3 fair.1 (by (instr_at m under.spot) refl))
    where
      older : under.call.born ≤ (call_in top).born
      older = order.3.1

      by : (found : Option Instr) → instr_at m under.spot ≡ found → Spares m formed held is b (active (Body under))
      by None at keeps low = absurd (subst (CallsBodyIn m (active top).body) at (subst (BeginsAs m (active top).body) h.1 (begins top below' h)))
        where
          below' : List Frame
          below' = Body under ∷ below

          begins : (top : Frame) (all : List Frame) → AreLinked m top all → BeginsAs m (active top).body (active top).call.made
          begins top [] h = h.0.0
          begins top (f ∷ fs) h = h.0.0
      by (Some instr) at keeps low =
          spares (has_over m formed held is NoFree Nofree top under below instr h at ∙
          called_keeps m held is under.func under.spot instr (stands_in m formed held is under below h.2) at live.1.0
          (calls_over m formed held is top under below instr h at).0 keeps)
          (omega (arith, low, older))

  -- ---- the steps

  abbrev Asked : State → List Move → Type 0
  Asked t moves = Given m formed held is (done t moves) → Along (C m formed held is) t moves

  module _ (t : State) (inv : Inv m formed held is t) where
    stack_links : (top : Frame) (below : List Frame) → t.stack ≡ top ∷ below → IsLinked m t.stack → AreLinked m top below
    stack_links top below e linked = subst (IsLinked m) e linked

    stack_live : (top : Frame) (below : List Frame) → t.stack ≡ top ∷ below → StandLive held (top ∷ below)
    stack_live top below e = subst (StandLive held) e inv

    silent_hidden : (calls : List Active) (volatile : Bool) (p : Value) → AllByRecursion (λ what. MayHappen m formed held is calls what) (hidden volatile p)
    silent_hidden calls true p = (tt, (tt, (tt, tt)))
    silent_hidden calls false p = tt

    silent_captures : (calls : List Active) (bytes : List Byte) → AllByRecursion (λ what. MayHappen m formed held is calls what) (captures_in bytes)
    silent_captures calls [] = tt
    silent_captures calls (byte.Fragment k x ∷ bytes) = (tt, silent_captures calls bytes)
    silent_captures calls (byte.Number n ∷ bytes) = silent_captures calls bytes
    silent_captures calls (byte.Undef ∷ bytes) = silent_captures calls bytes
    silent_captures calls (byte.Poison ∷ bytes) = silent_captures calls bytes

    body_lives : (frame : BodyFrame) (below : List Frame) (instr : Instr) → t.stack ≡ Body frame ∷ below → instr_at m frame.spot ≡ Some instr →
        EachKind m (here_in t frame below instr) (Asked t)
    body_lives frame below instr stack at =
        let here = here_in t frame below instr in
        let u = with_stack t (Body frame ∷ below) in
        let live = stack_live (Body frame) below stack in
        let next : held (dead_at (behind frame.spot)) ≡ false = live.0 in record {
          computing = λ picks x v gives has given. onto (C m formed held is) t (Body frame ∷ below) (Sets v.0 x ∷ Goes (behind frame.spot) ∷ []) stack (
            tt,
            (next, tt),
          );
          comparing = λ pred flagged a b x y z v op_is at_a at_b bare has given. onto (C m formed held is) t (Body frame ∷ below)
              (Says (Capture x.origins) ∷ Says (Capture y.origins) ∷ Sets v.0 z ∷ Goes (behind frame.spot) ∷ []) stack (tt, (tt, (tt, (next, tt))));
          exposing = λ flagged a x z v op_is at_a bare has given. onto (C m formed held is) t (Body frame ∷ below)
              (Says (Capture x.origins) ∷ Sets v.0 z ∷ Goes (behind frame.spot) ∷ []) stack (tt, (tt, (next, tt)));
          allocating = λ ty count written align base size v op_is can has given. onto (C m formed held is) t (Body frame ∷ below)
              (Grows (alloca_shape here v.0 base size) ∷ Sets v.0 (plain (datum.Ptr t.memory.count 0)) ∷ Goes (behind frame.spot) ∷ []) stack
              (tt, (tt, (next, tt)));
          loading = λ ptr align volatile p place x v op_is at_p can loaded has given. onto (C m formed held is) t (Body frame ∷ below)
              (says (Read place.block p.origins ∷ hidden volatile p) (Sets v.0 x ∷ Goes (behind frame.spot) ∷ [])) stack
              (whats_live m formed held is u (Read place.block p.origins ∷ hidden volatile p) (Sets v.0 x ∷ Goes (behind frame.spot) ∷ [])
              (tt, silent_hidden (map active (Body frame ∷ below)) volatile p) (tt, (next, tt)));
          storing = λ val ptr align volatile x p place op_is at_val at_ptr can given. onto (C m formed held is) t (Body frame ∷ below)
              (says (Write place.block p.origins ∷ Capture x.origins ∷ hidden volatile p)
              (Fills place.block (bytes_with t.memory place x) ∷ Goes (behind frame.spot) ∷ [])) stack
              (whats_live m formed held is u (Write place.block p.origins ∷ Capture x.origins ∷ hidden volatile p)
              (Fills place.block (bytes_with t.memory place x) ∷ Goes (behind frame.spot) ∷ [])
              (tt, (tt, silent_hidden (map active (Body frame ∷ below)) volatile p)) (tt, (next, tt)));
          branching = λ picks to moves leads gives given.
              let way = led m held here instr.op to leads in
              onto (C m formed held is) t (Body frame ∷ below) moves stack (crossing_live m formed held is (crossing m t.memory frame frame.values to) t frame
              below
              (subst (λ b. held (dead (first_seg_of m b)) ≡ false) way.leads
              (target_lives m formed held is frame below instr instr.op way.number way.edge (stack_links (Body frame) below stack given.0) live at refl
              way.is_edge
              way.free)) moves
              (crossed m (crossing m t.memory frame frame.values to) picks moves gives));
          calling_body = λ call xs args f is_call reads inner enters given.
              let new = Body (body_frame m t (passing_at here call xs) f args) in
              onto (C m formed held is) t (Body frame ∷ below) (Begins new ∷ Says (Enter f) ∷ []) stack (
                entry_lives m formed held is f (inner_has_blocks m instr.op f inner) (inner_called m formed held is f frame.spot instr at inner live.0),
                (tt, tt),
              );
          calling_outside = λ call callee xs is_call at_callee reads inner given.
              let args = passed_to m t (passing_at here call xs) in
              let new = Outside (record { call = begun_by m t (passing_at here call xs) args; hand = args }) in
              onto (C m formed held is) t (Body frame ∷ below) (Says (Capture callee.origins) ∷ Begins new ∷ []) stack (tt, (tt, tt));
          marking = λ call f xs picks moves is_call callee lifetime reads goes given.
              marks_live t t.memory (is_end_name f.name) call.args xs moves (λ w e.
              onto (C m formed held is) w (Body frame ∷ below) moves (e ∙ stack)
              (going_live m formed held is w t.memory frame below instr None (stack_links (Body frame) below stack given.0) live at
              (marker_returns m held instr.op f callee lifetime) moves (went_on m t.memory frame instr None picks moves goes)));
          returning = λ val x picks moves op_is reads back given.
              let mem = without_allocas frame.call.number t.memory in
              let h = stack_links (Body frame) below stack given.0 in
              let may = returned_may m held is frame.func frame.spot instr (stands_in m formed held is frame below h) at live.0
              (λ keeps. subst KeepsNoreturn op_is keeps) in
              onto (C m formed held is) t (Body frame ∷ below) (Says (Return x) ∷ Ends ∷ moves) stack (
                may,
                (
                  tt,
                  coming_live m formed held is (moved u Ends) mem (Some frame.func) (Body frame) below x h live.1 may moves
                      (came m mem (Some frame.func) below x picks moves back),
                ),
              );
          unwinding = λ val picks moves op_is gives given.
              let h = stack_links (Body frame) below stack given.0 in
              let may = resumed_may m held is frame.func frame.spot instr (stands_in m formed held is frame below h) at live.0
              (λ keeps. subst (KeepsNounwind m held) op_is keeps) in
              onto (C m formed held is) t (Body frame ∷ below) (Says Unwind ∷ Ends ∷ moves) stack (
                may,
                (
                  tt,
                  through_live m formed held is (moved u Ends) t.memory (Body frame) below h live.1 may moves
                      (went_through m t.memory below picks moves gives),
                ),
              );
        }

    taking_live : (u : State) (xs : List Value) → Along (C m formed held is) u (taking xs)
    taking_live u [] = tt
    taking_live u (x ∷ xs) = (tt, taking_live (moved u (Takes x)) xs)

    -- a promise that the event of the call on top would break is not made
    unpromised : (p : Promise) (frame : OutsideFrame) → (promised_at m p frame.call.made ≡ true → ⊥) → promised_at m p frame.call.made ≡ false
    unpromised p frame fails = by (promised_at m p frame.call.made) refl
      where
        by : (b : Bool) → promised_at m p frame.call.made ≡ b → b ≡ false
        by false e = refl
        by true e = absurd (fails e)

    outside_lives : (frame : OutsideFrame) (below : List Frame) → t.stack ≡ Outside frame ∷ below → EachAct m t frame below (Asked t)
    outside_lives frame below stack =
        let u = with_stack t (Outside frame ∷ below) in
        let live = stack_live (Outside frame) below stack in
        let calls : map active t.stack ≡ active (Outside frame) ∷ map active below = ap (map active) stack in record {
          reading = λ p size can given. (tt, taking_live t (pointers_in [] (reads_at t.memory p size)));
          writing = λ p bytes can given. (tt, whats_live m formed held is t (captures_in bytes) _ (silent_captures (map active t.stack) bytes) (tt, tt));
          hidden_reading = λ given. (tt, tt);
          hidden_writing = λ given. (tt, tt);
          making = λ base size can given. (tt, tt);
          freeing = λ block can given.
              let e = event t.stack (Free block) in
              let fair : IsFair m e = given.2.0 in
              let kept = each_call (λ a. promises m Nofree a ≡ true → block < a.call.born → ⊥) (map active t.stack)
              (λ k a at promised low. fair Nofree a promised (k, at) block refl low) in
              let kept_here = subst (AllByRecursion (λ a. promises m Nofree a ≡ true → block < a.call.born → ⊥)) calls kept in
              onto (C m formed held is) t (Outside frame ∷ below) (Says (Free block) ∷ Turns block Dead ∷ []) stack (
                spared_by block t.born t.next_call t.memory.count (Outside frame) below (stack_links (Outside frame) below stack given.0) live
                    (subst (AreOrdered t.born t.next_call t.memory.count) stack given.1) kept_here kept_here.0,
                (tt, tt),
              );
          keeping = λ x can given. (tt, (tt, tt));
          entering = λ f xs args is_open passes enters given.
              let new = Body (body_frame m t (passing_in m f xs) f args) in
              onto (C m formed held is) t (Outside frame ∷ below) (Begins new ∷ Says (Enter f) ∷ []) stack
              (entry_lives m formed held is f (open_has_blocks m f is_open) (open_called m formed held is f is_open), (tt, tt));
          returning = λ x picks moves can back given.
              let mem = without_allocas frame.call.number t.memory in
              let fair : IsFair m (event t.stack (Return x)) = given.2.0 in
              let may = unpromised Noreturn frame (λ promised. fair Noreturn (active (Outside frame)) promised (map active below, calls) x refl) in
              onto (C m formed held is) t (Outside frame ∷ below) (Says (Return x) ∷ Ends ∷ moves) stack (
                may,
                (
                  tt,
                  coming_live m formed held is (moved u Ends) mem None (Outside frame) below x (stack_links (Outside frame) below stack given.0) live.1 may
                      moves (came m mem None below x picks moves back),
                ),
              );
          unwinding = λ picks moves gives given.
              let fair : IsFair m (event t.stack Unwind) = given.2.0 in
              let may = unpromised Nounwind frame (λ promised. fair Nounwind (active (Outside frame)) promised (map active below, calls) refl) in
              onto (C m formed held is) t (Outside frame ∷ below) (Says Unwind ∷ Ends ∷ moves) stack (
                may,
                (
                  tt,
                  through_live m formed held is (moved u Ends) t.memory (Outside frame) below (stack_links (Outside frame) below stack given.0) live.1 may
                      moves (went_through m t.memory below picks moves gives),
                ),
              );
        }

  -- each step keeps the invariant, move by move
  pub control_step : Steps m (Inv m formed held is) (Given m formed held is) (C m formed held is)
  control_step t choice inv = by_step m t (Asked t) (record { body = body_lives t inv; outside = outside_lives t inv }) choice
