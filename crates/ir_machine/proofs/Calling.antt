-- Steps by whether a call begins in them: three kinds do begin one, and of all others one thing is asked.
use Rattle.std.proofs.Common.{◌≡◌, ℕ, Bool, true, false, if◌then◌else◌, List, [], ◌∷◌, None, Some}
use Rattle.std.specs.List.{AllByRecursion}
use Rattle.ir_module.specs.declared.op.Instr.{Instr}
use Rattle.ir_module.specs.declared.op.Written.{Written}
use Rattle.ir_module.specs.declared.module.Module.{Module}
use Rattle.ir_machine.specs.declared.choice.Datum.{Datum}
use Rattle.ir_machine.specs.declared.choice.Datum.TheVariants as datum
use Rattle.ir_machine.specs.declared.choice.Value.{Value}
use Rattle.ir_machine.specs.declared.choice.Byte.TheVariants as byte
use Rattle.ir_machine.specs.declared.choice.Choice.{Choice}
use Rattle.ir_machine.specs.Memory.{Memory, Heap, Live, Closed, Dead, is_dead, without_allocas}
use Rattle.ir_machine.specs.Frames.{BodyFrame, OutsideFrame, Frame, Body, Outside, State, What, Enter, Read, Write, HiddenRead, HiddenWrite, Free, Capture}
use Rattle.ir_machine.specs.Frames.{Return, Unwind}
use Rattle.ir_machine.specs.Moves.{Gives, Move, Says, Grows, Turns, Fills, Keeps, Sets, Goes, Takes, Begins, Ends, says}
use Rattle.ir_machine.specs.Values.{plain}
use Rattle.ir_machine.specs.Reading.{behind}
use Rattle.ir_machine.specs.Access.{alloca_shape, bytes_with, hidden}
use Rattle.ir_machine.specs.Edges.{crossing}
use Rattle.ir_machine.specs.Calls.{is_end_name, marks_last, turns, is_alloca_result, passed_to, params_of, entered, begun_by, body_frame}
use Rattle.ir_module.specs.declared.op.Call.{Call}
use Rattle.ir_module.specs.Places.{instr_at}
use Rattle.ir_module.specs.Calls.{call_of, inner_callee, is_open}
use Rattle.ir_machine.specs.Outside.{can_pass, block_in, written_at, pointers_in, reads_at, taking, captures_in}
use Rattle.ir_machine.specs.Steps.{plan}
use Rattle.ir_machine.proofs.Basics.{OnOutcome}
use Rattle.ir_machine.proofs.Instructions.{AreRead, passing_at, passing_in, EachKind, EachAct, by_step, here_in}
use Rattle.ir_machine.proofs.Moving.{crossed, came, went_on, went_through, crossing_all, coming_all, going_all, through_all, taking_all}

-- the move begins no call
abbrev pub IsNoCall : Move → Type 0
IsNoCall (Begins frame) = ⊥
IsNoCall (Says what) = Unit {0}
IsNoCall (Grows shape) = Unit {0}
IsNoCall (Turns block life') = Unit {0}
IsNoCall (Fills block bytes) = Unit {0}
IsNoCall (Keeps x) = Unit {0}
IsNoCall (Sets v x) = Unit {0}
IsNoCall (Goes spot) = Unit {0}
IsNoCall (Takes x) = Unit {0}
IsNoCall Ends = Unit {0}

says_no_call : (whats : List What) (moves : List Move) → AllByRecursion IsNoCall moves → AllByRecursion IsNoCall (says whats moves)
says_no_call [] moves none = none
says_no_call (what ∷ whats) moves none = (tt, says_no_call whats moves none)

turns_no_call : (mem : Memory) (is_end : Bool) (d : Datum) (moves : List Move) → AllByRecursion IsNoCall moves →
    AllByRecursion IsNoCall (turns mem is_end d moves)
turns_no_call mem is_end (datum.Ptr block offset) moves none = by (is_dead (mem.life block)) is_end
  where
    by : (dead is_end : Bool) → AllByRecursion IsNoCall (if dead then moves else (if is_end then Turns block Closed ∷ moves
        else Turns block Live ∷ Fills block (λ at. byte.Undef) ∷ moves))
    by true is_end = none
    by false true = (tt, none)
    by false false = (tt, (tt, none))
turns_no_call mem is_end datum.Null moves none = none
turns_no_call mem is_end datum.Undef moves none = none
turns_no_call mem is_end datum.Poison moves none = none
turns_no_call mem is_end (datum.Int bits) moves none = none
turns_no_call mem is_end datum.Pair moves none = none

marks_no_call : (m : Module) (mem : Memory) (is_end : Bool) (ws : List Written) (xs : List Value) (moves : List Move) → AllByRecursion IsNoCall moves →
    AllByRecursion IsNoCall (marks_last m mem is_end ws xs moves)
marks_no_call m mem is_end [] xs moves none = none
marks_no_call m mem is_end (w ∷ []) [] moves none = none
marks_no_call m mem is_end (w ∷ []) (x ∷ []) moves none = by (is_alloca_result m w.val)
  where
    by : (b : Bool) → AllByRecursion IsNoCall (if b then turns mem is_end x.datum moves else moves)
    by true = turns_no_call mem is_end x.datum moves none
    by false = none
marks_no_call m mem is_end (w ∷ []) (x ∷ y ∷ xs) moves none = none
marks_no_call m mem is_end (w ∷ v ∷ ws) [] moves none = none
marks_no_call m mem is_end (w ∷ v ∷ ws) (x ∷ xs) moves none = marks_no_call m mem is_end (v ∷ ws) xs moves none

-- Q of the moves of each step in which a call begins
pub record CallsBegin (m : Module) (t : State) (Q : List Move → Type 0) : Type 0 where
  pub body : (frame : BodyFrame) (below : List Frame) (instr : Instr) (call : Call) (xs args : List Value) (f : ℕ) → t.stack ≡ Body frame ∷ below →
      instr_at m frame.spot ≡ Some instr → call_of instr.op ≡ Some call → AreRead m (here_in t frame below instr) call.args xs →
      inner_callee m instr.op ≡ Some f →
      entered t.memory (params_of m f) (passed_to m t (passing_at (here_in t frame below instr) call xs)) ≡ Gives args →
      Q (Begins (Body (body_frame m t (passing_at (here_in t frame below instr) call xs) f args)) ∷ Says (Enter f) ∷ [])
  pub outer : (frame : BodyFrame) (below : List Frame) (instr : Instr) (call : Call) (callee : Value) (xs : List Value) → t.stack ≡ Body frame ∷ below →
      instr_at m frame.spot ≡ Some instr → call_of instr.op ≡ Some call → AreRead m (here_in t frame below instr) call.args xs →
      inner_callee m instr.op ≡ None →
      let passing = passing_at (here_in t frame below instr) call xs in
      Q (Says (Capture callee.origins) ∷
      Begins (Outside (record { call = begun_by m t passing (passed_to m t passing); hand = passed_to m t passing })) ∷ [])
  pub entered : (frame : OutsideFrame) (below : List Frame) (f : ℕ) (xs args : List Value) → t.stack ≡ Outside frame ∷ below → is_open m f ≡ true →
      can_pass m t frame (params_of m f) xs ≡ true → entered t.memory (params_of m f) (passed_to m t (passing_in m f xs)) ≡ Gives args →
      Q (Begins (Body (body_frame m t (passing_in m f xs) f args)) ∷ Says (Enter f) ∷ [])

module _ (m : Module) (t : State) (Q : List Move → Type 0) (quiet : (moves : List Move) → AllByRecursion IsNoCall moves →
    Q moves) (begins : CallsBegin m t Q) where
  body_calls : (frame : BodyFrame) (below : List Frame) (instr : Instr) → t.stack ≡ Body frame ∷ below → instr_at m frame.spot ≡ Some instr →
      EachKind m (here_in t frame below instr) Q
  body_calls frame below instr stack stands = record {
    computing = λ picks x v gives has. quiet (Sets v.0 x ∷ Goes (behind frame.spot) ∷ []) (tt, (tt, tt));
    comparing = λ pred flagged a b x y z v is at_a at_b bare has. quiet (Says (Capture x.origins) ∷ Says (Capture y.origins) ∷ Sets v.0 z ∷ Goes
        (behind frame.spot) ∷ []) (tt, (tt, (tt, (tt, tt))));
    exposing = λ flagged a x z v is at bare has. quiet (Says (Capture x.origins) ∷ Sets v.0 z ∷ Goes (behind frame.spot) ∷ []) (tt, (tt, (tt, tt)));
    allocating = λ ty count written align base size v is can has. quiet
        (Grows (alloca_shape (here_in t frame below instr) v.0 base size) ∷ Sets v.0 (plain (datum.Ptr t.memory.count 0)) ∷ Goes (behind frame.spot) ∷ [])
        (tt, (tt, (tt, tt)));
    loading = λ ptr align volatile p place x v is at can loaded has.
        quiet (says (Read place.block p.origins ∷ hidden volatile p) (Sets v.0 x ∷ Goes (behind frame.spot) ∷ []))
        (says_no_call (Read place.block p.origins ∷ hidden volatile p) (Sets v.0 x ∷ Goes (behind frame.spot) ∷ []) (tt, (tt, tt)));
    storing = λ val ptr align volatile x p place is at_val at_ptr can.
        quiet (says (Write place.block p.origins ∷ Capture x.origins ∷ hidden volatile p) (Fills place.block (bytes_with t.memory place x) ∷ Goes
        (behind frame.spot) ∷ []))
        (says_no_call (Write place.block p.origins ∷ Capture x.origins ∷ hidden volatile p)
        (Fills place.block (bytes_with t.memory place x) ∷ Goes (behind frame.spot) ∷ []) (tt, (tt, tt)));
    branching = λ picks to moves leads gives.
        quiet moves (crossing_all IsNoCall (λ v x. tt) (λ s. tt) (λ x. tt) m (crossing m t.memory frame frame.values to) moves
        (crossed m (crossing m t.memory frame frame.values to) picks moves gives));
    calling_body = λ call xs args f is at inner enters. begins.body frame below instr call xs args f stack stands is at inner enters;
    calling_outside = λ call callee xs is at_callee at inner. begins.outer frame below instr call callee xs stack stands is at inner;
    marking = λ call f xs picks moves is callee lifetime at goes.
        quiet (marks_last m t.memory (is_end_name f.name) call.args xs moves) (marks_no_call m t.memory (is_end_name f.name) call.args xs moves
        (going_all IsNoCall (λ v x. tt) (λ s. tt) (λ x. tt) m t.memory frame instr None moves (went_on m t.memory frame instr None picks moves goes)));
    returning = λ val x picks moves is at back.
        quiet (Says (Return x) ∷ Ends ∷ moves) (
          tt,
          (
            tt,
            coming_all IsNoCall (λ v x. tt) (λ s. tt) (λ x. tt) m (without_allocas frame.call.number t.memory) (Some frame.func) below x moves
                (came m (without_allocas frame.call.number t.memory) (Some frame.func) below x picks moves back),
          ),
        );
    unwinding = λ val picks moves is gives.
        quiet (Says Unwind ∷ Ends ∷ moves) (
          tt,
          (
            tt,
            through_all IsNoCall (λ v x. tt) (λ s. tt) (λ x. tt) tt tt m t.memory below moves
                (went_through m t.memory below picks moves gives),
          ),
        );
  }

  outside_calls : (frame : OutsideFrame) (below : List Frame) → t.stack ≡ Outside frame ∷ below → EachAct m t frame below Q
  outside_calls frame below stack = record {
    reading = λ p size can. quiet (Says (Read (block_in p.datum) p.origins) ∷ taking (pointers_in [] (reads_at t.memory p size)))
        (tt, taking_all IsNoCall (λ v x. tt) (λ s. tt) (λ x. tt) (pointers_in [] (reads_at t.memory p size)));
    writing = λ p bytes can. quiet (says (Write (block_in p.datum) p.origins ∷ captures_in bytes) (Fills (block_in p.datum) (written_at t.memory p bytes) ∷ []))
        (tt, says_no_call (captures_in bytes) (Fills (block_in p.datum) (written_at t.memory p bytes) ∷ []) (tt, tt));
    hidden_reading = quiet (Says HiddenRead ∷ []) (tt, tt);
    hidden_writing = quiet (Says HiddenWrite ∷ []) (tt, tt);
    making = λ base size can. quiet (Grows (record { size = size; base = base; kind = Heap }) ∷ []) (tt, tt);
    freeing = λ block can. quiet (Says (Free block) ∷ Turns block Dead ∷ []) (tt, (tt, tt));
    keeping = λ x can. quiet (Says (Capture x.origins) ∷ Keeps x ∷ []) (tt, (tt, tt));
    entering = λ f xs args is_open passes enters. begins.entered frame below f xs args stack is_open passes enters;
    returning = λ x picks moves can back.
        quiet (Says (Return x) ∷ Ends ∷ moves) (
          tt,
          (
            tt,
            coming_all IsNoCall (λ v x. tt) (λ s. tt) (λ x. tt) m (without_allocas frame.call.number t.memory) None below x moves
                (came m (without_allocas frame.call.number t.memory) None below x picks moves back),
          ),
        );
    unwinding = λ picks moves gives.
        quiet (Says Unwind ∷ Ends ∷ moves) (
          tt,
          (
            tt,
            through_all IsNoCall (λ v x. tt) (λ s. tt) (λ x. tt) tt tt m t.memory below moves
                (went_through m t.memory below picks moves gives),
          ),
        );
  }

  -- Q holds of every step if it does of each in which a call begins, and of all moves in which none does
  pub by_calls : (choice : Choice) → OnOutcome Q (plan m t choice)
  by_calls choice = by_step m t Q (record { body = body_calls; outside = outside_calls }) choice
