-- What a body returns is as the word of its return says, in the memory before the step.
use Rattle.std.proofs.Common.{◌≡◌, ℕ, Bool, true, false, List, [], ◌∷◌, Option, None, Some, refl, sym, ap, subst, ◌∙◌}
use Rattle.std.specs.List.{AllByRecursion}
use Rattle.std.proofs.lemmas.Option.{same_Some}
use Rattle.ir_module.specs.declared.op.Op.TheVariants as op
use Rattle.ir_module.specs.declared.op.Instr.{Instr}
use Rattle.ir_module.specs.declared.op.Written.{Written}
use Rattle.ir_module.specs.declared.module.Module.{Module}
use Rattle.ir_module.specs.Places.{instr_at, IsIn}
use Rattle.ir_module.specs.WellFormed.{IsWellFormed}
use Rattle.facts.specs.Facts.{Fact, dead_at}
use Rattle.ir_machine.specs.declared.choice.Byte.{Byte}
use Rattle.ir_machine.specs.declared.choice.Byte.TheVariants as byte
use Rattle.ir_machine.specs.declared.choice.Value.{Value}
use Rattle.ir_machine.specs.declared.choice.Choice.{Choice}
use Rattle.ir_machine.specs.Memory.{without_allocas}
use Rattle.ir_machine.specs.Frames.{Active, active, BodyFrame, OutsideFrame, Frame, Body, Outside, State, What, Enter, Read, Write, HiddenRead, HiddenWrite}
use Rattle.ir_machine.specs.Frames.{Free}
use Rattle.ir_machine.specs.Frames.{Capture, Return, Unwind, Event, event}
use Rattle.ir_machine.specs.Moves.{Move, Says, Fills, Sets, Goes, Ends, moved, says}
use Rattle.ir_machine.specs.Reading.{behind}
use Rattle.ir_machine.specs.Access.{hidden, bytes_with}
use Rattle.ir_machine.specs.Edges.{crossing}
use Rattle.ir_machine.specs.Calls.{body_frame, is_end_name}
use Rattle.ir_machine.specs.Outside.{pointers_in, reads_at, captures_in, written_at, block_in, taking}
use Rattle.ir_machine.specs.Steps.{plan}
use Rattle.ir_machine.specs.Runs.{Done, done}
use Rattle.ir_machine.specs.Links.{IsLinked}
use Rattle.ir_machine.specs.Meanings.{IsBy}
use Rattle.ir_machine.specs.Valid.{scope_of, IsValid, IsAmongFirst, Known as Valid, HasAll}
use Rattle.ir_machine.proofs.Carried.{operand_has}
use Rattle.ir_machine.proofs.Valid.{known_closed}
use Rattle.ir_machine.proofs.Basics.{OnOutcome, Along}
use Rattle.ir_machine.proofs.Instructions.{IsRead, IsReadOr, EachKind, EachAct, by_step, here_in, passing_at, passing_in}
use Rattle.ir_machine.proofs.Moving.{crossed, came, went_on, went_through, along_all, crossing_all, coming_all, going_all, through_all, taking_all}
use Rattle.law_premises.specs.Premises.{JustifiesItself, StandLive}
use Rattle.laws_pointer.proofs.Good.{IsGood}
use Rattle.laws_pointer.proofs.Rules.{operand_good}
use Rattle.laws_pointer.proofs.Results.{return_word}
use Rattle.laws_pointer.proofs.Stepping.{Given, Good, Inv, stands_in}
use Rattle.laws_pointer.proofs.Acting.{ret_good}
use Rattle.laws_pointer.proofs.Quiet.{Says_well, IsQuiet, quiet_says, marks_quiet}

module _ (m : Module) (formed : IsWellFormed m) (held : Fact → Bool) (is : JustifiesItself m held) where
  -- what a call of a body returns: as the word of its return says, an operand of a `ret` that was read there
  pub record Returns (t : State) (a : Active) (x : Value) (f : ℕ) : Type 0 where
    pub good : IsGood m t.memory a.call (return_word m held is f) x.datum
    pub low : IsAmongFirst t.memory.count x.datum
    pub frame : BodyFrame
    pub below : List Frame
    pub instr : Instr
    pub written : Written
    pub stack : t.stack ≡ Body frame ∷ below
    pub func : frame.func ≡ f
    pub at : instr_at m frame.spot ≡ Some instr
    pub stands : IsIn m frame.func frame.spot
    pub is_ret : instr.op ≡ op.Ret (Some written)
    pub reads : IsRead m (here_in t frame below instr) written x

  -- so in this event
  abbrev pub ReturnsGood : State → Event → Type 0
  ReturnsGood t e = (a : Active) (x : Value) (f : ℕ) → a.body ≡ Some f → IsBy a e → e.what ≡ Return (Some x) → Returns t a x f

  -- what is known of a step
  pub record Known (d : Done) : Type 0 where
    pub given : Given m held d
    pub valid : IsValid d.before
    pub inv : Inv m formed held is d.before

  abbrev NoReturn : What → Type 0
  NoReturn (Return x) = ⊥
  NoReturn _ = Unit {0}

  silent : (t : State) (stack : List Frame) (what : What) → NoReturn what → ReturnsGood t (event stack what)
  silent t stack (Return y) none a x f body by e = absurd none
  silent t stack (Enter g) none a x f body by e = absurd (cc)
  silent t stack (Read b origins) none a x f body by e = absurd (cc)
  silent t stack (Write b origins) none a x f body by e = absurd (cc)
  silent t stack HiddenRead none a x f body by e = absurd (cc)
  silent t stack HiddenWrite none a x f body by e = absurd (cc)
  silent t stack (Free b) none a x f body by e = absurd (cc)
  silent t stack (Capture origins) none a x f body by e = absurd (cc)
  silent t stack Unwind none a x f body by e = absurd (cc)

  quiet : (t u : State) (moves : List Move) → AllByRecursion (IsQuiet NoReturn) moves → Along (Says_well (ReturnsGood t)) u moves
  quiet t u moves all = along_all (Says_well (ReturnsGood t)) (IsQuiet NoReturn) (quiet_says NoReturn (ReturnsGood t) (silent t)) u moves all

  says_quiet : (whats : List What) (moves : List Move) → AllByRecursion NoReturn whats → AllByRecursion (IsQuiet NoReturn) moves →
      AllByRecursion (IsQuiet NoReturn) (says whats moves)
  says_quiet [] moves none all = all
  says_quiet (what ∷ whats) moves none all = (none.0, says_quiet whats moves none.1 all)

  hidden_quiet : (volatile : Bool) (p : Value) → AllByRecursion NoReturn (hidden volatile p)
  hidden_quiet true p = (tt, (tt, (tt, tt)))
  hidden_quiet false p = tt

  captures_quiet : (bytes : List Byte) → AllByRecursion NoReturn (captures_in bytes)
  captures_quiet [] = tt
  captures_quiet (byte.Fragment k x ∷ bytes) = (tt, captures_quiet bytes)
  captures_quiet (byte.Number n ∷ bytes) = captures_quiet bytes
  captures_quiet (byte.Undef ∷ bytes) = captures_quiet bytes
  captures_quiet (byte.Poison ∷ bytes) = captures_quiet bytes

  abbrev Q : State → List Move → Type 0
  Q t moves = Known (done t moves) → Along (Says_well (ReturnsGood t)) t moves

  body_returns : (t : State) (frame : BodyFrame) (below : List Frame) (instr : Instr) → t.stack ≡ Body frame ∷ below → instr_at m frame.spot ≡ Some instr →
      (val : Option Written) (x : Option Value) → instr.op ≡ op.Ret val → IsReadOr m (here_in t frame below instr) val x → IsValid t → Inv m formed held is t →
      IsLinked m t.stack → held (dead_at frame.spot) ≡ false → ReturnsGood t (event (Body frame ∷ below) (Return x))
  body_returns t frame below instr stack at None None op_is reads valid inv linked live a y f body by e = absurd (cc)
  body_returns t frame below instr stack at None (Some x) op_is reads valid inv linked live a y f body by e = absurd reads
  body_returns t frame below instr stack at (Some w) None op_is reads valid inv linked live a y f body by e = absurd reads
  body_returns t frame below instr stack at (Some w) (Some x) op_is reads valid inv linked live a y f body (rest, by) e =
      let one : active (Body frame) ≡ a = cc in
      let same : x ≡ y = cc in
      let func : frame.func ≡ f = same_Some frame.func f (ap (λ (a : Active). a.body) one ∙ body) in
      let values = (subst (AllByRecursion (Good m formed held is t.memory)) stack inv.frames).0.kind.values in
      let stands = stands_in m formed held is frame below (subst (IsLinked m) stack linked) in
      let good = ret_good m formed held is t frame below instr w x stands at live op_is
      (operand_good m held is (here_in t frame below instr) (scope_of t) valid.blocks inv.homes values 0 w x reads) in
      let known = (subst (AllByRecursion (HasAll (Valid (scope_of t)))) stack valid.known.frames).0.1 in
      record {
        good = subst (λ (a : Active). IsGood m t.memory a.call (return_word m held is f) y.datum) one
            (subst (λ (y : Value). IsGood m t.memory frame.call (return_word m held is f) y.datum) same
            (subst (λ f. IsGood m t.memory frame.call (return_word m held is f) x.datum) func good));
        low = subst (λ (y : Value). IsAmongFirst t.memory.count y.datum) same
            (operand_has t.memory.count (Valid (scope_of t)) (known_closed.carried (scope_of t)) m (here_in t frame below instr) refl
            (λ s b home. (valid.blocks.homes s b home).0) known w x reads).0;
        frame = frame;
        below = below;
        instr = instr;
        written = w;
        stack = stack;
        func = func;
        at = at;
        stands = stands;
        is_ret = op_is;
        reads = subst (IsRead m (here_in t frame below instr) w) same reads;
      }

  outside_returns : (t : State) (frame : OutsideFrame) (below : List Frame) (x : Option Value) → ReturnsGood t (event (Outside frame ∷ below) (Return x))
  outside_returns t frame below x a y f body (rest, by) e =
      let one : active (Outside frame) ≡ a = cc in absurd (none (ap (λ (a : Active). a.body) one ∙ body))
    where
      none : None ≡ Some f → ⊥
      none e = cc

  body_step : (t : State) (frame : BodyFrame) (below : List Frame) (instr : Instr) → t.stack ≡ Body frame ∷ below → instr_at m frame.spot ≡ Some instr →
      EachKind m (here_in t frame below instr) (Q t)
  body_step t frame below instr stack at = record {
    computing = λ picks x v gives has given. (tt, (tt, tt));
    comparing = λ pred flagged a b x y z v op_is at_a at_b bare has given.
        quiet t t (Says (Capture x.origins) ∷ Says (Capture y.origins) ∷ Sets v.0 z ∷ Goes (behind frame.spot) ∷ []) (tt, (tt, (tt, (tt, tt))));
    exposing = λ flagged a x z v op_is at_a bare has given.
        quiet t t (Says (Capture x.origins) ∷ Sets v.0 z ∷ Goes (behind frame.spot) ∷ []) (tt, (tt, (tt, tt)));
    allocating = λ ty count written align base size v op_is can has given. (tt, (tt, (tt, tt)));
    loading = λ ptr align volatile p place x v op_is at_p can loaded has given.
        quiet t t (says (Read place.block p.origins ∷ hidden volatile p) (Sets v.0 x ∷ Goes (behind frame.spot) ∷ []))
        (says_quiet (Read place.block p.origins ∷ hidden volatile p) (Sets v.0 x ∷ Goes (behind frame.spot) ∷ []) (tt, hidden_quiet volatile p) (tt, (tt, tt)));
    storing = λ val ptr align volatile x p place op_is at_val at_ptr can given.
        quiet t t (says (Write place.block p.origins ∷ Capture x.origins ∷ hidden volatile p)
        (Fills place.block (bytes_with t.memory place x) ∷ Goes (behind frame.spot) ∷ []))
        (says_quiet (Write place.block p.origins ∷ Capture x.origins ∷ hidden volatile p)
        (Fills place.block (bytes_with t.memory place x) ∷ Goes (behind frame.spot) ∷ []) (tt, (tt, hidden_quiet volatile p)) (tt, (tt, tt)));
    branching = λ picks to moves leads gives given.
        quiet t t moves (crossing_all (IsQuiet NoReturn) (λ v x. tt) (λ s. tt) (λ x. tt) m (crossing m t.memory frame frame.values to) moves
        (crossed m (crossing m t.memory frame frame.values to) picks moves gives));
    calling_body = λ call xs args f is_call reads inner enters given.
        (tt, (silent t (Body (body_frame m t (passing_at (here_in t frame below instr) call xs) f args) ∷ t.stack) (Enter f) tt, tt));
    calling_outside = λ call callee xs is_call at_callee reads inner given. (silent t t.stack (Capture callee.origins) tt, (tt, tt));
    marking = λ call f xs picks moves is_call callee lifetime reads goes given.
        quiet t t _ (marks_quiet NoReturn m t.memory (is_end_name f.name) call.args xs moves
        (going_all (IsQuiet NoReturn) (λ v x. tt) (λ s. tt) (λ x. tt) m t.memory frame instr None moves
        (went_on m t.memory frame instr None picks moves goes)));
    returning = λ val x picks moves op_is reads back known.
        let mem = without_allocas frame.call.number t.memory in (
          subst (λ s. ReturnsGood t (event s (Return x))) (sym stack)
              (body_returns t frame below instr stack at val x op_is reads known.valid known.inv known.given.linked
              (subst (StandLive held) stack known.given.controlled.live).0),
          (
            tt,
            quiet t (moved t Ends) moves (coming_all (IsQuiet NoReturn) (λ v x. tt) (λ s. tt) (λ x. tt) m mem (Some frame.func) below x moves
                (came m mem (Some frame.func) below x picks moves back)),
          ),
        );
    unwinding = λ val picks moves op_is gives given. (
      silent t t.stack Unwind tt,
      (
        tt,
        quiet t (moved t Ends) moves (through_all (IsQuiet NoReturn) (λ v x. tt) (λ s. tt) (λ x. tt) tt tt m t.memory below moves
            (went_through m t.memory below picks moves gives)),
      ),
    );
  }

  outside_step : (t : State) (frame : OutsideFrame) (below : List Frame) → t.stack ≡ Outside frame ∷ below → EachAct m t frame below (Q t)
  outside_step t frame below stack = record {
    reading = λ p size can given. (
      silent t t.stack (Read (block_in p.datum) p.origins) tt,
      quiet t t (taking (pointers_in [] (reads_at t.memory p size)))
          (taking_all (IsQuiet NoReturn) (λ v x. tt) (λ s. tt) (λ x. tt) (pointers_in [] (reads_at t.memory p size))),
    );
    writing = λ p bytes can given.
        quiet t t (says (Write (block_in p.datum) p.origins ∷ captures_in bytes) (Fills (block_in p.datum) (written_at t.memory p bytes) ∷ []))
        (says_quiet (Write (block_in p.datum) p.origins ∷ captures_in bytes) (Fills (block_in p.datum) (written_at t.memory p bytes) ∷ [])
        (tt, captures_quiet bytes) (tt, tt));
    hidden_reading = λ given. (silent t t.stack HiddenRead tt, tt);
    hidden_writing = λ given. (silent t t.stack HiddenWrite tt, tt);
    making = λ base size can given. (tt, tt);
    freeing = λ block can given. (silent t t.stack (Free block) tt, (tt, tt));
    keeping = λ x can given. (silent t t.stack (Capture x.origins) tt, (tt, tt));
    entering = λ f xs args open' passes enters given.
        (tt, (silent t (Body (body_frame m t (passing_in m f xs) f args) ∷ t.stack) (Enter f) tt, tt));
    returning = λ x picks moves can back given.
        let mem = without_allocas frame.call.number t.memory in (
          subst (λ s. ReturnsGood t (event s (Return x))) (sym stack) (outside_returns t frame below x),
          (
            tt,
            quiet t (moved t Ends) moves (coming_all (IsQuiet NoReturn) (λ v x. tt) (λ s. tt) (λ x. tt) m mem None below x moves
                (came m mem None below x picks moves back)),
          ),
        );
    unwinding = λ picks moves gives given. (
      silent t t.stack Unwind tt,
      (
        tt,
        quiet t (moved t Ends) moves (through_all (IsQuiet NoReturn) (λ v x. tt) (λ s. tt) (λ x. tt) tt tt m t.memory below moves
            (went_through m t.memory below picks moves gives)),
      ),
    );
  }

  pub returns_step : (t : State) (choice : Choice) → OnOutcome (Q t) (plan m t choice)
  returns_step t choice = by_step m t (Q t) (record { body = body_step t; outside = outside_step t }) choice
