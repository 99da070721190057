-- Where a call begins, its arguments are what its operands were read as in the memory that the step leaves.
use Rattle.std.proofs.Common.{arith, ◌≡◌, ◌+◌, ◌<◌, ℕ, zero, suc, Bool, true, false, if◌then◌else◌, List, [], ◌∷◌, map, slice_get, Some, All, refl, sym, ap}
use Rattle.std.proofs.Common.{subst, ◌∙◌}
use Rattle.std.specs.List.{AllByRecursion}
use Rattle.std.proofs.lemmas.Option.{none-some, same_Some}
use Rattle.std.proofs.lemmas.List.Elements.{All-from_recursion}
use Rattle.ir_module.specs.declared.op.Call.{Call}
use Rattle.ir_module.specs.declared.op.Instr.{Instr}
use Rattle.ir_module.specs.declared.op.Written.{Written}
use Rattle.ir_module.specs.declared.module.Spot.{Spot}
use Rattle.ir_module.specs.declared.module.Module.{Module}
use Rattle.ir_module.specs.Places.{instr_at}
use Rattle.ir_module.specs.Calls.{call_of}
use Rattle.ir_machine.specs.declared.choice.Choice.{Choice}
use Rattle.ir_machine.specs.declared.choice.Value.{Value}
use Rattle.ir_machine.specs.Frames.{At, Entered, Begun, BodyFrame, Frame, Body, Outside, Active, call_of as call_in, State, Enter, Capture}
use Rattle.ir_machine.specs.Moves.{Move, Says, Grows, Turns, Fills, Keeps, Sets, Goes}
use Rattle.ir_machine.specs.Moves.{Takes, Begins, Ends, Gives, moved, after, set_on_top, gone_on_top, taken_on_top}
use Rattle.ir_machine.specs.Moves.{under_top}
use Rattle.ir_machine.specs.Values.{marked}
use Rattle.ir_machine.specs.Reading.{is_pointer, Values, read}
use Rattle.ir_machine.specs.Calls.{marked_at, marked_args, passed_to, begun_by, body_frame}
use Rattle.ir_machine.specs.Steps.{plan}
use Rattle.ir_machine.specs.Runs.{Done, done, IsOpening, run}
use Rattle.ir_machine.specs.Valid.{AreOrdered}
use Rattle.ir_machine.specs.Meanings.{BeginsIn}
use Rattle.ir_machine.proofs.Basics.{OnOutcome}
use Rattle.ir_machine.proofs.Instructions.{IsRead, AreRead, passing_at, passing_in, here_in}
use Rattle.ir_machine.proofs.Calling.{IsNoCall, by_calls}
use Rattle.ir_machine.proofs.Opening.{opening_valid}
use Rattle.ir_machine.proofs.Running.{IsValidStep, all_valid}
use Rattle.laws_of_control.proofs.Holding.{run_given}

-- the operand is read as a value with the datum of x, for some values of a frame
pub record IsReadAs (m : Module) (d : Done) (w : Written) (x : Value) : Type 0 where
  pub values : Values
  pub picks : List ℕ
  pub rest : List ℕ
  pub value : Value
  pub is : read m d.next.memory values w picks ≡ Gives (record { value = value; picks = rest })
  pub datum : value.datum ≡ x.datum

-- so of each argument of a call that begins in the step at a call instruction
abbrev pub ArgsAreRead : Module → Done → Type 0
ArgsAreRead m d = (a : Active) (s : Spot) (instr : Instr) (call : Call) (at : ℕ) (w : Written) (x : Value) → BeginsIn d a → a.call.made ≡ At s →
    instr_at m s ≡ Some instr → call_of instr.op ≡ Some call → slice_get call.args at ≡ Some w → slice_get a.call.passed at ≡ Some x → IsReadAs m d w x

-- ---- steps in which no call begins

abbrev AreBelow : ℕ → List Frame → Type 0
AreBelow n stack = AllByRecursion (λ f. (call_in f).number < n) stack

ordered_below : (born : ℕ → ℕ) (next most n : ℕ) (stack : List Frame) → (next < n + 1) → AreOrdered born next most stack → AreBelow n stack
ordered_below born next most n [] le is = tt
ordered_below born next most n (f ∷ below) le is =
    (omega (arith, is.0), ordered_below born (call_in f).number (call_in f).born n below (omega (arith, is.0)) is.3)

set_below : (n v : ℕ) (x : Value) (stack : List Frame) → AreBelow n stack → AreBelow n (set_on_top v x stack)
set_below n v x [] is = is
set_below n v x (Body f ∷ below) is = is
set_below n v x (Outside f ∷ below) is = is

gone_below : (n : ℕ) (s : Spot) (stack : List Frame) → AreBelow n stack → AreBelow n (gone_on_top s stack)
gone_below n s [] is = is
gone_below n s (Body f ∷ below) is = is
gone_below n s (Outside f ∷ below) is = is

taken_below : (n : ℕ) (x : Value) (stack : List Frame) → AreBelow n stack → AreBelow n (taken_on_top x stack)
taken_below n x [] is = is
taken_below n x (Body f ∷ below) is = is
taken_below n x (Outside f ∷ below) is = is

under_below : (n : ℕ) (stack : List Frame) → AreBelow n stack → AreBelow n (under_top stack)
under_below n [] is = is
under_below n (f ∷ below) is = is.1

move_below : (n : ℕ) (t : State) (x : Move) → IsNoCall x → AreBelow n t.stack → AreBelow n (moved t x).stack
move_below n t (Begins frame) none is = absurd none
move_below n t (Says what) none is = is
move_below n t (Grows shape) none is = is
move_below n t (Turns block life') none is = is
move_below n t (Fills block bytes) none is = is
move_below n t (Keeps x) none is = is
move_below n t (Sets v x) none is = set_below n v x t.stack is
move_below n t (Goes spot) none is = gone_below n spot t.stack is
move_below n t (Takes x) none is = taken_below n x t.stack is
move_below n t Ends none is = under_below n t.stack is

moves_below : (n : ℕ) (t : State) (moves : List Move) → AllByRecursion IsNoCall moves → AreBelow n t.stack → AreBelow n (after t moves).stack
moves_below n t [] none is = is
moves_below n t (x ∷ moves) none is = moves_below n (moved t x) moves none.1 (move_below n t x none.0 is)

-- ---- arguments

module _ (m : Module) where
  marked_datum : (call j : ℕ) (w : Written) (x : Value) → (marked_at m call j w.ty x).datum ≡ x.datum
  marked_datum call j w x = by (is_pointer m w.ty)
    where
      by : (b : Bool) → (if b then marked (record { call = call; param = j }) x else x).datum ≡ x.datum
      by true = refl
      by false = refl

  arg_read : (t : State) (frame : BodyFrame) (below : List Frame) (instr : Instr) (number j : ℕ) (ws : List Written) (xs : List Value) →
      AreRead m (here_in t frame below instr) ws xs → (at : ℕ) (w : Written) (x : Value) → slice_get ws at ≡ Some w →
      slice_get (marked_args m number j (map (λ v. v.ty) ws) xs) at ≡ Some x →
      (y : Value) × IsRead m (here_in t frame below instr) w y × (y.datum ≡ x.datum)
  arg_read t frame below instr number j [] xs are at w x written is = absurd (none-some w written)
  arg_read t frame below instr number j (v ∷ ws) [] are at w x written is = absurd are
  arg_read t frame below instr number j (v ∷ ws) (y ∷ xs) are zero w x written is =
      let one : v ≡ w = same_Some v w written in
      let same : marked_at m number j v.ty y ≡ x = same_Some (marked_at m number j v.ty y) x is in
      (y, subst (λ u. IsRead m (here_in t frame below instr) u y) one are.0, sym (marked_datum number j v y) ∙ ap (λ z. z.datum) same)
  arg_read t frame below instr number j (v ∷ ws) (y ∷ xs) are (suc at) w x written is =
      arg_read t frame below instr number (j + 1) ws xs are.1 at w x written is

  -- the call that begins at the instruction where a frame stands
  begun_read : (t : State) (frame : BodyFrame) (below : List Frame) (stands : Instr) (made : Call) (xs args : List Value) (d : Done) →
      d.next.memory ≡ t.memory → instr_at m frame.spot ≡ Some stands → call_of stands.op ≡ Some made →
      AreRead m (here_in t frame below stands) made.args xs → (a : Active) → a.call ≡ begun_by m t (passing_at (here_in t frame below stands) made xs) args →
      (s : Spot) (instr : Instr) (call : Call) (at : ℕ) (w : Written) (x : Value) → a.call.made ≡ At s → instr_at m s ≡ Some instr →
      call_of instr.op ≡ Some call → slice_get call.args at ≡ Some w → slice_get a.call.passed at ≡ Some x → IsReadAs m d w x
  begun_read t frame below stands made xs args d memory at_frame is_made are a is s instr call at w x made_at at_s is_call written passed =
      let there : At frame.spot ≡ At s = ap (λ (c : Begun). c.made) (sym is) ∙ made_at in
      let spot : frame.spot ≡ s = cc in
      let same : stands ≡ instr = same_Some stands instr (sym at_frame ∙ (ap (instr_at m) spot ∙ at_s)) in
      let one : made ≡ call = same_Some made call (sym is_made ∙ (ap (λ (i : Instr). call_of i.op) same ∙ is_call)) in
      let found =
      arg_read t frame below stands t.next_call 0 made.args xs are at w x (ap (λ (c : Call). slice_get c.args at) one ∙ written)
      (ap (λ (c : Begun). slice_get c.passed at) (sym is) ∙ passed)
      in
      record {
        values = frame.values;
        picks = found.1.0;
        rest = found.1.1;
        value = found.0;
        is = subst (λ mem. read m mem frame.values w found.1.0 ≡ Gives (record { value = found.0; picks = found.1.1 })) (sym memory) found.1.2;
        datum = found.2;
      }

  -- the call on top of this stack
  on_top : (d : Done) (a : Active) (frame : Frame) (below : List Frame) (begins : BeginsIn d a) → d.next.stack ≡ frame ∷ below → a.call ≡ call_in frame
  on_top d a frame below begins is =
      let both : begins.frame ∷ begins.below ≡ frame ∷ below = sym begins.stack ∙ is in
      let top : begins.frame ≡ frame = cc in
      ap (λ (b : Active). b.call) (sym begins.is) ∙ ap call_in top

  abbrev Q : State → List Move → Type 0
  Q t moves = IsValidStep (done t moves) → ArgsAreRead m (done t moves)

  step_reads : (t : State) (choice : Choice) → OnOutcome (Q t) (plan m t choice)
  step_reads t choice = by_calls m t (Q t) quiet (record {
    body = λ frame below instr call xs args f stack stands is are inner enters valid a s other called at w x begins made at_s is_called written passed.
        begun_read t frame below instr call xs args _ refl stands is are a
        (on_top (done t (Begins (Body (body_frame m t (passing_at (here_in t frame below instr) call xs) f args)) ∷ Says (Enter f) ∷ [])) a
        (Body (body_frame m t (passing_at (here_in t frame below instr) call xs) f args)) t.stack begins refl) s other called at w x made at_s is_called
        written passed;
    outer = λ frame below instr call callee xs stack stands is are inner valid a s other called at w x begins made at_s is_called written passed.
        let passing = passing_at (here_in t frame below instr) call xs in
        let top = Outside (record { call = begun_by m t passing (passed_to m t passing); hand = passed_to m t passing }) in
        begun_read t frame below instr call xs (passed_to m t passing) _ refl stands is are a
        (on_top (done t (Says (Capture callee.origins) ∷ Begins top ∷ [])) a top t.stack begins refl) s other called at w x made at_s is_called written passed;
    entered = λ frame below f xs args stack is_open passes enters valid a s other called at w x begins made at_s is_called written passed.
        let top = Body (body_frame m t (passing_in m f xs) f args) in
        let is = on_top (done t (Begins top ∷ Says (Enter f) ∷ [])) a top t.stack begins refl in
        absurd (let clash : Entered ≡ At s = ap (λ (c : Begun). c.made) (sym is) ∙ made in cc);
  }) choice
    where
      quiet : (moves : List Move) → AllByRecursion IsNoCall moves → Q t moves
      quiet moves none valid a s instr call at w x begins made at_s is_call written passed =
          let low = moves_below t.next_call t moves none (ordered_below t.born t.next_call t.memory.count t.next_call t.stack (omega arith)
          valid.before.order) in
          let top = (subst (AreBelow t.next_call) begins.stack low).0 in
          let number : (call_in begins.frame).number ≡ t.next_call = ap (λ (b : Active). b.call.number) begins.is ∙ begins.new in
          absurd (omega (arith, top, number))

  -- in every step of every run
  pub all_read : (t : State) → IsOpening m t → (choices : List Choice) → All (ArgsAreRead m) (run m t choices)
  all_read t is choices =
      All-from_recursion (ArgsAreRead m) (run m t choices)
      (run_given m IsValidStep (ArgsAreRead m) step_reads choices t (all_valid m t (opening_valid m t is) choices))
