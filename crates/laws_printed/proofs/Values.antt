-- What is held of entries, returns and operands holds of the values of calls: of parameters, results and arguments.
use Rattle.std.proofs.Common.{◌≡◌, ◌+◌, ◌&&◌, ◌⊎◌, inl, inr, ℕ, zero, suc, Bool, true, List, [], ◌∷◌, slice_get, All, Option, None, Some, refl, sym, ap, subst}
use Rattle.std.proofs.Common.{◌∙◌, arith}
use Rattle.std.specs.List.{AllByRecursion}
use Rattle.std.proofs.lemmas.List.Elements.{All-from_recursion}
use Rattle.shelf.proofs.Every.{every_at}
use Rattle.ir_module.specs.declared.op.Operand.{Operand}
use Rattle.ir_module.specs.declared.op.Operand.TheVariants as operand
use Rattle.ir_module.specs.declared.op.Written.{Written}
use Rattle.ir_module.specs.declared.op.Call.{Call}
use Rattle.ir_module.specs.declared.op.Instr.{Instr}
use Rattle.ir_module.specs.declared.module.Spot.{Spot}
use Rattle.ir_module.specs.declared.module.Module.{Module}
use Rattle.ir_module.specs.Places.{instr_at}
use Rattle.ir_module.specs.Calls.{call_of, inner_callee}
use Rattle.ir_module.specs.WellFormed.{IsWellFormed}
use Rattle.lattice_words.specs.declared.value.TheConstants.{NONNULL, ALIGN_2, BYTES_1}
use Rattle.facts.specs.Bodies.{is_pointer}
use Rattle.facts.specs.Facts.{Fact, of_value}
use Rattle.facts.specs.Kinds.{value_fact}
use Rattle.facts.specs.Known.{operand_has}
use Rattle.facts.proofs.Bits.{nonnull_fact, align_fact, bytes_fact}
use Rattle.ir_machine.specs.declared.choice.Choice.{Choice}
use Rattle.ir_machine.specs.declared.choice.Datum.{Datum}
use Rattle.ir_machine.specs.declared.choice.Value.{Value}
use Rattle.ir_machine.specs.Memory.{Memory}
use Rattle.ir_machine.specs.Values.{marked}
use Rattle.ir_machine.specs.Reading.{Values}
use Rattle.ir_machine.specs.Moves.{Gives}
use Rattle.ir_machine.specs.Calls.{came_back}
use Rattle.ir_machine.specs.Frames.{Made, Lowest, Entered, At, Begun, Frame, Body, Outside, Active, call_of as call_in, State, Event}
use Rattle.ir_machine.specs.Runs.{Done, IsOpening, run}
use Rattle.ir_machine.specs.Arguments.{Homes, IsValueOf, IsPassed, ArePassed, IsPassedBy, ArgumentsAreOperands}
use Rattle.ir_machine.specs.Links.{RunsItsCallee, IsLinked}
use Rattle.ir_machine.specs.Meanings.{Attribute, ValueAttribute, nonnull, align, dereferenceable, Has}
use Rattle.ir_machine.specs.Meanings.{Place, Argument, Parameter, Result, BeginsIn, ReturnsIn, IsValueIn}
use Rattle.ir_machine.specs.Meanings.{came_back_in, result_by, HoldsOfValue}
use Rattle.ir_machine.proofs.Basics.{Shown}
use Rattle.ir_machine.proofs.Linked.{Linked, RunTheirCallees}
use Rattle.ir_machine.proofs.Arguments.{Passed, all_passed}
use Rattle.fact_meanings.specs.Values.{SaysOfValue, BitsHold, FrameIsRight, FramesAreRight}
use Rattle.fact_meanings.specs.Runs.{EntryHolds, IsReturnOf, ReturnHolds, ReturnsHold, FactsHold}
use Rattle.manifest.specs.Parameter.{of_entry}
use Rattle.manifest.specs.Return.{of_returned}
use Rattle.manifest.specs.Argument.{counts, of_operand}
use Rattle.laws_printed.specs.Printed.{Says, is_constant, ConstantsAreRight}
use Rattle.laws_printed.proofs.Lists.{all_mapped, all_both, all_at}
use Rattle.laws_printed.proofs.Attributes.{ValueSays}
use Rattle.laws_printed.proofs.Standing.{stands_first, runs_there, linked}

-- ---- from bits to attributes

-- the bits that are held of the value of each of these calls at this place say what they say, seen from some call
abbrev pub AreSo : Module → List Done → (Active → Type 0) → Place → (ℕ → Bool) → Type 0
AreSo m steps P place has = (a : Active) → P a → All (λ d. (x : Value) → IsValueIn m place a d x → (c : Begun) × BitsHold d.next.memory c has x.datum) steps

-- the attribute holds of the value of each of these calls
abbrev pub HoldsWhere : Module → List Done → (Active → Type 0) → Place → ValueAttribute → Type 0
HoldsWhere m steps P place attribute = (a : Active) → P a → HoldsOfValue m attribute place a steps

module _ (m : Module) (steps : List Done) (P : Active → Type 0) (place : Place) (has : ℕ → Bool) (so : AreSo m steps P place has) where
  by_bits : (attribute : ValueAttribute) → ((mem : Memory) (call : Begun) (d : Datum) → BitsHold mem call has d → Has attribute mem d) →
      HoldsWhere m steps P place attribute
  by_bits attribute leads a is =
      all_mapped (λ (d : Done). (x : Value) → IsValueIn m place a d x → (c : Begun) × BitsHold d.next.memory c has x.datum)
      (λ (d : Done). (x : Value) → IsValueIn m place a d x → Has attribute d.next.memory x.datum) steps
      (λ d bits x at. let found = bits x at in leads d.next.memory found.0 x.datum found.1) (so a is)

  pub value_says : (C : Attribute → Type 0) (at : ℕ) → ValueSays (Says C (HoldsWhere m steps P place) at) has
  value_says C at = record {
    nonnull = λ on. by_bits nonnull (λ mem call d bits. subst (λ o. SaysOfValue mem call o d) nonnull_fact (bits NONNULL on));
    align = λ k within on. by_bits (align _) (λ mem call d bits. subst (λ o. SaysOfValue mem call o d) (align_fact k within) (bits (ALIGN_2 + k) on));
    bytes = λ k within on. by_bits (dereferenceable _) (λ mem call d bits. subst (λ o. SaysOfValue mem call o d) (bytes_fact k within) (bits (BYTES_1 + k) on));
  }

-- ---- results

-- a value that a body returns is the result of its call
through : (m : Module) (mem : Memory) (body : Option ℕ) (f : ℕ) (o : Option Instr) (a : Active) (value x : Value) → a.body ≡ Some f →
    came_back_in m mem a o value ≡ Gives (Some x) → value ≡ x
through m mem body f None a value x of is = cc
through m mem body f (Some instr) a value x of is =
    let there : came_back m mem (Some f) instr.op (Some value) ≡ Gives (Some x) = subst (λ b. came_back m mem b instr.op (Some value) ≡ Gives (Some
    x)) of is in cc

comes_through : (m : Module) (mem : Memory) (f : ℕ) (a : Active) (made : Made) (value x : Value) → a.body ≡ Some f →
    result_by m mem a made value ≡ Gives (Some x) → value ≡ x
comes_through m mem f a Lowest value x of is = cc
comes_through m mem f a Entered value x of is = cc
comes_through m mem f a (At spot) value x of is = through m mem a.body f (instr_at m spot) a value x of is

-- an argument of a call
passed_value : (home : Homes) (values : Values) (call k : ℕ) (ws : List Written) (xs : List Value) → ArePassed home values call k ws xs →
    (i : ℕ) (w : Written) (x : Value) → slice_get ws i ≡ Some w → slice_get xs i ≡ Some x → IsPassed home values call (k + i) w x
passed_value home values call k ws [] are i w x written at = absurd (cc)
passed_value home values call k [] (y ∷ xs) are i w x written at = absurd are
passed_value home values call k (v ∷ ws) (y ∷ xs) are zero w x written at =
    let same : y ≡ x = cc in
    let one : v ≡ w = cc in
    subst (λ n. IsPassed home values call n w x) (omega arith) (subst (λ u. IsPassed home values call k u x) one
    (subst (IsPassed home values call k v) same are.0))
passed_value home values call k (v ∷ ws) (y ∷ xs) are (suc i) w x written at =
    let later = passed_value home values call (k + 1) ws xs are.1 i w x written at in
    subst (λ n. IsPassed home values call n w x) (omega arith) later

-- but for its origins it is the value of its operand
passed_datum : (home : Homes) (values : Values) (call k : ℕ) (w : Written) (x : Value) (is : IsPassed home values call k w x) → is.value.datum ≡ x.datum
passed_datum home values call k w x is = by is.is
  where
    by : ((x ≡ is.value) ⊎ (x ≡ marked (record { call = call; param = k }) is.value)) → is.value.datum ≡ x.datum
    by (inl e) = ap (λ v. v.datum) (sym e)
    by (inr e) = ap (λ v. v.datum) (sym e)

-- an operand that is a value is as is held of that
seen_from : (m : Module) (held : Fact → Bool) (w : Written) (v : ℕ) → w.val ≡ operand.Value (record { 0 = v }) → (mem : Memory) (call : Begun) (d e : Datum) →
    d ≡ e → BitsHold mem call (λ bit. held (of_value v bit)) d → BitsHold mem call (of_operand m held w) e
seen_from m held w v is mem call d e same bits = λ bit on. subst (SaysOfValue mem call (value_fact bit)) same
    (bits bit (subst (λ o. (counts o bit && operand_has m held w.ty o bit) ≡ true) is on))

module _ (m : Module) (formed : IsWellFormed m) (held : Fact → Bool) (opening : State) (opens : IsOpening m opening) (choices : List Choice)
    (holds : FactsHold m held (run m opening choices)) where
  abbrev steps : List Done
  steps = run m opening choices

  -- a parameter of each call of a body, as it is entered
  pub entries_are : (f at : ℕ) → AreSo m steps (λ a. a.body ≡ Some f) (Parameter at) (of_entry held f at)
  entries_are f at a of =
      all_mapped (EntryHolds held f at)
      (λ (d : Done). (x : Value) → IsValueIn m (Parameter at) a d x → (c : Begun) × BitsHold d.next.memory c (of_entry held f at) x.datum) steps
      (λ d entry x is. (a.call, entry a x is.0 of is.1)) (holds.entries f at)

  -- what a call of the body returns is as is held of its return
  returned_so : (f : ℕ) (d : Done) (a : Active) (x : Value) → ReturnsHold held f d → a.body ≡ Some f → ReturnsIn m d a x →
      BitsHold d.next.memory a.call (of_returned held f) x.datum
  returned_so f d a x returns of is =
      let found : ReturnHolds held f d a is.value =
      all_at (λ (e : Event). (a : Active) (x : Value) → a.body ≡ Some f → IsReturnOf a x e → ReturnHolds held f d a x) d.events is.index is.event returns
      is.happens a is.value of (is.by, is.what)
      in
      subst (λ (y : Value). BitsHold d.next.memory a.call (of_returned held f) y.datum)
      (comes_through m d.next.memory f a a.call.made is.value x of is.result) found.bits

  pub returns_are : (f : ℕ) → AreSo m steps (λ a. a.body ≡ Some f) Result (of_returned held f)
  returns_are f a of =
      all_mapped (ReturnsHold held f)
      (λ (d : Done). (x : Value) → IsValueIn m Result a d x → (c : Begun) × BitsHold d.next.memory c (of_returned held f) x.datum) steps
      (λ d returns x is. (a.call, returned_so f d a x returns of is)) (holds.returns f)

  module _ (s : Spot) (instr : Instr) (stands : instr_at m s ≡ Some instr) where
    -- what is returned to an instruction that calls the body
    pub results_are : (g : ℕ) → inner_callee m instr.op ≡ Some g → AreSo m steps (λ a. a.call.made ≡ At s) Result (of_returned held g)
    results_are g inner a made =
        all_both (Shown (Linked m formed) (RunTheirCallees m formed)) (ReturnsHold held g)
        (λ (d : Done). (x : Value) → IsValueIn m Result a d x → (c : Begun) × BitsHold d.next.memory c (of_returned held g) x.datum) steps
        (λ d shown returns x is. (a.call, returned_so g d a x returns (body_of d shown x is) is)) (linked m formed opening opens choices) (holds.returns g)
      where
        body_of : (d : Done) → Shown (Linked m formed) (RunTheirCallees m formed) d → (x : Value) → ReturnsIn m d a x → a.body ≡ Some g
        body_of d shown x is =
            let names = every_at (RunTheirCallees m formed) d.events is.index is.event shown.events is.happens in
            let runs = every_at (RunsItsCallee m) is.event.calls 0 a names (stands_first a is.event is.by) in
            runs_there m a s instr runs made stands ∙ inner

    module _ (call : Call) (is_call : call_of instr.op ≡ Some call) (at : ℕ) (w : Written) (is_arg : slice_get call.args at ≡ Some w)
        (pointer : is_pointer m w.ty ≡ true) where
      -- the frame that makes the call, by its values
      by_frame : (d : Done) (a : Active) (x : Value) (v : ℕ) → w.val ≡ operand.Value (record { 0 = v }) → IsLinked m d.next.stack →
          ArgumentsAreOperands m d.next.memory.home d.next.stack → FramesAreRight held d.next → BeginsIn d a → a.call.made ≡ At s →
          slice_get a.call.passed at ≡ Some x → (c : Begun) × BitsHold d.next.memory c (of_operand m held w) x.datum
      by_frame d a x v is_value links args right begins made passed =
          by begins.below (subst (IsLinked m) begins.stack links) (subst (ArgumentsAreOperands m d.next.memory.home) begins.stack args)
          (subst (AllByRecursion (FrameIsRight held d.next.memory)) begins.stack right)
        where
          made_so : (call_in begins.frame).made ≡ At s
          made_so = subst (λ (b : Active). b.call.made ≡ At s) (sym begins.is) made

          passed_so : slice_get (call_in begins.frame).passed at ≡ Some x
          passed_so = subst (λ (b : Active). slice_get b.call.passed at ≡ Some x) (sym begins.is) passed

          by : (below : List Frame) → IsLinked m (begins.frame ∷ below) → ArgumentsAreOperands m d.next.memory.home (begins.frame ∷ below) →
              AllByRecursion (FrameIsRight held d.next.memory) (begins.frame ∷ below) → (c : Begun) × BitsHold d.next.memory c (of_operand m held w) x.datum
          by [] links args right = absurd (let clash : Lowest ≡ At s = sym links.1 ∙ made_so in cc)
          by (Outside under ∷ below) links args right = absurd (let clash : Entered ≡ At s = sym links.1 ∙ made_so in cc)
          by (Body under ∷ below) links args right =
              let there : At under.spot ≡ At s = sym links.1 ∙ made_so in
              let spot : under.spot ≡ s = cc in
              let come : IsPassedBy m d.next.memory.home (call_in begins.frame) under = args.0 in
              let same : come.instr ≡ instr = cc in
              let one : come.written ≡ call = cc in
              let is = passed_value d.next.memory.home under.values (call_in begins.frame).number 0 come.written.args (call_in begins.frame).passed
              come.args at w x
              (subst (λ (c : Call). slice_get c.args at ≡ Some w) (sym one) is_arg) passed_so in
              let value : under.values v ≡ Some is.value =
              subst (λ o. IsValueOf d.next.memory.home under.values o is.value) is_value is.operand in (
                under.call,
                seen_from m held w v is_value d.next.memory under.call is.value.datum x.datum
                    (passed_datum d.next.memory.home under.values (call_in begins.frame).number (0 + at) w x is) (right.1.0 v is.value value).bits,
              )

      by_constant : (d : Done) (a : Active) (x : Value) → is_constant w.val ≡ true → ConstantsAreRight m held d → BeginsIn d a → a.call.made ≡ At s →
          slice_get a.call.passed at ≡ Some x → (c : Begun) × BitsHold d.next.memory c (of_operand m held w) x.datum
      by_constant d a x is constants begins made passed = (a.call, constants a s instr call at w x begins made stands is_call is_arg is pointer passed)

      by_operand : (o : Operand) → w.val ≡ o → (d : Done) (a : Active) (x : Value) → IsLinked m d.next.stack →
          ArgumentsAreOperands m d.next.memory.home d.next.stack → FramesAreRight held d.next → ConstantsAreRight m held d → BeginsIn d a → a.call.made ≡ At s →
          slice_get a.call.passed at ≡ Some x → (c : Begun) × BitsHold d.next.memory c (of_operand m held w) x.datum
      by_operand (operand.Value v) is d a x links args right constants begins made passed = by_frame d a x v.0 is links args right begins made passed
      by_operand (operand.Int bits fits) is d a x links args right constants begins made passed =
          by_constant d a x (ap is_constant is) constants begins made passed
      by_operand (operand.Truth value) is d a x links args right constants begins made passed =
          by_constant d a x (ap is_constant is) constants begins made passed
      by_operand operand.Zero is d a x links args right constants begins made passed = by_constant d a x (ap is_constant is) constants begins made passed
      by_operand operand.Null is d a x links args right constants begins made passed = by_constant d a x (ap is_constant is) constants begins made passed
      by_operand operand.Undef is d a x links args right constants begins made passed = by_constant d a x (ap is_constant is) constants begins made passed
      by_operand operand.Poison is d a x links args right constants begins made passed = by_constant d a x (ap is_constant is) constants begins made passed
      by_operand (operand.Global g) is d a x links args right constants begins made passed = by_constant d a x (ap is_constant is) constants begins made passed
      by_operand (operand.Func f) is d a x links args right constants begins made passed = by_constant d a x (ap is_constant is) constants begins made passed
      by_operand (operand.Offset base bytes inbounds wrap) is d a x links args right constants begins made passed =
          by_constant d a x (ap is_constant is) constants begins made passed
      by_operand (operand.WrongOffset rule) is d a x links args right constants begins made passed =
          by_constant d a x (ap is_constant is) constants begins made passed
      by_operand (operand.Parts shape first count) is d a x links args right constants begins made passed =
          by_constant d a x (ap is_constant is) constants begins made passed
      by_operand (operand.AnyInt first count) is d a x links args right constants begins made passed =
          by_constant d a x (ap is_constant is) constants begins made passed

      -- the argument of each call that is made there, as it is passed
      pub args_are : All (ConstantsAreRight m held) steps → AreSo m steps (λ a. a.call.made ≡ At s) (Argument at) (of_operand m held w)
      args_are constants a made =
          all_both (λ (d : Done). IsLinked m d.next.stack × ArgumentsAreOperands m d.next.memory.home d.next.stack)
          (λ (d : Done). FramesAreRight held d.next × ConstantsAreRight m held d)
          (λ (d : Done). (x : Value) → IsValueIn m (Argument at) a d x → (c : Begun) × BitsHold d.next.memory c (of_operand m held w) x.datum) steps
          (λ d placed right x is. by_operand w.val refl d a x placed.0 placed.1 right.0 right.1 is.0 made is.1)
          (all_both (Shown (Linked m formed) (RunTheirCallees m formed)) (Shown (Passed m) (λ (e : Event). Unit {0}))
          (λ (d : Done). IsLinked m d.next.stack × ArgumentsAreOperands m d.next.memory.home d.next.stack) steps (λ d l p. (l.next, p.next))
          (linked m formed opening opens choices)
          (All-from_recursion (Shown (Passed m) (λ (e : Event). Unit {0})) steps (all_passed m opening opens choices)))
          (all_both (λ (d : Done). FramesAreRight held d.before × FramesAreRight held d.next) (ConstantsAreRight m held)
          (λ (d : Done). FramesAreRight held d.next × ConstantsAreRight m held d) steps (λ d r c. (r.1, c)) holds.values constants)
