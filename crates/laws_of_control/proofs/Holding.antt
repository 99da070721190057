-- From single steps to whole runs: what the facts of control say holds in every honest run.
use Rattle.std.proofs.Common.{◌≡◌, ℕ, suc, zero, ◌<◌, Bool, true, false, List, [], ◌∷◌, slice_get, All, Some, sym, ap, subst, ◌∙◌}
use Rattle.std.proofs.Common.{true≢false}
use Rattle.shelf.proofs.Every.{every_mapped}
use Rattle.std.specs.List.{AllByRecursion}
use Rattle.std.proofs.lemmas.List.Elements.{recursion_from_All, All-from_recursion}
use Rattle.ir_module.specs.declared.op.Instr.{Instr}
use Rattle.ir_module.specs.declared.module.Spot.{Spot}
use Rattle.ir_module.specs.declared.module.Module.{Module}
use Rattle.ir_module.specs.Places.{instr_at}
use Rattle.ir_module.specs.Calls.{Promise, Nounwind, Noreturn, Nofree, inner_callee, is_promised}
use Rattle.ir_module.specs.WellFormed.{IsWellFormed}
use Rattle.facts.specs.Kinds.{FunctionFact, NoUnwind, NoReturn, NoFree}
use Rattle.facts.specs.Facts.{Fact, dead, of_function}
use Rattle.facts.specs.Promises.{has_by}
use Rattle.ir_machine.specs.declared.choice.Choice.{Choice}
use Rattle.ir_machine.specs.Frames.{At, Active, Frame, Body, Outside, State, Return, Unwind, Event}
use Rattle.ir_machine.specs.Moves.{Gives, Undefined, Over, Plan, after}
use Rattle.ir_machine.specs.Steps.{plan}
use Rattle.ir_machine.specs.Runs.{Done, done, done_by, IsOpening, run, events_of}
use Rattle.ir_machine.specs.Meanings.{Attribute, nounwind, noreturn, nofree, IsBy, IsDuring, HoldsOf, Keeps}
use Rattle.ir_machine.specs.Honest.{IsFair, IsHonest}
use Rattle.ir_machine.specs.Links.{BeginsAs, RunsItsCallee, IsLinked}
use Rattle.ir_machine.proofs.Basics.{OnOutcome, Shown, run_law, of_events, of_steps}
use Rattle.ir_machine.proofs.Linked.{Linked, RunTheirCallees, all_linked}
use Rattle.ir_machine.proofs.Opening.{opening_valid}
use Rattle.ir_machine.proofs.Running.{IsValidStep, all_valid}
use Rattle.fact_meanings.specs.Runs.{IsOutOf, IsNeverDone}
use Rattle.law_premises.specs.Premises.{JustifiesItself, StandLive, TakesLiveEdges, IsControlled}
use Rattle.laws_of_control.proofs.Able.{has_as, has, made_has, found_calls}
use Rattle.laws_of_control.proofs.Moves.{Inv, C, Given, Right, MayHappen, control_law}
use Rattle.laws_of_control.proofs.Steps.{control_step}
use Rattle.laws_of_control.proofs.Taken.{Known, edges_step}

-- ---- lists

pub at_place : {A : Type 0} (P : A → Type 0) (xs : List A) (k : ℕ) (x : A) → AllByRecursion P xs → slice_get xs k ≡ Some x → P x
at_place P [] k x all at = absurd (cc)
at_place P (y ∷ xs) zero x all at = let one : y ≡ x = cc in subst P one all.0
at_place P (y ∷ xs) (suc k) x all at = at_place P xs k x all.1 at

both_of : {A : Type 0} (P Q R : A → Type 0) (xs : List A) → ((x : A) → P x → Q x → R x) → AllByRecursion P xs → AllByRecursion Q xs → AllByRecursion R xs
both_of P Q R [] leads p q = tt
both_of P Q R (x ∷ xs) leads p q = (leads x p.0 q.0, both_of P Q R xs leads p.1 q.1)

-- where P is given of every step, and so R is shown of each step by itself, R holds of every step
module _ (m : Module) (P R : Done → Type 0) (each : (t : State) (choice : Choice) →
    OnOutcome (λ moves. P (done t moves) → R (done t moves)) (plan m t choice)) where
  given_step : (t : State) (o : Plan) (rest : State → List Done) → OnOutcome (λ moves. P (done t moves) → R (done t moves)) o →
      ((next : State) → AllByRecursion P (rest next) → AllByRecursion R (rest next)) → AllByRecursion P (done_by t o rest) → AllByRecursion R (done_by t o rest)
  given_step t (Gives moves) rest shows more p = (shows p.0, more (after t moves) p.1)
  given_step t Undefined rest shows more p = tt
  given_step t Over rest shows more p = tt

  pub run_given : (choices : List Choice) (t : State) → AllByRecursion P (run m t choices) → AllByRecursion R (run m t choices)
  unfolding run
  run_given [] t p = tt
  run_given (choice ∷ choices) t p =
      given_step t (plan m t choice) (λ next. run m next choices) (each t choice) (λ next. run_given choices next) p

module _ (m : Module) (formed : IsWellFormed m) (held : Fact → Bool) (is : JustifiesItself m held) (opening : State) (opens : IsOpening m opening)
    (choices : List Choice) (honest : IsHonest m (run m opening choices)) where
  abbrev steps : List Done
  steps = run m opening choices

  linked : AllByRecursion (Shown (Linked m formed) (RunTheirCallees m formed)) steps
  linked = all_linked m formed opening opens choices

  fair : AllByRecursion (λ d. AllByRecursion (IsFair m) d.events) steps
  fair = of_steps (IsFair m) steps (recursion_from_All (IsFair m) (events_of steps) honest)

  given_all : AllByRecursion (Given m formed held is) steps
  given_all =
      both_of (λ d. IsLinked m d.before.stack × AllByRecursion (IsFair m) d.events) IsValidStep (Given m formed held is) steps
      (λ d two valid. (two.0, valid.before.order, two.1))
      (both_of (Shown (Linked m formed) (RunTheirCallees m formed)) (λ d. AllByRecursion (IsFair m) d.events)
      (λ d. IsLinked m d.before.stack × AllByRecursion (IsFair m) d.events) steps (λ d shown fair. (shown.before, fair)) linked fair)
      (all_valid m opening (opening_valid m opening opens) choices)

  -- at every moment each frame stands where it is not dead, and what happens may happen
  pub all_control : AllByRecursion (Shown (Inv m formed held is) (Right m formed held is)) steps
  all_control =
      run_law m (Inv m formed held is) (Given m formed held is) (C m formed held is) (Right m formed held is) (control_law m formed held is)
      (control_step m formed held is) choices opening (subst (StandLive held) (sym opens.stack) (tt, tt)) given_all

  -- ---- dead segments and edges

  out_of : (k : ℕ) (stack : List Frame) → held (dead k) ≡ true → StandLive held stack → IsOutOf k stack
  out_of k [] gone live = tt
  out_of k (Body frame ∷ below) gone live = λ at. true≢false (sym gone ∙ subst (λ k. held (dead k) ≡ false) at live.0)
  out_of k (Outside frame ∷ below) gone live = tt

  pub never_done : (k : ℕ) → held (dead k) ≡ true → IsNeverDone k steps
  never_done k gone =
      All-from_recursion (λ d. IsOutOf k d.before.stack × IsOutOf k d.next.stack) steps
      (every_mapped (Shown (Inv m formed held is) (Right m formed held is)) (λ d. IsOutOf k d.before.stack × IsOutOf k d.next.stack) steps
      (λ d shown. (out_of k d.before.stack gone shown.before, out_of k d.next.stack gone shown.next)) all_control)

  pub live_before : All (λ (d : Done). StandLive held d.before.stack) steps
  live_before = All-from_recursion (λ (d : Done). StandLive held d.before.stack) steps
      (every_mapped (Shown (Inv m formed held is) (Right m formed held is)) (λ (d : Done). StandLive held d.before.stack) steps (λ d shown. shown.before)
      all_control)

  pub live_next : All (λ (d : Done). StandLive held d.next.stack) steps
  live_next = All-from_recursion (λ (d : Done). StandLive held d.next.stack) steps
      (every_mapped (Shown (Inv m formed held is) (Right m formed held is)) (λ (d : Done). StandLive held d.next.stack) steps (λ d shown. shown.next)
      all_control)

  pub live_edges : All (TakesLiveEdges m held) steps
  live_edges = All-from_recursion (TakesLiveEdges m held) steps
      (run_given m (Known m formed held is) (TakesLiveEdges m held) (λ t choice. edges_step m formed held is t choice) choices opening
      (both_of (Shown (Linked m formed) (RunTheirCallees m formed)) (Shown (Inv m formed held is) (Right m formed held is)) (Known m formed held is) steps
      (λ d shown live. (shown.before, live.before, live.events)) linked all_control))

  -- so control goes as the facts say
  pub all_controlled : All (IsControlled m held) steps
  all_controlled = All-from_recursion (IsControlled m held) steps
      (both_of (λ (d : Done). StandLive held d.before.stack) (TakesLiveEdges m held) (IsControlled m held) steps
      (λ d live edges. record { live = live; edges = edges }) (recursion_from_All (λ (d : Done). StandLive held d.before.stack) steps live_before)
      (recursion_from_All (TakesLiveEdges m held) steps live_edges))

  -- ---- attributes of calls

  abbrev Event_is : Event → Type 0
  Event_is e = Right m formed held is e × AllByRecursion (RunsItsCallee m) e.calls

  all_events : AllByRecursion Event_is (events_of steps)
  all_events =
      both_of (Right m formed held is) (RunTheirCallees m formed) Event_is (events_of steps) (λ e right runs. (right, runs))
      (of_events (Right m formed held is) steps (every_mapped (Shown (Inv m formed held is) (Right m formed held is))
      (λ (d : Done). AllByRecursion (Right m formed held is) d.events) steps (λ d shown. shown.events) all_control))
      (of_events (RunTheirCallees m formed) steps (every_mapped (Shown (Linked m formed) (RunTheirCallees m formed))
      (λ (d : Done). AllByRecursion (RunTheirCallees m formed) d.events) steps (λ d shown. shown.events) linked))

  -- the attribute is kept in each event in whose extent the call has the fact
  abbrev KeptBy : FunctionFact → Promise → Attribute → Type 0
  KeptBy kind p attribute = (a : Active) (e : Event) → Right m formed held is e → (IsDuring a e → has m held kind p a ≡ true) → Keeps attribute a e

  by_during : (a : Active) (e : Event) → IsBy a e → IsDuring a e
  by_during a e by = (0, ap (λ calls. slice_get calls 0) by.1)

  pub nounwind_kept : KeptBy NoUnwind Nounwind nounwind
  nounwind_kept a e right has_it by unwinds =
      let may = subst (λ calls. MayHappen m formed held is calls Unwind) by.1 (subst (MayHappen m formed held is e.calls) unwinds right) in
      true≢false (sym (has_it (by_during a e by)) ∙ may)

  pub noreturn_kept : KeptBy NoReturn Noreturn noreturn
  noreturn_kept a e right has_it by x returns =
      let may = subst (λ calls. MayHappen m formed held is calls (Return x)) by.1 (subst (MayHappen m formed held is e.calls) returns right) in
      true≢false (sym (has_it (by_during a e by)) ∙ may)

  pub nofree_kept : KeptBy NoFree Nofree nofree
  nofree_kept a e right has_it during b frees low =
      at_place (λ a. has m held NoFree Nofree a ≡ true → b < a.call.born → ⊥) e.calls during.0 a (subst (MayHappen m formed held is e.calls) frees right)
      during.1 (has_it during) low

  pub body_holds : (kind : FunctionFact) (p : Promise) (attribute : Attribute) → KeptBy kind p attribute → (f : ℕ) → held (of_function kind f) ≡ true →
      (a : Active) → a.body ≡ Some f → HoldsOf attribute a steps
  body_holds kind p attribute kept f has_it a body =
      All-from_recursion (Keeps attribute a) (events_of steps)
      (both_of Event_is Event_is (Keeps attribute a) (events_of steps)
      (λ e known _. kept a e known.0 (λ _. subst (λ body. has_as m held kind p a.call.made body ≡ true) (sym body) has_it)) all_events all_events)

  pub call_holds : (kind : FunctionFact) (p : Promise) (attribute : Attribute) → KeptBy kind p attribute → (s : Spot) (instr : Instr) →
      instr_at m s ≡ Some instr → has_by held kind (is_promised m p instr.op) (inner_callee m instr.op) ≡ true → (a : Active) → a.call.made ≡ At s →
      HoldsOf attribute a steps
  call_holds kind p attribute kept s instr at has_it a made =
      All-from_recursion (Keeps attribute a) (events_of steps)
      (both_of Event_is Event_is (Keeps attribute a) (events_of steps)
      (λ e known _. kept a e known.0 (λ during.
      let runs = at_place (RunsItsCallee m) e.calls during.0 a known.1 during.1 in
      made_has m held kind p s a.call.made a.body instr at (found_calls m held s a.body instr at (subst (BeginsAs m a.body) made runs)) made ∙ has_it))
      all_events all_events)
