-- Outcomes by their pieces, and the induction over the moves of each step of a run.
use Rattle.std.proofs.Common.{◌≡◌, ◌≢◌, ℕ, ◌==◌, ◌++◌, Bool, true, false, if◌then◌else◌, List, [], ◌∷◌, Option, None, Some, refl, sym, subst, ◌∙◌, inl, inr}
use Rattle.std.proofs.Common.{true≢false}
use Rattle.std.specs.List.{AllByRecursion}
use Rattle.std.proofs.lemmas.Bool.Decides.{eqb_tells}
use Rattle.std.proofs.lemmas.Bool.{eqb-true}
use Rattle.shelf.proofs.Every.{every_append, every_parts}
use Rattle.ir_module.specs.declared.module.Module.{Module}
use Rattle.ir_machine.specs.declared.choice.Choice.{Choice}
use Rattle.ir_machine.specs.Memory.{put}
use Rattle.ir_machine.specs.Frames.{State, What, Event, event}
use Rattle.ir_machine.specs.Moves.{Move, Says, Grows, Turns, Fills, Keeps, Sets, Goes, Takes, Begins, Ends, moved, after, event_of, said, says, Outcome, Gives}
use Rattle.ir_machine.specs.Moves.{Undefined, Over, Plan, with, found, needs, fits}
use Rattle.ir_machine.specs.Steps.{plan}
use Rattle.ir_machine.specs.Runs.{Done, done, done_by, run, events_of}

-- ---- outcomes

-- Q holds of what is given, if something is
abbrev pub OnOutcome : {A : Type 0} → (A → Type 0) → Outcome A → Type 0
OnOutcome Q (Gives x) = Q x
OnOutcome Q Undefined = Unit {0}
OnOutcome Q Over = Unit {0}

pub on_with : {A B : Type 0} (Q : B → Type 0) (o : Outcome A) (next : A → Outcome B) → ((x : A) → o ≡ Gives x → OnOutcome Q (next x)) →
    OnOutcome Q (with o next)
on_with Q (Gives x) next each = each x refl
on_with Q Undefined next each = tt
on_with Q Over next each = tt

pub on_found : {A B : Type 0} (Q : B → Type 0) (o : Option A) (next : A → Outcome B) → ((x : A) → o ≡ Some x → OnOutcome Q (next x)) →
    OnOutcome Q (with (found o) next)
on_found Q None next each = tt
on_found Q (Some x) next each = each x refl

pub on_needs : {A : Type 0} (Q : A → Type 0) (b : Bool) (next : Outcome A) → (b ≡ true → OnOutcome Q next) → OnOutcome Q (needs b next)
on_needs Q true next each = each refl
on_needs Q false next each = tt

pub on_fits : {A : Type 0} (Q : A → Type 0) (b : Bool) (next : Outcome A) → (b ≡ true → OnOutcome Q next) → OnOutcome Q (fits b next)
on_fits Q true next each = each refl
on_fits Q false next each = tt

pub on_if : {A : Type 0} (Q : A → Type 0) (b : Bool) (so otherwise : Outcome A) → (b ≡ true → OnOutcome Q so) → (b ≡ false → OnOutcome Q otherwise) →
    OnOutcome Q (if b then so else otherwise)
on_if Q true so otherwise so_holds else_holds = so_holds refl
on_if Q false so otherwise so_holds else_holds = else_holds refl

-- what holds of all that is given holds of this that is given
pub given : {A : Type 0} (Q : A → Type 0) (o : Outcome A) (x : A) → OnOutcome Q o → o ≡ Gives x → Q x
given Q o x all is = subst (OnOutcome Q) is all

-- ---- functions that are changed at one place

-- numbers that do not pass it are two
pub other_than : (n k : ℕ) → (n == k) ≡ false → n ≢ k
other_than n k e = elim (eqb_tells n k) [
  | inl (t, is) ↦ absurd (true≢false (sym t ∙ e))
  | inr (t, other) ↦ other
]

-- what holds of the new one at its place, and of the old ones, holds of all
pub put_has : {A : Type 0} (P : ℕ → A → Type 0) (k : ℕ) (new : A) (old : ℕ → A) (n : ℕ) → P k new → P n (old n) → P n (put k new old n)
unfolding put
put_has P k new old n at_k at_n = by (n == k) refl
  where
    by : (b : Bool) → (n == k) ≡ b → P n (if b then new else old n)
    by true e = subst (λ j. P j new) (sym (eqb-true n k e)) at_k
    by false e = at_n

-- the same, where the old one counts elsewhere alone
pub put_at : {A : Type 0} (P : A → Type 0) (k : ℕ) (new : A) (old : ℕ → A) (n : ℕ) → (n ≡ k → P new) → (n ≢ k → P (old n)) → P (put k new old n)
unfolding put
put_at P k new old n at_k at_n = elim (eqb_tells n k) [
  | inl (t, is) ↦ subst (λ b. P (if b then new else old n)) (sym t) (at_k is)
  | inr (t, other) ↦ subst (λ b. P (if b then new else old n)) (sym t) (at_n other)
]

-- ---- moves one after another

-- C holds of each move, in the state in which it is made
abbrev pub Along : (State → Move → Type 0) → State → List Move → Type 0
Along C t [] = Unit {0}
Along C t (x ∷ moves) = C t x × Along C (moved t x) moves

-- things that happen change no state
pub along_says : (C : State → Move → Type 0) (t : State) (whats : List What) (moves : List Move) → AllByRecursion (λ what. C t (Says what)) whats →
    Along C t moves → Along C t (says whats moves)
along_says C t [] moves each rest = rest
along_says C t (what ∷ whats) moves each rest = (each.0, along_says C t whats moves each.1 rest)

-- An invariant of states that each move keeps where C holds of it, and what C says of each thing that happens.
pub record Law (Inv : State → Type 0) (C : State → Move → Type 0) (E : Event → Type 0) : Type 0 where
  pub move : (t : State) (x : Move) → Inv t → C t x → Inv (moved t x)
  pub happens : (t : State) (what : What) → Inv t → C t (Says what) → E (event t.stack what)

module _ (Inv : State → Type 0) (C : State → Move → Type 0) (E : Event → Type 0) (law : Law Inv C E) where
  pub kept_after : (t : State) (moves : List Move) → Inv t → Along C t moves → Inv (after t moves)
  kept_after t [] inv along = inv
  kept_after t (x ∷ moves) inv along = kept_after (moved t x) moves (law.move t x inv along.0) along.1

  one_event : (t : State) (x : Move) (rest : List Event) → Inv t → C t x → AllByRecursion E rest → AllByRecursion E (event_of t x ++ rest)
  one_event t (Says what) rest inv c all = (law.happens t what inv c, all)
  one_event t (Grows shape) rest inv c all = all
  one_event t (Turns block life) rest inv c all = all
  one_event t (Fills block bytes) rest inv c all = all
  one_event t (Keeps value) rest inv c all = all
  one_event t (Sets v x) rest inv c all = all
  one_event t (Goes spot) rest inv c all = all
  one_event t (Takes x) rest inv c all = all
  one_event t (Begins frame) rest inv c all = all
  one_event t Ends rest inv c all = all

  pub shown_said : (t : State) (moves : List Move) → Inv t → Along C t moves → AllByRecursion E (said t moves)
  shown_said t [] inv along = tt
  shown_said t (x ∷ moves) inv along = one_event t x (said (moved t x) moves) inv along.0 (shown_said (moved t x) moves (law.move t x inv along.0) along.1)

-- what a law shows of a step
pub record Shown (Inv : State → Type 0) (E : Event → Type 0) (d : Done) : Type 0 where
  pub before : Inv d.before
  pub next : Inv d.next
  pub events : AllByRecursion E d.events

-- each step keeps the invariant, move by move, where P is given of it
abbrev pub Steps : Module → (State → Type 0) → (Done → Type 0) → (State → Move → Type 0) → Type 0
Steps m Inv P C = (t : State) (choice : Choice) → Inv t → OnOutcome (λ moves. P (done t moves) → Along C t moves) (plan m t choice)

-- what a step whose moves are C shows of itself
abbrev pub Shows : (State → Type 0) → (State → Move → Type 0) → (Done → Type 0) → Type 0
Shows Inv C R = (t : State) (moves : List Move) → Inv t → Along C t moves → R (done t moves)

module _ (m : Module) (Inv : State → Type 0) (P : Done → Type 0) (C : State → Move → Type 0) (keeps : (t : State) (x : Move) → Inv t → C t x → Inv (moved t x))
    (steps : Steps m Inv P C) (R : Done → Type 0) (shows : Shows Inv C R) where
  stays_after : (t : State) (moves : List Move) → Inv t → Along C t moves → Inv (after t moves)
  stays_after t [] inv along = inv
  stays_after t (x ∷ moves) inv along = stays_after (moved t x) moves (keeps t x inv along.0) along.1

  on_step : (choices : List Choice) (t : State) (o : Plan) → Inv t → OnOutcome (λ moves. P (done t moves) → Along C t moves) o →
      ((next : State) → Inv next → AllByRecursion P (run m next choices) → AllByRecursion R (run m next choices)) →
      AllByRecursion P (done_by t o (λ next. run m next choices)) → AllByRecursion R (done_by t o (λ next. run m next choices))
  on_step choices t (Gives moves) inv along rest p =
      let c = along p.0 in
      (shows t moves inv c, rest (after t moves) (stays_after t moves inv c) p.1)
  on_step choices t Undefined inv along rest p = tt
  on_step choices t Over inv along rest p = tt

  -- by induction over the choices: where P is given of every step, R holds of every step
  pub run_shows : (choices : List Choice) (t : State) → Inv t → AllByRecursion P (run m t choices) → AllByRecursion R (run m t choices)
  unfolding run
  run_shows [] t inv p = tt
  run_shows (choice ∷ choices) t inv p = on_step choices t (plan m t choice) inv (steps t choice inv) (λ next. run_shows choices next) p

-- P of every step gives the invariant at every moment, and E of every event
pub run_law : (m : Module) (Inv : State → Type 0) (P : Done → Type 0) (C : State → Move → Type 0) (E : Event → Type 0) → Law Inv C E → Steps m Inv P C →
    (choices : List Choice) (t : State) → Inv t → AllByRecursion P (run m t choices) → AllByRecursion (Shown Inv E) (run m t choices)
run_law m Inv P C E law steps =
    run_shows m Inv P C law.move steps (Shown Inv E)
    (λ t moves inv c. record { before = inv; next = kept_after Inv C E law t moves inv c; events = shown_said Inv C E law t moves inv c })

-- two facts of each move
pub along_both : (C D : State → Move → Type 0) (t : State) (moves : List Move) → Along C t moves → Along D t moves → Along (λ t x. C t x × D t x) t moves
along_both C D t [] c d = tt
along_both C D t (x ∷ moves) c d = ((c.0, d.0), along_both C D (moved t x) moves c.1 d.1)

pub along_mapped : (C D : State → Move → Type 0) → ((t : State) (x : Move) → C t x → D t x) → (t : State) (moves : List Move) → Along C t moves →
    Along D t moves
along_mapped C D leads t [] c = tt
along_mapped C D leads t (x ∷ moves) c = (leads t x c.0, along_mapped C D leads (moved t x) moves c.1)

-- what is given by an outcome in two ways
pub outcome_both : {A : Type 0} (Q R : A → Type 0) (o : Outcome A) → OnOutcome Q o → OnOutcome R o → OnOutcome (λ x. Q x × R x) o
outcome_both Q R (Gives x) q r = (q, r)
outcome_both Q R Undefined q r = tt
outcome_both Q R Over q r = tt

pub outcome_mapped : {A : Type 0} (Q R : A → Type 0) (o : Outcome A) → ((x : A) → Q x → R x) → OnOutcome Q o → OnOutcome R o
outcome_mapped Q R (Gives x) leads q = leads x q
outcome_mapped Q R Undefined leads q = tt
outcome_mapped Q R Over leads q = tt

-- ---- facts of the events of each step, and of all events

pub of_events : (P : Event → Type 0) (steps : List Done) → AllByRecursion (λ d. AllByRecursion P d.events) steps → AllByRecursion P (events_of steps)
of_events P [] all = tt
of_events P (d ∷ steps) all = every_append P d.events (events_of steps) all.0 (of_events P steps all.1)

pub of_steps : (P : Event → Type 0) (steps : List Done) → AllByRecursion P (events_of steps) → AllByRecursion (λ d. AllByRecursion P d.events) steps
of_steps P [] all = tt
of_steps P (d ∷ steps) all = let both = every_parts P d.events (events_of steps) all in (both.0, of_steps P steps both.1)

-- ---- facts of each step by itself
module _ (m : Module) (R : Done → Type 0) (each : (t : State) (choice : Choice) → OnOutcome (λ moves. R (done t moves)) (plan m t choice)) where
  one_step : (t : State) (o : Plan) (rest : State → List Done) → OnOutcome (λ moves. R (done t moves)) o → ((next : State) → AllByRecursion R (rest next)) →
      AllByRecursion R (done_by t o rest)
  one_step t (Gives moves) rest is more = (is, more (after t moves))
  one_step t Undefined rest is more = tt
  one_step t Over rest is more = tt

  -- what holds of every step that the machine does holds of every step of a run
  pub run_each : (choices : List Choice) (t : State) → AllByRecursion R (run m t choices)
  unfolding run
  run_each [] t = tt
  run_each (choice ∷ choices) t = one_step t (plan m t choice) (λ next. run m next choices) (each t choice) (λ next. run_each choices next)
