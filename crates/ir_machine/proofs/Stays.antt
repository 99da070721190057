-- A step leaves every frame as it is but for those on top.
use Rattle.std.proofs.Common.{◌≡◌, ℕ, ◌++◌, List, [], ◌∷◌, refl, sym, ap, subst, ◌∙◌}
use Rattle.std.specs.List.{AllByRecursion}
use Rattle.ir_module.specs.declared.module.Spot.{Spot}
use Rattle.ir_module.specs.declared.module.Module.{Module}
use Rattle.ir_machine.specs.declared.choice.Value.{Value}
use Rattle.ir_machine.specs.declared.choice.Choice.{Choice}
use Rattle.ir_machine.specs.Frames.{Frame, Body, Outside, State}
use Rattle.ir_machine.specs.Moves.{Move, Says, Grows, Turns, Fills, Keeps, Sets, Goes, Takes, Begins, Ends, moved, after, set_on_top, gone_on_top, taken_on_top}
use Rattle.ir_machine.specs.Moves.{under_top}
use Rattle.ir_machine.specs.Steps.{plan}
use Rattle.ir_machine.specs.Runs.{run}
use Rattle.ir_machine.specs.Stays.{IsRestOf, FramesStay}
use Rattle.ir_machine.proofs.Basics.{OnOutcome, run_each}
use Rattle.ir_machine.proofs.Calling.{IsNoCall, by_calls}

rest_refl : (xs : List Frame) → IsRestOf xs xs
rest_refl xs = ([], refl)

rest_under : (rest all : List Frame) → IsRestOf rest all → IsRestOf (under_top rest) all
rest_under [] all is = is
rest_under (x ∷ rest) all (gone, is) = (gone ++ (x ∷ []), is ∙ sym (assoc gone))
  where
    assoc : (gone : List Frame) → (gone ++ (x ∷ [])) ++ rest ≡ gone ++ (x ∷ rest)
    assoc [] = refl
    assoc (y ∷ gone) = ap (λ zs. y ∷ zs) (assoc gone)

set_under : (v : ℕ) (x : Value) (stack : List Frame) → under_top (set_on_top v x stack) ≡ under_top stack
set_under v x [] = refl
set_under v x (Body f ∷ below) = refl
set_under v x (Outside f ∷ below) = refl

gone_under : (s : Spot) (stack : List Frame) → under_top (gone_on_top s stack) ≡ under_top stack
gone_under s [] = refl
gone_under s (Body f ∷ below) = refl
gone_under s (Outside f ∷ below) = refl

taken_under : (x : Value) (stack : List Frame) → under_top (taken_on_top x stack) ≡ under_top stack
taken_under x [] = refl
taken_under x (Body f ∷ below) = refl
taken_under x (Outside f ∷ below) = refl

stays_moved : (all : List Frame) (t : State) (x : Move) → IsRestOf (under_top t.stack) all → IsNoCall x → IsRestOf (under_top (moved t x).stack) all
stays_moved all t (Says what) is none = is
stays_moved all t (Grows shape) is none = is
stays_moved all t (Turns block life') is none = is
stays_moved all t (Fills block bytes) is none = is
stays_moved all t (Keeps x) is none = is
stays_moved all t (Sets v x) is none = subst (λ s. IsRestOf s all) (sym (set_under v x t.stack)) is
stays_moved all t (Goes s) is none = subst (λ s. IsRestOf s all) (sym (gone_under s t.stack)) is
stays_moved all t (Takes x) is none = subst (λ s. IsRestOf s all) (sym (taken_under x t.stack)) is
stays_moved all t (Begins frame) is none = absurd none
stays_moved all t Ends is none = rest_under (under_top t.stack) all is

stays_after : (all : List Frame) (t : State) (moves : List Move) → IsRestOf (under_top t.stack) all → AllByRecursion IsNoCall moves →
    IsRestOf (under_top (after t moves).stack) all
stays_after all t [] is none = is
stays_after all t (x ∷ moves) is none = stays_after all (moved t x) moves (stays_moved all t x is none.0) none.1

module _ (m : Module) (t : State) where
  no_call_stays : (moves : List Move) → AllByRecursion IsNoCall moves → FramesStay t.stack (after t moves).stack
  no_call_stays moves none = stays_after t.stack t moves (rest_under t.stack t.stack (rest_refl t.stack)) none

  stays_step : (choice : Choice) → OnOutcome (λ moves. FramesStay t.stack (after t moves).stack) (plan m t choice)
  stays_step choice = by_calls m t (λ moves. FramesStay t.stack (after t moves).stack) no_call_stays (record {
    body = λ frame below instr call xs args f stack stands is at inner enters. ([], refl);
    outer = λ frame below instr call callee xs stack stands is at inner. ([], refl);
    entered = λ frame below f xs args stack is_open passes enters. ([], refl);
  }) choice

-- in every step of every run
pub all_stay : (m : Module) (t : State) (choices : List Choice) → AllByRecursion (λ d. FramesStay d.before.stack d.next.stack) (run m t choices)
all_stay m t choices = run_each m (λ d. FramesStay d.before.stack d.next.stack) (λ t choice. stays_step m t choice) choices t
