-- Extents nest: while a call stands, the calls below it stay, since a call that begins has a new number.
use Rattle.std.proofs.Common.{◌≡◌, ℕ, ◌<◌, ◌++◌, List, [], ◌∷◌, map, refl, sym, ap, subst, ◌∙◌, arith}
use Rattle.std.specs.List.{AllByRecursion}
use Rattle.shelf.proofs.Every.{every_mapped, every_always}
use Rattle.ir_module.specs.declared.module.Spot.{Spot}
use Rattle.ir_module.specs.declared.module.Module.{Module}
use Rattle.ir_machine.specs.declared.choice.Value.{Value}
use Rattle.ir_machine.specs.declared.choice.Choice.{Choice}
use Rattle.ir_machine.specs.Frames.{Frame, Body, Outside, State, What, Active, active, call_of, Event, event}
use Rattle.ir_machine.specs.Moves.{Move, Says, Grows, Turns, Fills, Keeps, Sets, Goes, Takes, Begins, Ends, moved, after, said, set_on_top, gone_on_top}
use Rattle.ir_machine.specs.Moves.{taken_on_top, under_top, Gives, Undefined, Over, Plan}
use Rattle.ir_machine.specs.Steps.{plan}
use Rattle.ir_machine.specs.Runs.{done_by, run, events_of}
use Rattle.ir_machine.specs.Valid.{AreOrdered, IsValid}
use Rattle.ir_machine.specs.Stays.{StandBelow, HaveSameBelow, ExtentsNest}
use Rattle.ir_machine.proofs.Basics.{OnOutcome, Along, Law, Shown, kept_after, shown_said, run_law, outcome_mapped, of_events}
use Rattle.ir_machine.proofs.Valid.{Fits, valid_moved}
use Rattle.ir_machine.proofs.Running.{fits_step, valid_after}

-- ---- a call stands once
first_of : (a b : Active) (xs ys : List Active) → a ∷ xs ≡ b ∷ ys → a ≡ b
first_of a b xs ys e = cc

others_of : (a b : Active) (xs ys : List Active) → a ∷ xs ≡ b ∷ ys → xs ≡ ys
others_of a b xs ys e = cc

-- a call that stands has a number below the bound
stands_low : (born : ℕ → ℕ) (next most : ℕ) (stack : List Frame) (a : Active) (below above : List Active) → AreOrdered born next most stack →
    map active stack ≡ above ++ (a ∷ below) → a.call.number < next
stands_low born next most [] a below [] order e = absurd (cc)
stands_low born next most [] a below (x ∷ above) order e = absurd (cc)
stands_low born next most (frame ∷ stack) a below [] order e =
    subst (λ (b : Active). b.call.number < next) (first_of (active frame) a (map active stack) below e) order.0
stands_low born next most (frame ∷ stack) a below (x ∷ above) order e =
    let low = stands_low born (call_of frame).number (call_of frame).born stack a below above order.3
    (others_of (active frame) x (map active stack) (above ++ (a ∷ below)) e) in
    omega (arith, low, order.0)

stands_once : (born : ℕ → ℕ) (next most : ℕ) (stack : List Frame) (a : Active) (below below' above above' : List Active) → AreOrdered born next most stack →
    map active stack ≡ above ++ (a ∷ below) → map active stack ≡ above' ++ (a ∷ below') → below' ≡ below
stands_once born next most [] a below below' [] above' order e e' = absurd (cc)
stands_once born next most [] a below below' (x ∷ above) above' order e e' = absurd (cc)
stands_once born next most (frame ∷ stack) a below below' [] [] order e e' = others_of a a below' below (sym e' ∙ e)
stands_once born next most (frame ∷ stack) a below below' [] (y ∷ above') order e e' =
    let low = stands_low born (call_of frame).number (call_of frame).born stack a below' above' order.3
    (others_of (active frame) y (map active stack) (above' ++ (a ∷ below')) e') in
    let is = ap (λ (b : Active). b.call.number) (first_of (active frame) a (map active stack) below e) in
    absurd (omega (arith, low, is))
stands_once born next most (frame ∷ stack) a below below' (x ∷ above) [] order e e' =
    let low = stands_low born (call_of frame).number (call_of frame).born stack a below above order.3
    (others_of (active frame) x (map active stack) (above ++ (a ∷ below)) e) in
    let is = ap (λ (b : Active). b.call.number) (first_of (active frame) a (map active stack) below' e') in
    absurd (omega (arith, low, is))
stands_once born next most (frame ∷ stack) a below below' (x ∷ above) (y ∷ above') order e e' =
    stands_once born (call_of frame).number (call_of frame).born stack a below below' above above' order.3
    (others_of (active frame) x (map active stack) (above ++ (a ∷ below)) e) (others_of (active frame) y (map active stack) (above' ++ (a ∷ below')) e')

-- ---- what stands below one call
module _ (a : Active) (below : List Active) where
  -- where the call stands, these stand below it
  abbrev OnlyBelow : List Active → Type 0
  OnlyBelow calls = (now : List Active) → StandBelow a now calls → now ≡ below

  abbrev Below : State → Type 0
  Below t = (a.call.number < t.next_call) × OnlyBelow (map active t.stack)

  set_active : (v : ℕ) (x : Value) (stack : List Frame) → map active (set_on_top v x stack) ≡ map active stack
  set_active v x [] = refl
  set_active v x (Body f ∷ stack) = refl
  set_active v x (Outside f ∷ stack) = refl

  gone_active : (s : Spot) (stack : List Frame) → map active (gone_on_top s stack) ≡ map active stack
  gone_active s [] = refl
  gone_active s (Body f ∷ stack) = refl
  gone_active s (Outside f ∷ stack) = refl

  taken_active : (x : Value) (stack : List Frame) → map active (taken_on_top x stack) ≡ map active stack
  taken_active x [] = refl
  taken_active x (Body f ∷ stack) = refl
  taken_active x (Outside f ∷ stack) = refl

  under_only : (stack : List Frame) → OnlyBelow (map active stack) → OnlyBelow (map active (under_top stack))
  under_only [] only = only
  under_only (frame ∷ stack) only = λ now stands. only now (active frame ∷ stands.0, ap (λ xs. active frame ∷ xs) stands.1)

  begun_only : (frame : Frame) (stack : List Frame) (next : ℕ) → (call_of frame).number ≡ next → a.call.number < next → OnlyBelow (map active stack) →
      OnlyBelow (map active (frame ∷ stack))
  begun_only frame stack next is low only = λ now stands. by now stands.0 stands.1
    where
      by : (now above : List Active) → active frame ∷ map active stack ≡ above ++ (a ∷ now) → now ≡ below
      by now [] e =
          let number = ap (λ (b : Active). b.call.number) (first_of (active frame) a (map active stack) now e) in
          absurd (omega (arith, number, is, low))
      by now (x ∷ above) e = only now (above, others_of (active frame) x (map active stack) (above ++ (a ∷ now)) e)

  below_moved : (t : State) (x : Move) → IsValid t × Below t → Fits t x → IsValid (moved t x) × Below (moved t x)
  below_moved t x both fits = (valid_moved t x both.0 fits, by x fits)
    where
      by : (x : Move) → Fits t x → Below (moved t x)
      by (Says what) fits = both.1
      by (Grows shape) fits = both.1
      by (Turns block life') fits = both.1
      by (Fills block bytes) fits = both.1
      by (Keeps y) fits = both.1
      by (Sets v y) fits = (both.1.0, subst OnlyBelow (sym (set_active v y t.stack)) both.1.1)
      by (Goes s) fits = (both.1.0, subst OnlyBelow (sym (gone_active s t.stack)) both.1.1)
      by (Takes y) fits = (both.1.0, subst OnlyBelow (sym (taken_active y t.stack)) both.1.1)
      by (Begins frame) fits = (omega (arith, both.1.0), begun_only frame t.stack t.next_call fits.0.0 both.1.0 both.1.1)
      by Ends fits = (both.1.0, under_only t.stack both.1.1)

  abbrev KeepsBelow : Event → Type 0
  KeepsBelow e = OnlyBelow e.calls

  below_law : Law (λ t. IsValid t × Below t) Fits KeepsBelow
  below_law = record { move = below_moved; happens = λ t what both fits. both.1.1 }

  below_run : (m : Module) (choices : List Choice) (t : State) → IsValid t × Below t → AllByRecursion KeepsBelow (events_of (run m t choices))
  below_run m choices t both =
      of_events KeepsBelow (run m t choices) (every_mapped (Shown (λ t. IsValid t × Below t) KeepsBelow) (λ d. AllByRecursion KeepsBelow d.events)
      (run m t choices)
      (λ d shown. shown.events) (run_law m (λ t. IsValid t × Below t) (λ d. Unit {0}) Fits KeepsBelow below_law
      (λ t choice both. outcome_mapped (Along Fits t) (λ moves. Unit {0} → Along Fits t moves) (plan m t choice) (λ moves along _. along)
      (fits_step m t both.0 choice))
      choices t both (every_always (λ d. Unit {0}) (run m t choices) (λ d. tt))))

-- what stands below a call in an event stands below it in the state of that moment
stands_now : (t : State) → IsValid t → (what : What) (a : Active) (below : List Active) → StandBelow a below (event t.stack what).calls → Below a below t
stands_now t valid what a below stands = (
  stands_low t.born t.next_call t.memory.count t.stack a below stands.0 valid.order stands.1,
  (λ now again. stands_once t.born t.next_call t.memory.count t.stack a below now stands.0 again.0 valid.order stands.1 again.1),
)

-- ---- all events
swapped : (e : Event) (events : List Event) → ((a : Active) (below : List Active) → StandBelow a below e.calls → AllByRecursion (KeepsBelow a below) events) →
    AllByRecursion (HaveSameBelow e) events
swapped e [] all = tt
swapped e (later ∷ events) all = ((λ a below now at_e at_later. (all a below at_e).0 now at_later), swapped e events (λ a below at_e. (all a below at_e).1))

joined_keeps : (a : Active) (below : List Active) (events rest : List Event) → AllByRecursion (KeepsBelow a below) events →
    AllByRecursion (KeepsBelow a below) rest →
    AllByRecursion (KeepsBelow a below) (events ++ rest)
joined_keeps a below [] rest here there = there
joined_keeps a below (e ∷ events) rest here there = (here.0, joined_keeps a below events rest here.1 there)

-- the events that are still to come
abbrev Stays : State → List Event → Type 0
Stays t later = (a : Active) (below : List Active) → IsValid t → Below a below t → AllByRecursion (KeepsBelow a below) later

nest_said : (t : State) (moves : List Move) (later : List Event) → IsValid t → Along Fits t moves → Stays (after t moves) later → ExtentsNest later →
    ExtentsNest (said t moves ++ later)
nest_said t [] later valid fits stays nest = nest
nest_said t (Says what ∷ moves) later valid fits stays nest = (
  swapped (event t.stack what) (said t moves ++ later) (λ a below stands.
      let both : IsValid t × Below a below t = (valid, stands_now t valid what a below stands) in
      joined_keeps a below (said t moves) later
      (shown_said (λ t. IsValid t × Below a below t) Fits (KeepsBelow a below) (below_law a below) t moves both fits.1)
      (let end = kept_after (λ t. IsValid t × Below a below t) Fits (KeepsBelow a below) (below_law a below) t moves both fits.1 in stays a below end.0 end.1)),
  nest_said t moves later valid fits.1 stays nest,
)
nest_said t (Grows shape ∷ moves) later valid fits stays nest = nest_said (moved t (Grows shape)) moves later (valid_moved t
    (Grows shape) valid fits.0) fits.1 stays nest
nest_said t (Turns b l ∷ moves) later valid fits stays nest = nest_said (moved t (Turns b l)) moves later (valid_moved t
    (Turns b l) valid fits.0) fits.1 stays nest
nest_said t (Fills b bytes ∷ moves) later valid fits stays nest = nest_said (moved t (Fills b bytes)) moves later (valid_moved t
    (Fills b bytes) valid fits.0) fits.1 stays nest
nest_said t (Keeps x ∷ moves) later valid fits stays nest = nest_said (moved t (Keeps x)) moves later (valid_moved t (Keeps x) valid fits.0) fits.1 stays nest
nest_said t (Sets v x ∷ moves) later valid fits stays nest = nest_said (moved t (Sets v x)) moves later (valid_moved t
    (Sets v x) valid fits.0) fits.1 stays nest
nest_said t (Goes s ∷ moves) later valid fits stays nest = nest_said (moved t (Goes s)) moves later (valid_moved t (Goes s) valid fits.0) fits.1 stays nest
nest_said t (Takes x ∷ moves) later valid fits stays nest = nest_said (moved t (Takes x)) moves later (valid_moved t (Takes x) valid fits.0) fits.1 stays nest
nest_said t (Begins f ∷ moves) later valid fits stays nest = nest_said (moved t (Begins f)) moves later (valid_moved t
    (Begins f) valid fits.0) fits.1 stays nest
nest_said t (Ends ∷ moves) later valid fits stays nest = nest_said (moved t Ends) moves later (valid_moved t Ends valid fits.0) fits.1 stays nest

module _ (m : Module) where
  nest_step : (t : State) (choices : List Choice) (o : Plan) → IsValid t → OnOutcome (Along Fits t) o →
      ((next : State) → IsValid next → ExtentsNest (events_of (run m next choices))) → ExtentsNest (events_of (done_by t o (λ next. run m next choices)))
  nest_step t choices (Gives moves) valid fits rest =
      nest_said t moves (events_of (run m (after t moves) choices)) valid fits (λ a below valid' below'. below_run a below m choices (after t moves)
      (valid', below'))
      (rest (after t moves) (valid_after t moves valid fits))
  nest_step t choices Undefined valid fits rest = tt
  nest_step t choices Over valid fits rest = tt

  -- the events of every run from a valid state on
  pub all_nest : (choices : List Choice) (t : State) → IsValid t → ExtentsNest (events_of (run m t choices))
  unfolding run
  all_nest [] t valid = tt
  all_nest (choice ∷ choices) t valid = nest_step t choices (plan m t choice) valid (fits_step m t valid choice) (λ next valid. all_nest choices next valid)
