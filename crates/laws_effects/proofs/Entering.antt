-- What a call has as its arguments, after the entry rule, points where what was passed does.
use Rattle.std.proofs.Common.{◌≡◌, ℕ, zero, suc, Bool, true, false, if◌then◌else◌, List, [], ◌∷◌, slice_get, Option, None, Some, refl, sym, ap, subst, ◌∙◌}
use Rattle.shelf.proofs.Every.{every_always}
use Rattle.std.specs.List.{AllByRecursion, list_all}
use Rattle.ir_module.specs.declared.attrs.ParamAttrs.{ParamAttrs}
use Rattle.ir_module.specs.declared.module.Param.{Param}
use Rattle.ir_module.specs.declared.module.Spot.{Spot}
use Rattle.ir_module.specs.declared.module.Module.{Module}
use Rattle.ir_machine.specs.declared.choice.Datum.{Datum}
use Rattle.ir_machine.specs.declared.choice.Datum.TheVariants as datum
use Rattle.ir_machine.specs.declared.choice.Value.{Value}
use Rattle.ir_machine.specs.declared.choice.Choice.{Choice}
use Rattle.ir_machine.specs.Values.{carried}
use Rattle.ir_machine.specs.Memory.{Memory}
use Rattle.ir_machine.specs.Frames.{Begun, BodyFrame, Frame, Body, Outside, call_of as call_in, State, Enter, Capture}
use Rattle.ir_machine.specs.Moves.{Move, Says, Grows, Turns, Fills, Keeps, Sets, Goes, Takes, Begins, Ends, moved, set_on_top, gone_on_top, taken_on_top}
use Rattle.ir_machine.specs.Moves.{under_top, Gives}
use Rattle.ir_machine.specs.Calls.{becomes_poison, is_dereferenceable, poisoned, acted_on, entered, params_of, begun_by, passed_to, body_frame}
use Rattle.ir_machine.specs.Steps.{plan}
use Rattle.ir_machine.specs.Runs.{IsOpening, run}
use Rattle.ir_machine.proofs.Basics.{OnOutcome, on_with, on_needs, given, Along, Shown, run_law, outcome_mapped}
use Rattle.ir_machine.proofs.Instructions.{here_in, passing_at, passing_in}
use Rattle.ir_machine.proofs.Moving.{along_all}
use Rattle.ir_machine.proofs.Calling.{IsNoCall, by_calls}

-- an argument that points to a block was passed as a pointer to it
abbrev pub KeepsPlaces : List Value → List Value → Type 0
KeepsPlaces passed args = (k : ℕ) (x : Value) (b o : ℕ) → slice_get args k ≡ Some x → x.datum ≡ datum.Ptr b o →
    (y : Value) × (slice_get passed k ≡ Some y) × (y.datum ≡ datum.Ptr b o)

abbrev pub HasPlaces : Frame → Type 0
HasPlaces frame = KeepsPlaces (call_in frame).passed (call_in frame).args

acted_place : (mem : Memory) (attrs : List ParamAttrs) (x : Value) →
    OnOutcome (λ (y : Value). (b o : ℕ) → y.datum ≡ datum.Ptr b o → x.datum ≡ datum.Ptr b o) (acted_on mem attrs x)
acted_place mem attrs x =
    on_needs (λ (y : Value). (b o : ℕ) → y.datum ≡ datum.Ptr b o → x.datum ≡ datum.Ptr b o)
    (list_all (λ a. is_dereferenceable mem a.dereferenceable (poisoned mem attrs x).datum) attrs) (Gives (poisoned mem attrs x))
    (λ _. by (becomes_poison mem attrs x.datum))
  where
    by : (p : Bool) → (b o : ℕ) → (if p then carried x datum.Poison else x).datum ≡ datum.Ptr b o → x.datum ≡ datum.Ptr b o
    by true b o e = absurd (cc)
    by false b o e = e

entered_places : (mem : Memory) (params : List Param) (xs : List Value) → OnOutcome (KeepsPlaces xs) (entered mem params xs)
entered_places mem [] xs = λ k x b o at is. absurd (cc)
entered_places mem (p ∷ params) [] = tt
entered_places mem (p ∷ params) (x ∷ xs) =
    on_with (KeepsPlaces (x ∷ xs)) (acted_on mem (p.attrs ∷ []) x) _ (λ y acted. on_with (KeepsPlaces (x ∷ xs)) (entered mem params xs) _ (λ ys rest.
    both y ys (given (λ (y : Value). (b o : ℕ) → y.datum ≡ datum.Ptr b o → x.datum ≡ datum.Ptr b o) (acted_on mem (p.attrs ∷ []) x) y
    (acted_place mem (p.attrs ∷ []) x) acted) (given (KeepsPlaces xs) (entered mem params xs) ys (entered_places mem params xs) rest)))
  where
    both : (y : Value) (ys : List Value) → ((b o : ℕ) → y.datum ≡ datum.Ptr b o → x.datum ≡ datum.Ptr b o) → KeepsPlaces xs ys → KeepsPlaces (x ∷ xs) (y ∷ ys)
    both y ys first more zero z b o at is = let same : y ≡ z = cc in (x, refl, first b o (subst (λ (z : Value). z.datum ≡ datum.Ptr b o) (sym same) is))
    both y ys first more (suc k) z b o at is = more k z b o at is

-- ---- at every moment
module _ (m : Module) where
  abbrev pub Placed : State → Type 0
  Placed t = AllByRecursion HasPlaces t.stack

  abbrev Places : State → Move → Type 0
  Places t (Begins frame) = HasPlaces frame
  Places t (Says what) = Unit {0}
  Places t (Grows shape) = Unit {0}
  Places t (Turns block life') = Unit {0}
  Places t (Fills block bytes) = Unit {0}
  Places t (Keeps x) = Unit {0}
  Places t (Sets v x) = Unit {0}
  Places t (Goes spot) = Unit {0}
  Places t (Takes x) = Unit {0}
  Places t Ends = Unit {0}

  set_placed : (v : ℕ) (x : Value) (stack : List Frame) → AllByRecursion HasPlaces stack → AllByRecursion HasPlaces (set_on_top v x stack)
  set_placed v x [] h = h
  set_placed v x (Body f ∷ below) h = (h.0, h.1)
  set_placed v x (Outside f ∷ below) h = h

  gone_placed : (s : Spot) (stack : List Frame) → AllByRecursion HasPlaces stack → AllByRecursion HasPlaces (gone_on_top s stack)
  gone_placed s [] h = h
  gone_placed s (Body f ∷ below) h = (h.0, h.1)
  gone_placed s (Outside f ∷ below) h = h

  taken_placed : (x : Value) (stack : List Frame) → AllByRecursion HasPlaces stack → AllByRecursion HasPlaces (taken_on_top x stack)
  taken_placed x [] h = h
  taken_placed x (Body f ∷ below) h = h
  taken_placed x (Outside f ∷ below) h = (h.0, h.1)

  under_placed : (stack : List Frame) → AllByRecursion HasPlaces stack → AllByRecursion HasPlaces (under_top stack)
  under_placed [] h = h
  under_placed (top ∷ below) h = h.1

  placed_moved : (t : State) (x : Move) → Placed t → Places t x → Placed (moved t x)
  placed_moved t (Says what) h c = h
  placed_moved t (Grows shape) h c = h
  placed_moved t (Turns block life') h c = h
  placed_moved t (Fills block bytes) h c = h
  placed_moved t (Keeps x) h c = h
  placed_moved t (Sets v x) h c = set_placed v x t.stack h
  placed_moved t (Goes s) h c = gone_placed s t.stack h
  placed_moved t (Takes x) h c = taken_placed x t.stack h
  placed_moved t (Begins frame) h c = (c, h)
  placed_moved t Ends h c = under_placed t.stack h

  no_call_places : (t : State) (x : Move) → IsNoCall x → Places t x
  no_call_places t (Begins frame) none = absurd none
  no_call_places t (Says what) none = tt
  no_call_places t (Grows shape) none = tt
  no_call_places t (Turns block life') none = tt
  no_call_places t (Fills block bytes) none = tt
  no_call_places t (Keeps x) none = tt
  no_call_places t (Sets v x) none = tt
  no_call_places t (Goes spot) none = tt
  no_call_places t (Takes x) none = tt
  no_call_places t Ends none = tt

  places_step : (t : State) (choice : Choice) → OnOutcome (Along Places t) (plan m t choice)
  places_step t choice = by_calls m t (Along Places t) (λ moves none. along_all Places IsNoCall no_call_places t moves none) (record {
    body = λ frame below instr call xs args f stack stands is at inner enters.
        let passed = passed_to m t (passing_at (here_in t frame below instr) call xs) in
        (given (KeepsPlaces passed) (entered t.memory (params_of m f) passed) args (entered_places t.memory (params_of m f) passed) enters, (tt, tt));
    outer = λ frame below instr call callee xs stack stands is at inner. (tt, ((λ k x b o at_k is. (x, at_k, is)), tt));
    entered = λ frame below f xs args stack is_open passes enters.
        let passed = passed_to m t (passing_in m f xs) in
        (given (KeepsPlaces passed) (entered t.memory (params_of m f) passed) args (entered_places t.memory (params_of m f) passed) enters, (tt, tt));
  }) choice

  -- in every state of every run
  pub all_placed : (t : State) → IsOpening m t → (choices : List Choice) → AllByRecursion (Shown Placed (λ e. Unit {0})) (run m t choices)
  all_placed t is choices =
      run_law m Placed (λ d. Unit {0}) Places (λ e. Unit {0}) (record { move = placed_moved; happens = λ t what h c. tt })
      (λ t choice h. outcome_mapped (Along Places t) (λ moves. Unit {0} → Along Places t moves) (plan m t choice) (λ moves along _. along)
      (places_step t choice))
      choices t (subst (AllByRecursion HasPlaces) (sym is.stack) ((λ k x b o at e. absurd (cc)), tt)) (every_always (λ d. Unit {0}) (run m t choices) (λ d. tt))
