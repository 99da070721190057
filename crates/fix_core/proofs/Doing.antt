-- States from which events can be run.
use Rattle.std.proofs.Common.{◌≡◌, ℕ, ◌+◌, ◌-◌, ◌^◌, ◌<◌, ◌≤◌, Bool, true, false, cond, eqb, List, [], ◌∷◌, length, length-set, replicate, set, slice_get}
use Rattle.std.proofs.Common.{get_or, take, Option, Some, None, All, refl, ap, sym, ◌∙◌, subst, arith}
use Rattle.std.proofs.lemmas.List.{length-replicate, set-get_or, set_past}
use Rattle.std.proofs.lemmas.List.Elements.{All-get_or}
use Rattle.std.proofs.lemmas.List.Sums.{fold_more}
use Rattle.attr_ids.specs.declared.ids.PosId.{PosId}
use Rattle.rule_terms.specs.Names.{has_name}
use Rattle.rule_terms.specs.Slots.{input_at}
use Rattle.rule_terms.specs.System.{System, inputs_of, value_at}
use Rattle.dep_graph.specs.Row.{Row}
use Rattle.fix_core.specs.declared.event.CoreEvent.{CoreEvent}
use Rattle.fix_core.specs.declared.event.CoreEvent.TheVariants.{Take, Look, Cut, Tell, Clear}
use Rattle.fix_core.specs.declared.state.CoreState.{CoreState}
use Rattle.fix_core.specs.declared.state.CoreSeat.{CoreSeat}
use Rattle.fix_core.specs.declared.state.CoreMode.{CoreMode}
use Rattle.fix_core.specs.declared.state.CoreMode.TheVariants.{Idle, Open, Owes}
use Rattle.fix_core.specs.Machine.{facts_of, dirty_at, is_clean, cleaned, dirtied, cut_to, lost_by, owed_by, owing, word_at, seat_at, new_seat, written, seated}
use Rattle.fix_core.specs.Machine.{values_of, has_all, after_take, after_look, after_cut, after_tell, after_clear, take_step, look_step, cut_step, tell_step}
use Rattle.fix_core.specs.Machine.{clear_step, step, run_of, IsEvent}
use Rattle.fix_core.specs.Runs.{IsPlaced, CanRun}
use Rattle.fix_core.proofs.Opening.{replicated}
use Rattle.fix_core.proofs.Written.{each_after}
use Rattle.fix_core.proofs.Steps.{seat_here}

pub owing_placed : (s : System) (list : List PosId) → IsPlaced s (owing list)
owing_placed s [] = tt
owing_placed s (d ∷ ds) = tt

pub runs_less : (s : System) (c : CoreState) (n m : ℕ) → m ≤ n → CanRun s c n → CanRun s c m
runs_less s c n m l can = record {
  words = can.words;
  seats = can.seats;
  modes = can.modes;
  took = λ w seat e. omega (arith, can.took w seat e);
  told = λ w seat e. omega (arith, can.told w seat e);
}

module _ (s : System) (g : List Row) (c : CoreState) (n : ℕ) (can : CanRun s c (n + 1)) where
  -- one seat was written, and no word more
  runs_after : (words : List ℕ) → length words ≡ length c.words → (w : ℕ) → w < length c.seats → (v : CoreSeat) → IsPlaced s v.mode →
      v.took ≤ (seat_at c w).took + 1 → v.told ≤ (seat_at c w).told + 1 →
      CanRun s (record { words = words; seats = set c.seats w v }) n
  runs_after words same w l v placed took told =
      let at : slice_get c.seats w ≡ Some (seat_at c w) = seat_here c w l in
      record {
        words = same ∙ can.words;
        seats = omega (arith, length-set c.seats w v, can.seats);
        modes = each_after (λ u other. IsPlaced s other.mode) (λ u other. IsPlaced s other.mode) c.seats w v placed (λ u other ne h. h) can.modes;
        took = each_after (λ u other. other.took + (n + 1) < 2 ^ 64) (λ u other. other.took + n < 2 ^ 64) c.seats w v (omega (
          arith,
          can.took w (seat_at c w) at,
        )) (λ u other ne h. omega arith) can.took;
        told = each_after (λ u other. other.told + (n + 1) < 2 ^ 64) (λ u other. other.told + n < 2 ^ 64) c.seats w v (omega (
          arith,
          can.told w (seat_at c w) at,
        )) (λ u other ne h. omega arith) can.told;
      }

  same : CanRun s c n
  same = runs_less s c (n + 1) n (omega arith) can

  take_up : (w : ℕ) → w < length c.seats → (p : PosId) → p.0 < length s.masks → (m : CoreMode) → CanRun s (take_step s c w p m) n ×
      (length (take_step s c w p m).seats ≡ length c.seats)
  take_up w l p k Idle = (
    runs_after (set c.words p.0 (cleaned (word_at c p.0))) (length-set c.words p.0 (cleaned (word_at c p.0))) w l (after_take s p (word_at c p.0) (seat_at c w))
        (placed (is_clean (word_at c p.0))) (more (is_clean (word_at c p.0))) (omega arith),
    length-set c.seats w (after_take s p (word_at c p.0) (seat_at c w)),
  ) where
    placed : (b : Bool) → IsPlaced s (cond b Idle (Open p (replicate (length (inputs_of s p.0)) None)))
    placed true = tt
    placed false = (k, length-replicate (length (inputs_of s p.0)) None)

    more : (b : Bool) → cond b (seat_at c w).took ((seat_at c w).took + 1) ≤ (seat_at c w).took + 1
    more true = omega arith
    more false = omega arith
  take_up w l p k (Open q looked) = (same, refl)
  take_up w l p k (Owes list) = (same, refl)

  look : (w : ℕ) → w < length c.seats → (i : ℕ) → (m : CoreMode) → (seat_at c w).mode ≡ m → CanRun s (look_step s c w i m) n ×
      (length (look_step s c w i m).seats ≡ length c.seats)
  look w l i Idle e = (same, refl)
  look w l i (Open p looked) e =
      let word : ℕ = word_at c (input_at (inputs_of s p.0) i).0 in
      let old : (p.0 < length s.masks) × (length looked ≡ length (inputs_of s p.0)) = subst (IsPlaced s) e (can.modes w (seat_at c w) (seat_here c w l)) in (
        runs_after c.words refl w l (after_look p looked i word (seat_at c w)) (
          old.0,
          length-set looked i (Some (facts_of word)) ∙
              old.1,
        ) (omega arith) (omega arith),
        length-set c.seats w (after_look p looked i word (seat_at c w)),
      )
  look w l i (Owes list) e = (same, refl)

  cut : (w : ℕ) → w < length c.seats → (m : CoreMode) → CanRun s (cut_step s g c w m) n × (length (cut_step s g c w m).seats ≡ length c.seats)
  cut w l Idle = (same, refl)
  cut w l (Open p looked) = by_case (has_all looked) where
    cut_runs : (new : ℕ) → CanRun s (written c p.0 (cut_to new (word_at c p.0)) w (after_cut g p new (word_at c p.0) (seat_at c w))) n
    cut_runs new = runs_after (set c.words p.0 (cut_to new (word_at c p.0))) (length-set c.words p.0 (cut_to new (word_at c p.0))) w l
        (after_cut g p new (word_at c p.0) (seat_at c w))
        (owing_placed s (owed_by g p.0 (lost_by new (word_at c p.0)))) (omega arith) (omega arith)

    by_case : (b : Bool) → let new = value_at s p.0 (values_of looked) in
        let next = cond b (written c p.0 (cut_to new (word_at c p.0)) w (after_cut g p new (word_at c p.0) (seat_at c w))) c in CanRun s next n ×
        (length next.seats ≡ length c.seats)
    by_case true = (
      cut_runs (value_at s p.0 (values_of looked)),
      length-set c.seats w (after_cut g p (value_at s p.0 (values_of looked)) (word_at c p.0) (seat_at c w)),
    )
    by_case false = (same, refl)
  cut w l (Owes list) = (same, refl)

  tell : (w : ℕ) → w < length c.seats → (d : PosId) → (m : CoreMode) → CanRun s (tell_step c w d m) n × (length (tell_step c w d m).seats ≡ length c.seats)
  tell w l d Idle = (same, refl)
  tell w l d (Open p looked) = (same, refl)
  tell w l d (Owes list) = by_case (has_name list d) where
    more : (b : Bool) → cond b ((seat_at c w).told + 1) (seat_at c w).told ≤ (seat_at c w).told + 1
    more true = omega arith
    more false = omega arith

    by_case : (b : Bool) → let next = cond b (written c d.0 (dirtied (word_at c d.0) w) w (after_tell w d list (word_at c d.0) (seat_at c w))) c in
        CanRun s next n × (length next.seats ≡ length c.seats)
    by_case true = (
      runs_after (set c.words d.0 (dirtied (word_at c d.0) w)) (length-set c.words d.0 (dirtied (word_at c d.0) w)) w l
          (after_tell w d list (word_at c d.0) (seat_at c w))
          (owing_placed s _) (omega arith) (more (eqb (dirty_at (word_at c d.0) w) 0)),
      length-set c.seats w (after_tell w d list (word_at c d.0) (seat_at c w)),
    )
    by_case false = (same, refl)

  clear : (w : ℕ) → w < length c.seats → (p : PosId) → (m : CoreMode) → CanRun s (clear_step c w p m) n × (length (clear_step c w p m).seats ≡ length c.seats)
  clear w l p Idle = by_case (eqb (dirty_at (word_at c p.0) w) 0) where
    by_case : (b : Bool) → let next = cond b (seated c w (after_clear p (seat_at c w))) c in CanRun s next n × (length next.seats ≡ length c.seats)
    by_case true = (
      runs_after c.words refl w l (after_clear p (seat_at c w)) (can.modes w (seat_at c w) (seat_here c w l)) (omega arith) (omega arith),
      length-set c.seats w (after_clear p (seat_at c w)),
    )
    by_case false = (same, refl)
  clear w l p (Open q looked) = (same, refl)
  clear w l p (Owes list) = (same, refl)

  -- after an event one event fewer can be run
  pub event_runs : (e : CoreEvent) → IsEvent (length s.masks) (length c.seats) e → CanRun s (step s g c e) n × (length (step s g c e).seats ≡ length c.seats)
  event_runs (Take w p) may = take_up w may.0 p may.1 (seat_at c w).mode
  event_runs (Look w i) may = look w may i (seat_at c w).mode refl
  event_runs (Cut w) may = cut w may (seat_at c w).mode
  event_runs (Tell w d) may = tell w may.0 d (seat_at c w).mode
  event_runs (Clear w p) may = clear w may.0 p (seat_at c w).mode

-- ---- a seat that has a position open
module _ (s : System) (c : CoreState) (n : ℕ) (can : CanRun s c n) (w : ℕ) (l : w < length c.seats) (p : PosId) (looked : List (Option ℕ))
    (mode : (seat_at c w).mode ≡ Open p looked) where
  pub open_placed : (p.0 < length s.masks) × (length looked ≡ length (inputs_of s p.0))
  open_placed = subst (IsPlaced s) mode (can.modes w (seat_at c w) (seat_here c w l))

  pub look_done : (i word : ℕ) (v : CoreSeat) → word ≡ word_at c (input_at (inputs_of s p.0) i).0 → v ≡ after_look p looked i word (seat_at c w) →
      seated c w v ≡ look_step s c w i (seat_at c w).mode
  look_done i word v is e = ap (seated c w) (e ∙ ap (λ m. after_look p looked i m (seat_at c w)) is) ∙ ap (look_step s c w i) (sym mode)

  -- a look past the inputs changes nothing
  pub look_past : (i : ℕ) → length (inputs_of s p.0) ≤ i → c ≡ look_step s c w i (seat_at c w).mode
  look_past i past =
      let word : ℕ = word_at c (input_at (inputs_of s p.0) i).0 in
      let unset : set looked i (Some (facts_of word)) ≡ looked = set_past looked i (Some (facts_of word)) (omega (arith, open_placed.1)) in
      let seat : CoreSeat = seat_at c w in
      let in_mode : CoreMode → CoreSeat = λ m. record { mode = m; known = seat.known; took = seat.took; told = seat.told } in
      let still : after_look p looked i word seat ≡ seat = ap (λ xs. in_mode (Open p xs)) unset ∙ ap in_mode (sym mode) in
      let seats : set c.seats w seat ≡ c.seats = set-get_or c.seats w new_seat in
      let put : List CoreSeat → CoreState = λ xs. record { words = c.words; seats = xs } in
      sym (ap (look_step s c w i) mode ∙ ap (seated c w) still ∙ ap put seats)

-- ---- a run, one event further
module _ (s : System) (g : List Row) (start state next : CoreState) (events items : List CoreEvent) (i : ℕ) (d : CoreEvent) (same_items : items ≡ events)
    (l : i < length items) (is : state ≡ run_of s g start (take i events))
    (can : CanRun s state (length events - i)) (seats : length state.seats ≡ length start.seats) (may : All (IsEvent (length s.masks) (length start.seats))
    events) (goes : next ≡ step s g state (get_or items i d)) where
  inside : i < length events
  inside = omega (arith, ap length same_items)

  pub next_is : next ≡ run_of s g start (take (i + 1) events)
  next_is = goes ∙ ap (λ x. step s g x (get_or items i d)) is ∙ ap (λ xs. step s g (run_of s g start (take i events)) (get_or xs i d)) same_items ∙
      sym (fold_more (step s g) start events i d inside)

  after : CanRun s (step s g state (get_or items i d)) (length events - (i + 1)) × (length (step s g state (get_or items i d)).seats ≡ length state.seats)
  after = event_runs s g state (length events - (i + 1)) (runs_less s state (length events - i) (length events - (i + 1) + 1) (omega (
    arith,
    inside,
  )) can) (get_or items i d)
      (subst (λ (x : ℕ × List CoreEvent). IsEvent (length s.masks) x.0 (get_or x.1 i d)) (λ j. (
        sym seats j,
        sym same_items j,
      )) (All-get_or (IsEvent (length s.masks) (length start.seats)) events i d inside may))

  pub next_can : CanRun s next (length events - (i + 1))
  next_can = subst (λ x. CanRun s x (length events - (i + 1))) (sym goes) after.0

  pub next_seats : length next.seats ≡ length start.seats
  next_seats = ap (λ (x : CoreState). length x.seats) goes ∙ after.1 ∙ seats

-- 100 events can be run from two seats that have done nothing
pub opening_runs : (s : System) (words : List ℕ) → length words ≡ length s.masks → CanRun s (record { words = words; seats = new_seat ∷ new_seat ∷ [] }) 100
opening_runs s words long = record {
  words = long;
  seats = omega arith;
  modes = λ w seat e. subst (λ (x : CoreSeat). IsPlaced s x.mode) (replicated 2 new_seat w seat e) tt;
  took = λ w seat e. subst (λ (x : CoreSeat). x.took + 100 < 2 ^ 64) (replicated 2 new_seat w seat e) (omega arith);
  told = λ w seat e. subst (λ (x : CoreSeat). x.told + 100 < 2 ^ 64) (replicated 2 new_seat w seat e) (omega arith);
}
