-- Every event, and every list of events, keeps the core invariant.
use Rattle.std.proofs.Common.{◌≡◌, ℕ, ◌<◌, ◌≤◌, Bool, true, false, cond, eqb, eqb-true, List, [], ◌∷◌, length, slice_get, Some, All, refl, arith}
use Rattle.std.proofs.lemmas.List.Elements.{All-head, All-tail}
use Rattle.std.proofs.lemmas.Option.{slice_get-get_or}
use Rattle.attr_ids.specs.declared.ids.PosId.{PosId}
use Rattle.rule_terms.specs.Names.{has_name}
use Rattle.rule_terms.specs.System.{System, IsSystem, value_at}
use Rattle.dep_graph.specs.Row.{Row}
use Rattle.dep_graph.specs.Graph.{IsGraphOf}
use Rattle.fix_core.specs.declared.event.CoreEvent.{CoreEvent}
use Rattle.fix_core.specs.declared.event.CoreEvent.TheVariants.{Take, Look, Cut, Tell, Clear}
use Rattle.fix_core.specs.declared.state.CoreState.{CoreState}
use Rattle.fix_core.specs.declared.state.CoreMode.{CoreMode}
use Rattle.fix_core.specs.declared.state.CoreMode.TheVariants.{Idle, Open, Owes}
use Rattle.fix_core.specs.Machine.{dirty_at, dirtied, cut_to, word_at, seat_at, new_seat, written, seated, values_of, has_all, after_cut, after_tell}
use Rattle.fix_core.specs.Machine.{after_clear, take_step, look_step, cut_step, tell_step, clear_step, step, run_of, IsEvent}
use Rattle.fix_core.specs.Invariant.{IsCore}
use Rattle.fix_core.proofs.Kept.{take_kept, look_kept, tell_kept, clear_kept}
use Rattle.fix_core.proofs.Cutting.{cut_kept}

pub seat_here : (c : CoreState) (w : ℕ) → w < length c.seats → slice_get c.seats w ≡ Some (seat_at c w)
seat_here c w l = slice_get-get_or c.seats w new_seat l

module _ (s : System) (g : List Row) (is : IsSystem s) (of : IsGraphOf s g) (workers : ℕ) (few : workers ≤ 16) where
  module _ (c : CoreState) (inv : IsCore s g workers c) where
    here : (w : ℕ) → w < workers → slice_get c.seats w ≡ Some (seat_at c w)
    here w l = seat_here c w (omega (arith, inv.seats))

    take : (w : ℕ) → w < workers → (p : PosId) → p.0 < length s.masks → (m : CoreMode) → (seat_at c w).mode ≡ m → IsCore s g workers (take_step s c w p m)
    take w l p k Idle e = take_kept s g workers few c inv w (seat_at c w) (here w l) p k e
    take w l p k (Open q looked) e = inv
    take w l p k (Owes list) e = inv

    look : (w : ℕ) → w < workers → (i : ℕ) → (m : CoreMode) → (seat_at c w).mode ≡ m → IsCore s g workers (look_step s c w i m)
    look w l i Idle e = inv
    look w l i (Open p looked) e = look_kept s g workers few c inv w (seat_at c w) (here w l) p looked i e
    look w l i (Owes list) e = inv

    cut : (w : ℕ) → w < workers → (m : CoreMode) → (seat_at c w).mode ≡ m → IsCore s g workers (cut_step s g c w m)
    cut w l Idle e = inv
    cut w l (Open p looked) e = by_case (has_all looked) refl where
      by_case : (b : Bool) → has_all looked ≡ b → let new = value_at s p.0 (values_of looked) in
          IsCore s g workers (cond b (written c p.0 (cut_to new (word_at c p.0)) w (after_cut g p new (word_at c p.0) (seat_at c w))) c)
      by_case true all = cut_kept s g workers few is of c inv w (seat_at c w) (here w l) p looked e all
      by_case false all = inv
    cut w l (Owes list) e = inv

    tell : (w : ℕ) → w < workers → (d : PosId) → d.0 < length s.masks → (m : CoreMode) → (seat_at c w).mode ≡ m → IsCore s g workers (tell_step c w d m)
    tell w l d k Idle e = inv
    tell w l d k (Open p looked) e = inv
    tell w l d k (Owes list) e = by_case (has_name list d) where
      by_case : (b : Bool) → IsCore s g workers (cond b (written c d.0 (dirtied (word_at c d.0) w) w (after_tell w d list (word_at c d.0) (seat_at c w))) c)
      by_case true = tell_kept s g workers few c inv w (seat_at c w) (here w l) d list k e
      by_case false = inv

    clear : (w : ℕ) → w < workers → (p : PosId) → (m : CoreMode) → IsCore s g workers (clear_step c w p m)
    clear w l p Idle = by_case (eqb (dirty_at (word_at c p.0) w) 0) refl where
      by_case : (b : Bool) → eqb (dirty_at (word_at c p.0) w) 0 ≡ b → IsCore s g workers (cond b (seated c w (after_clear p (seat_at c w))) c)
      by_case true e = clear_kept s g workers few c inv w (seat_at c w) (here w l) p (eqb-true (dirty_at (word_at c p.0) w) 0 e)
      by_case false e = inv
    clear w l p (Open q looked) = inv
    clear w l p (Owes list) = inv

    pub event_kept : (e : CoreEvent) → IsEvent (length s.masks) workers e → IsCore s g workers (step s g c e)
    event_kept (Take w p) may = take w may.0 p may.1 (seat_at c w).mode refl
    event_kept (Look w i) may = look w may i (seat_at c w).mode refl
    event_kept (Cut w) may = cut w may (seat_at c w).mode refl
    event_kept (Tell w d) may = tell w may.0 d may.1 (seat_at c w).mode refl
    event_kept (Clear w p) may = clear w may.0 p (seat_at c w).mode

  pub events_kept : (events : List CoreEvent) → All (IsEvent (length s.masks) workers) events → (c : CoreState) → IsCore s g workers c →
      IsCore s g workers (run_of s g c events)
  events_kept [] may c inv = inv
  events_kept (e ∷ es) may c inv = events_kept es (All-tail (IsEvent (length s.masks) workers) e es may) (step s g c e)
      (event_kept c inv e (All-head (IsEvent (length s.masks) workers) e es may))
