-- Joining an idle seat into another keeps the core invariant and the two counts.
use Rattle.std.proofs.Common.{◌≡◌, ◌≢◌, ℕ, ◌+◌, ◌<◌, ◌≤◌, List, length, set, slice_get, Some, Contains, refl, ap, sym, subst, arith, inl, inr, ◌∙◌}
use Rattle.attr_ids.specs.declared.ids.PosId.{PosId}
use Rattle.shelf.proofs.Shelf.{get_set_other}
use Rattle.rule_terms.specs.System.{System}
use Rattle.dep_graph.specs.Row.{Row}
use Rattle.dep_graph.specs.Graph.{IsGraphOf}
use Rattle.fix_core.specs.declared.state.CoreState.{CoreState}
use Rattle.fix_core.specs.declared.state.CoreSeat.{CoreSeat}
use Rattle.fix_core.specs.declared.state.CoreMode.TheVariants.{Idle}
use Rattle.fix_core.specs.Machine.{facts_at, new_seat, seated, joined}
use Rattle.fix_core.specs.Invariant.{OwesIt, IsUpToDate, AreOwed, IsMode, IsCore}
use Rattle.fix_core.specs.Counts.{owed_count, AreCounted}
use Rattle.fix_core.proofs.Written.{entry_here}
use Rattle.fix_core.proofs.Kept.{seat_kept, cover_kept}
use Rattle.fix_core.proofs.Paying.{sum_seats}
use Rattle.fix_core.proofs.Counting.{took_of, told_of, owed_of}

-- a seat that keeps its mode and knows nothing new
pub recount_kept : (s : System) (g : List Row) (workers : ℕ) → workers ≤ 16 → (c : CoreState) → IsCore s g workers c → (w : ℕ) (seat : CoreSeat) →
    slice_get c.seats w ≡ Some seat →
    (v : CoreSeat) → v.mode ≡ seat.mode → ((p : PosId) → Contains v.known p → Contains seat.known p) → IsCore s g workers (seated c w v)
recount_kept s g workers few c inv w seat at v mode less =
    seat_kept s g workers few c inv w seat at v (subst (IsMode s g) (sym mode) (inv.modes w seat at)) (λ p has. inv.known w seat at p (less p has))
    (λ q. cover_kept s g workers few c inv w seat at c.words v q refl
    (λ dirty. inl dirty)
    (λ owes. inr (inl (w, v, entry_here c.seats w seat v at, subst (OwesIt q) (sym mode) owes)))
    (λ fresh. inr (inr (inr (w, v, entry_here c.seats w seat v at, subst (IsUpToDate s (facts_at c.words) q) (sym mode) fresh)))))

module _ (s : System) (g : List Row) (workers : ℕ) (few : workers ≤ 16) (c : CoreState) (u : ℕ) (first : CoreSeat) (w : ℕ) (other : CoreSeat) (apart : u ≢ w)
    (here : slice_get c.seats u ≡ Some first) (there : slice_get c.seats w ≡ Some other) (idle : other.mode ≡ Idle) where
  abbrev after : CoreSeat
  after = record { mode = first.mode; known = first.known; took = first.took + other.took; told = first.told + other.told }

  still : slice_get (set c.seats w new_seat) u ≡ Some first
  still = get_set_other c.seats w u new_seat apart ∙ here

  pub join_kept : IsCore s g workers c → IsCore s g workers (joined c u first w other)
  join_kept inv =
      recount_kept s g workers few (seated c w new_seat) (recount_kept s g workers few c inv w other there new_seat (sym idle) (λ p has. absurd (omega (
        arith,
        has.1,
      )))) u first still after refl (λ p has. has)

  pub join_counted : AreCounted s g c → AreCounted s g (joined c u first w other)
  join_counted counted = record {
    takes = omega (
      arith,
      counted.takes,
      sum_seats took_of c.seats w other new_seat there,
      sum_seats took_of (set c.seats w new_seat) u first after still,
      sum_seats told_of c.seats w other new_seat there,
      sum_seats told_of (set c.seats w new_seat) u first after still,
    );
    tells = omega (
      arith,
      counted.tells,
      sum_seats told_of c.seats w other new_seat there,
      sum_seats told_of (set c.seats w new_seat) u first after still,
      sum_seats owed_of c.seats w other new_seat there,
      sum_seats owed_of (set c.seats w new_seat) u first after still,
      ap owed_count idle,
    );
  }

pub owed_inside : (s : System) (g : List Row) → IsGraphOf s g → (list : List PosId) → AreOwed s g list → (d : PosId) → Contains list d → d.0 < length s.masks
owed_inside s g of list owed d has =
    let p : PosId = record { 0 = owed.of } in
    (((of.rows p owed.place).dependents d).0 (owed.dependents d has)).0
