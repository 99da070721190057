-- Every event keeps the two counts.
use Rattle.std.proofs.Common.{◌≡◌, ℕ, zero, suc, ◌+◌, ◌-◌, ◌*◌, ◌/◌, ◌%◌, ◌^◌, ◌<◌, ◌≤◌, Bool, true, false, cond, eqb, eq-eqb, List, [], ◌∷◌, length, replicate}
use Rattle.std.proofs.Common.{slice_index, slice_index_or, slice_get, set, count_ones, Option, Some, All, Contains, refl, ap, sym, subst, arith, inl, inr, zip}
use Rattle.std.proofs.Common.{mul-le-mul, le_refl}
use Rattle.std.specs.Int.{bit_at}
use Rattle.std.specs.List.{sum_by}
use Rattle.std.proofs.lemmas.Bool.{cases_lt}
use Rattle.std.proofs.lemmas.List.Elements.{All-head, All-tail, All-get_or}
use Rattle.std.proofs.lemmas.List.Sums.{sum_by-set, sum_by-cons, get_or-le-sum_by}
use Rattle.std.proofs.lemmas.Nat.Bits.{bit_at_and, bit_at_above}
use Rattle.std.proofs.lemmas.Option.{get_or_from_slice_get, slice_get_within}
use Rattle.attr_ids.specs.declared.ids.PosId.{PosId}
use Rattle.lattice_words.specs.declared.word.TheConstants.{DIRTY, FACT_BITS}
use Rattle.rule_terms.specs.Names.{has_name}
use Rattle.rule_terms.specs.Slots.{input_at}
use Rattle.rule_terms.specs.System.{System, IsSystem, inputs_of, value_at}
use Rattle.dep_graph.specs.Row.{Row}
use Rattle.dep_graph.specs.Graph.{row_at, retaken, budget_of, IsGraphOf}
use Rattle.fix_core.specs.declared.event.CoreEvent.{CoreEvent}
use Rattle.fix_core.specs.declared.event.CoreEvent.TheVariants.{Take, Look, Cut, Tell, Clear}
use Rattle.fix_core.specs.declared.state.CoreState.{CoreState}
use Rattle.fix_core.specs.declared.state.CoreSeat.{CoreSeat}
use Rattle.fix_core.specs.declared.state.CoreMode.{CoreMode}
use Rattle.fix_core.specs.declared.state.CoreMode.TheVariants.{Idle, Open, Owes}
use Rattle.fix_core.specs.Machine.{facts_of, facts_at, dirty_at, is_clean, cleaned, dirtied, cut_to, lost_by, owed_by, without, word_at, seat_at, new_seat}
use Rattle.fix_core.specs.Machine.{written, seated, values_of, has_all, after_take, after_look, after_cut, after_tell, after_clear, take_step, look_step}
use Rattle.fix_core.specs.Machine.{cut_step, tell_step, clear_step, step, run_of, IsEvent, opening_words, opening}
use Rattle.fix_core.specs.Invariant.{EachSeat, AreLooked, IsMode, IsCore}
use Rattle.fix_core.specs.Counts.{dirty_count, owed_count, paid_for, paid, AreCounted}
use Rattle.fix_core.proofs.Words.{cleaned_facts, dirtied_facts}
use Rattle.fix_core.proofs.Ones.{ones_zero}
use Rattle.fix_core.proofs.Owing.{named_contains}
use Rattle.fix_core.proofs.Paying.{cleaned_count, take_pays, tell_pays, cut_count, cut_pays, owing_count, without_fewer, sum_seats, paid_set}
use Rattle.fix_core.proofs.Steps.{seat_here, event_kept}

abbrev pub took_of : CoreSeat → ℕ
took_of seat = seat.took

abbrev pub told_of : CoreSeat → ℕ
told_of seat = seat.told

abbrev pub owed_of : CoreSeat → ℕ
owed_of seat = owed_count seat.mode

-- a step that changes one word and one seat keeps both counts, where what it adds is paid for
adds : (took took' dirty dirty' told told' owed owed' paid' paid'' count : ℕ) → (a a' d d' t t' o o' x x' : ℕ) →
    took' + a ≡ took + a' → dirty' + d ≡ dirty + d' → told' + t ≡ told + t' → owed' + o ≡ owed + o' → paid'' + x ≡ paid' + x' →
    a' + d' + t ≤ a + d + t' → t' + o' + x ≤ t + o + x' →
    took + dirty ≤ count + told → told + owed ≤ paid' → (took' + dirty' ≤ count + told') × (told' + owed' ≤ paid'')
adds took took' dirty dirty' told told' owed owed' paid' paid'' count a a' d d' t t' o o' x x' e1 e2 e3 e4 e5 h k takes tells = (omega arith, omega arith)

module _ (s : System) (g : List Row) (of : IsGraphOf s g) (workers : ℕ) (c : CoreState) (inv : IsCore s g workers c) (counted : AreCounted s g c) (w : ℕ)
    (seat : CoreSeat) (at : slice_get c.seats w ≡ Some seat) where
  -- a word and a seat were written
  write_counted : (p n : ℕ) (v : CoreSeat) → p < length s.masks →
      v.took + dirty_count n + seat.told ≤ seat.took + dirty_count (slice_index c.words p) + v.told →
      v.told + owed_of v + paid_for (slice_index s.masks p) (slice_index c.words p) (row_at g p) ≤ seat.told + owed_of seat + paid_for (slice_index s.masks p) n
      (row_at g p) →
      AreCounted s g (written c p n w v)
  write_counted p n v l takes tells =
      let inside : p < length c.words = omega (arith, inv.words) in
      let both = adds (sum_by took_of c.seats) (sum_by took_of (set c.seats w v)) (sum_by dirty_count c.words) (sum_by dirty_count (set c.words p n))
      (sum_by told_of c.seats) (sum_by told_of (set c.seats w v)) (sum_by owed_of c.seats) (sum_by owed_of (set c.seats w v)) (paid s.masks c.words g)
      (paid s.masks (set c.words p n) g) (length s.masks)
      seat.took v.took (dirty_count (slice_index c.words p)) (dirty_count n) seat.told v.told (owed_of seat) (owed_of v)
      (paid_for (slice_index s.masks p) (slice_index c.words p) (row_at g p)) (paid_for (slice_index s.masks p) n (row_at g p))
      (sum_seats took_of c.seats w seat v at) (sum_by-set dirty_count c.words p n 0 inside) (sum_seats told_of c.seats w seat v at)
      (sum_seats owed_of c.seats w seat v at)
      (paid_set s.masks c.words g p n l inside (omega (arith, of.long))) takes tells counted.takes counted.tells in
      record { takes = both.0; tells = both.1 }

  -- a seat alone was written
  seat_counted : (v : CoreSeat) → v.took ≡ seat.took → v.told ≡ seat.told → owed_of v ≡ owed_of seat → AreCounted s g (seated c w v)
  seat_counted v took told owed = record {
    takes = omega (arith, sum_seats took_of c.seats w seat v at, sum_seats told_of c.seats w seat v at, took, told, counted.takes);
    tells = omega (arith, sum_seats told_of c.seats w seat v at, sum_seats owed_of c.seats w seat v at, told, owed, counted.tells);
  }

  same_paid : (p n : ℕ) → facts_of n ≡ facts_of (slice_index c.words p) →
      paid_for (slice_index s.masks p) (slice_index c.words p) (row_at g p) ≡ paid_for (slice_index s.masks p) n (row_at g p)
  same_paid p n e = ap (λ m. (count_ones (slice_index s.masks p) - count_ones m) * length (row_at g p).dependents) (sym e)

  take_owes : (p : PosId) (b : Bool) → is_clean (slice_index c.words p.0) ≡ b → owed_of (after_take s p (slice_index c.words p.0) seat) ≡ 0
  take_owes p true e = rw e refl
  take_owes p false e = rw e refl

  take_took : (p : PosId) (b : Bool) → is_clean (slice_index c.words p.0) ≡ b →
      (after_take s p (slice_index c.words p.0) seat).took ≤ seat.took + dirty_count (slice_index c.words p.0)
  take_took p b e = rw e (take_pays (slice_index c.words p.0) seat.took b e)

  pub take_counted : (p : PosId) → p.0 < length s.masks → seat.mode ≡ Idle →
      AreCounted s g (written c p.0 (cleaned (slice_index c.words p.0)) w (after_take s p (slice_index c.words p.0) seat))
  take_counted p l idle =
      let word : ℕ = slice_index c.words p.0 in
      let v : CoreSeat = after_take s p word seat in
      write_counted p.0 (cleaned word) v l
      (omega (arith, take_took p (is_clean word) refl, cleaned_count word))
      (omega (arith, take_owes p (is_clean word) refl, same_paid p.0 (cleaned word) (cleaned_facts word)))

  pub look_counted : (p : PosId) (looked : List (Option ℕ)) (i : ℕ) → seat.mode ≡ Open p looked →
      AreCounted s g (seated c w (after_look p looked i (slice_index c.words (input_at (inputs_of s p.0) i).0) seat))
  look_counted p looked i mode = seat_counted (after_look p looked i (slice_index c.words (input_at (inputs_of s p.0) i).0) seat) refl refl
      (sym (ap owed_count mode))

  pub cut_counted : (p : PosId) (looked : List (Option ℕ)) (new : ℕ) → seat.mode ≡ Open p looked →
      AreCounted s g (written c p.0 (cut_to new (slice_index c.words p.0)) w (after_cut g p new (slice_index c.words p.0) seat))
  cut_counted p looked new mode =
      let word : ℕ = slice_index c.words p.0 in
      let old : AreLooked s p.0 looked = subst (IsMode s g) mode (inv.modes w seat at) in
      let fits : word < 2 ^ 64 = All-get_or (λ (m : ℕ). m < 2 ^ 64) c.words p.0 0 (omega (arith, inv.words, old.place)) inv.fits in
      write_counted p.0 (cut_to new word) (after_cut g p new word seat) old.place
      (omega (arith, cut_count new word fits))
      (omega (
        arith,
        owing_count (owed_by g p.0 (lost_by new word)),
        ap owed_count mode,
        cut_pays (slice_index s.masks p.0) new word (row_at g p.0) (mask_holds p.0),
      )) where
        mask_holds : (q : ℕ) (i : ℕ) → bit_at (facts_at c.words q) i ≤ bit_at (slice_index s.masks q) i
        mask_holds q i = elim (cases_lt i 64) [
          | inl low ↦ inv.within q i low
          | inr past ↦ omega (
            arith,
            bit_at_and (slice_index c.words q) (2 ^ FACT_BITS - 1) i,
            bit_at_above (2 ^ FACT_BITS - 1) FACT_BITS i (omega arith) (omega arith),
          )
        ]

  pub tell_counted : (d : PosId) (list : List PosId) → d.0 < length s.masks → seat.mode ≡ Owes list → Contains list d →
      AreCounted s g (written c d.0 (dirtied (slice_index c.words d.0) w) w (after_tell w d list (slice_index c.words d.0) seat))
  tell_counted d list l mode has =
      let word : ℕ = slice_index c.words d.0 in
      write_counted d.0 (dirtied word w) (after_tell w d list word seat) l
      (omega (arith, told_paid refl))
      (omega (
        arith,
        told_few (eqb (dirty_at word w) 0),
        owing_count (without d list),
        ap owed_count mode,
        without_fewer d list has,
        same_paid d.0 (dirtied word w) (dirtied_facts word w),
      )) where
        told_paid : eqb (dirty_at (slice_index c.words d.0) w) 0 ≡ eqb (dirty_at (slice_index c.words d.0) w) 0 →
            dirty_count (dirtied (slice_index c.words d.0) w) + seat.told ≡ dirty_count (slice_index c.words d.0) +
            (after_tell w d list (slice_index c.words d.0) seat).told
        told_paid e = tell_pays (slice_index c.words d.0) w seat.told (eqb (dirty_at (slice_index c.words d.0) w) 0) e

        told_few : (b : Bool) → cond b (seat.told + 1) seat.told ≤ seat.told + 1
        told_few true = omega arith
        told_few false = omega arith

  pub clear_counted : (p : PosId) → AreCounted s g (seated c w (after_clear p seat))
  clear_counted p = seat_counted (after_clear p seat) refl refl refl

-- ---- events
module _ (s : System) (g : List Row) (is : IsSystem s) (of : IsGraphOf s g) (workers : ℕ) (few : workers ≤ 16) where
  module _ (c : CoreState) (inv : IsCore s g workers c) (counted : AreCounted s g c) where
    here : (w : ℕ) → w < workers → slice_get c.seats w ≡ Some (seat_at c w)
    here w l = seat_here c w (omega (arith, inv.seats))

    take : (w : ℕ) → w < workers → (p : PosId) → p.0 < length s.masks → (m : CoreMode) → (seat_at c w).mode ≡ m → AreCounted s g (take_step s c w p m)
    take w l p k Idle e = take_counted s g of workers c inv counted w (seat_at c w) (here w l) p k e
    take w l p k (Open q looked) e = counted
    take w l p k (Owes list) e = counted

    look : (w : ℕ) → w < workers → (i : ℕ) → (m : CoreMode) → (seat_at c w).mode ≡ m → AreCounted s g (look_step s c w i m)
    look w l i Idle e = counted
    look w l i (Open p looked) e = look_counted s g of workers c inv counted w (seat_at c w) (here w l) p looked i e
    look w l i (Owes list) e = counted

    cut : (w : ℕ) → w < workers → (m : CoreMode) → (seat_at c w).mode ≡ m → AreCounted s g (cut_step s g c w m)
    cut w l Idle e = counted
    cut w l (Open p looked) e = by_case (has_all looked) where
      by_case : (b : Bool) → let new = value_at s p.0 (values_of looked) in
          AreCounted s g (cond b (written c p.0 (cut_to new (word_at c p.0)) w (after_cut g p new (word_at c p.0) (seat_at c w))) c)
      by_case true = cut_counted s g of workers c inv counted w (seat_at c w) (here w l) p looked (value_at s p.0 (values_of looked)) e
      by_case false = counted
    cut w l (Owes list) e = counted

    tell : (w : ℕ) → w < workers → (d : PosId) → d.0 < length s.masks → (m : CoreMode) → (seat_at c w).mode ≡ m → AreCounted s g (tell_step c w d m)
    tell w l d k Idle e = counted
    tell w l d k (Open p looked) e = counted
    tell w l d k (Owes list) e = by_case (has_name list d) refl where
      by_case : (b : Bool) → has_name list d ≡ b →
          AreCounted s g (cond b (written c d.0 (dirtied (word_at c d.0) w) w (after_tell w d list (word_at c d.0) (seat_at c w))) c)
      by_case true has = tell_counted s g of workers c inv counted w (seat_at c w) (here w l) d list k e (named_contains list d has)
      by_case false has = counted

    clear : (w : ℕ) → w < workers → (p : PosId) → (m : CoreMode) → AreCounted s g (clear_step c w p m)
    clear w l p Idle = by_case (eqb (dirty_at (word_at c p.0) w) 0) where
      by_case : (b : Bool) → AreCounted s g (cond b (seated c w (after_clear p (seat_at c w))) c)
      by_case true = clear_counted s g of workers c inv counted w (seat_at c w) (here w l) p
      by_case false = counted
    clear w l p (Open q looked) = counted
    clear w l p (Owes list) = counted

    pub event_counted : (e : CoreEvent) → IsEvent (length s.masks) workers e → AreCounted s g (step s g c e)
    event_counted (Take w p) may = take w may.0 p may.1 (seat_at c w).mode refl
    event_counted (Look w i) may = look w may i (seat_at c w).mode refl
    event_counted (Cut w) may = cut w may (seat_at c w).mode refl
    event_counted (Tell w d) may = tell w may.0 d may.1 (seat_at c w).mode refl
    event_counted (Clear w p) may = clear w may.0 p (seat_at c w).mode

  pub events_counted : (events : List CoreEvent) → All (IsEvent (length s.masks) workers) events → (c : CoreState) → IsCore s g workers c → AreCounted s g c →
      AreCounted s g (run_of s g c events)
  events_counted [] may c inv counted = counted
  events_counted (e ∷ es) may c inv counted =
      let now = All-head (IsEvent (length s.masks) workers) e es may in
      events_counted es (All-tail (IsEvent (length s.masks) workers) e es may) (step s g c e) (event_kept s g is of workers few c inv e now)
      (event_counted c inv counted e now)

-- ---- the opening
none_of : (f : CoreSeat → ℕ) (n : ℕ) → f new_seat ≡ 0 → sum_by f (replicate n new_seat) ≡ 0
none_of f zero e = refl
none_of f (suc n) e = omega (arith, sum_by-cons f new_seat (replicate n new_seat), e, none_of f n e)

-- each word is dirty for one seat
opening_dirty : (workers k : ℕ) (masks : List ℕ) → All (λ mask. mask < 2 ^ FACT_BITS) masks → sum_by dirty_count (opening_words workers k masks) ≤ length masks
opening_dirty workers k [] facts = omega arith
opening_dirty workers k (mask ∷ masks) facts =
    let small : mask < 2 ^ FACT_BITS = All-head (λ (m : ℕ). m < 2 ^ FACT_BITS) mask masks facts in
    let clean : mask / 2 ^ DIRTY ≡ 0 = omega arith in
    let unset : dirty_at mask (k % workers) ≡ 0 = bit_at_above mask FACT_BITS (DIRTY + k % workers) small (omega arith) in
    omega (
      arith,
      sum_by-cons dirty_count (dirtied mask (k % workers)) (opening_words workers (suc k) masks),
      tell_pays mask (k % workers) 0 true (eq-eqb (dirty_at mask (k % workers)) 0 unset),
      ap count_ones clean,
      ones_zero,
      opening_dirty workers (suc k) masks (All-tail (λ (m : ℕ). m < 2 ^ FACT_BITS) mask masks facts),
    )

pub opening_counted : (s : System) (g : List Row) (workers : ℕ) → IsSystem s → AreCounted s g (opening s workers)
opening_counted s g workers is = record {
  takes = omega (arith, none_of took_of workers refl, none_of told_of workers refl, opening_dirty workers 0 s.masks is.facts);
  tells = omega (arith, none_of told_of workers refl, none_of owed_of workers refl);
}

-- ---- the budget
paid_within : (masks words : List ℕ) (g : List Row) → paid masks words g ≤ sum_by (λ p. retaken p.0 p.1) (zip masks g)
paid_within [] words g = omega arith
paid_within (mask ∷ masks) [] g = omega arith
paid_within (mask ∷ masks) (word ∷ words) [] = omega arith
paid_within (mask ∷ masks) (word ∷ words) (row ∷ g) =
    let first : paid_for mask word row ≤ retaken mask row = (let few : count_ones mask - count_ones (facts_of word) ≤ count_ones mask = omega arith in
    mul-le-mul few (le_refl (length row.dependents))) in
    omega (arith, first, sum_by-cons (λ (p : ℕ × Row). retaken p.0 p.1) (mask, row) (zip masks g), paid_within masks words g)

module _ (s : System) (g : List Row) (c : CoreState) (counted : AreCounted s g c) where
  pub all_within_budget : sum_by took_of c.seats ≤ budget_of s g
  all_within_budget = omega (arith, counted.takes, counted.tells, paid_within s.masks c.words g)

  pub each_within_budget : EachSeat (λ w seat. seat.took ≤ budget_of s g) c.seats
  each_within_budget w seat at =
      let is : slice_index_or c.seats w seat ≡ seat = get_or_from_slice_get c.seats w seat seat at in
      omega (arith, get_or-le-sum_by took_of c.seats w seat (slice_get_within c.seats w seat at), ap took_of is, all_within_budget)
