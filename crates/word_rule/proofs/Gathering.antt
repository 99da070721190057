-- Seat 0 takes in all other seats, from the last.
use Rattle.std.proofs.Common.{◌≡◌, ℕ, zero, suc, ◌+◌, ◌<◌, ◌≤◌, List, [], ◌∷◌, ◌++◌, length, map, get_or, slice_get, Option, Some, All, Contains, sum_by}
use Rattle.std.proofs.Common.{add-one, refl, ap, sym, ◌∙◌, subst, arith, inl, inr}
use mathlib.Core.Option.{some}
use lib.ListN.{get_elem?}
use Rattle.std.specs.List.{remove}
use Rattle.std.proofs.lemmas.Bool.{cases_eq}
use Rattle.std.proofs.lemmas.List.Elements.{All-cons}
use Rattle.std.proofs.lemmas.List.{length-map, length_push}
use Rattle.std.proofs.lemmas.List.Sums.{sum_by_push, sum_by-cons}
use Rattle.std.proofs.lemmas.Option.{same_Some, none-some, slice_get_within, get_or_from_slice_get}
use Rattle.shelf.proofs.Shelf.{get_there, get_kept, get_behind, get_push}
use Rattle.rule_terms.specs.System.{System}
use Rattle.rule_terms.specs.Greatest.{AreWithin, IsAbove, IsGreatest}
use Rattle.dep_graph.specs.Row.{Row}
use Rattle.dep_graph.specs.Graph.{budget_of}
use Rattle.fix_core.specs.declared.state.CoreMode.TheVariants.{Idle}
use Rattle.fix_core.specs.Machine.{facts_of, new_seat}
use Rattle.fix_core.proofs.Resting.{core_within, core_above}
use Rattle.fix_core.proofs.Counting.{each_within_budget}
use Rattle.word_rule.specs.declared.view.Key.{Key}
use Rattle.word_rule.specs.declared.view.Joined.{Joined}
use Rattle.word_rule.specs.declared.view.View.{View}
use Rattle.word_rule.specs.declared.seat.WorkerSeat.{WorkerSeat}
use Rattle.word_rule.specs.declared.words.LatticeWords.{LatticeWords}
use Rattle.word_rule.specs.Views.{position, system_of, joined_as, after_joining, knows_all}
use Rattle.word_rule.specs.Rule.{IsRuled}
use Rattle.word_rule.specs.Belongs.{core_of, number_of, system_in, graph_in, workers_in, IsSeatOf, AreSeatsOf, KnowsAll}
use Rattle.word_rule.specs.Ends.{Ended, HasEntry, HasTaken}
use Rattle.word_rule.proofs.Steps.{number_is, seat_is}
use Rattle.word_rule.proofs.Joins.{AllMarked, all_known, quiet}

-- how often a seat took a dirty word up
abbrev pub took_by : WorkerSeat → ℕ
took_by seat = (core_of seat).took

-- what holds while these others are left to be taken in
pub record AreGathered (words : LatticeWords) (seats : List WorkerSeat) (first : WorkerSeat) (others : List WorkerSeat) : Type 0 where
  pub of : IsSeatOf words first
  pub number : number_of first ≡ 0
  pub idle : (core_of first).mode ≡ Idle
  pub took : took_by first + sum_by took_by others ≡ sum_by took_by seats
  pub known : (seat : WorkerSeat) → slice_get seats 0 ≡ Some seat → (core_of first).known ≡ (core_of seat).known
  pub left : (i : ℕ) (seat : WorkerSeat) → slice_get others i ≡ Some seat → slice_get seats (suc i) ≡ Some seat
  pub gone : (i : ℕ) (seat : WorkerSeat) → length others < i → slice_get seats i ≡ Some seat →
      HasEntry (length (system_in words).masks) first.seat.me.0.joined i seat

pub idle_at : (seats : List WorkerSeat) (i : ℕ) (seat : WorkerSeat) → All (λ (s : WorkerSeat). (core_of s).mode ≡ Idle) seats → slice_get seats i ≡ Some seat →
    (core_of seat).mode ≡ Idle
idle_at seats i seat all at = subst (λ (s : WorkerSeat). (core_of s).mode ≡ Idle) (get_or_from_slice_get seats i seat seat at)
    (all i seat (slice_get_within seats i seat at))

-- ---- the loop
pub gathers : (words : LatticeWords) (seats : List WorkerSeat) → AreSeatsOf words seats → All (λ (s : WorkerSeat). (core_of s).mode ≡ Idle) seats →
    (first : WorkerSeat) (rest : List WorkerSeat) → seats ≡ first ∷ rest → AreGathered words seats first rest
gathers words seats are all first rest is =
    let at : slice_get seats 0 ≡ Some first = ap (λ (ss : List WorkerSeat). slice_get ss 0) is in
    record {
      of = (are.each 0 first at).0;
      number = (are.each 0 first at).1;
      idle = idle_at seats 0 first all at;
      took = sym (ap (sum_by took_by) is ∙ sum_by-cons took_by first rest);
      known = λ seat e. ap (λ (s : WorkerSeat). (core_of s).known) (same_Some first seat (sym at ∙ e));
      left = λ i seat e. ap (λ (ss : List WorkerSeat). slice_get ss (suc i)) is ∙ e;
      gone = λ i seat l e. (let m = slice_get_within seats i seat e in let long = ap length is in absurd (omega (arith, l, m, long)));
    }

module _ (words : LatticeWords) (seats : List WorkerSeat) (are : AreSeatsOf words seats) (first : WorkerSeat) (others : List WorkerSeat) (other : WorkerSeat)
    (held : AreGathered words seats first (others ++ other ∷ [])) where
  pub next_place : slice_get seats (suc (length others)) ≡ Some other
  next_place = held.left (length others) other (get_behind others other [])

  pub next_of : IsSeatOf words other
  next_of = (are.each (suc (length others)) other next_place).0

  entry_now : HasEntry (length (system_in words).masks) (joined_as other.seat.me.0 ∷ first.seat.me.0.joined) (suc (length others)) other
  entry_now = record {
    entry = joined_as other.seat.me.0;
    stands = (0, (omega arith), refl);
    number = (are.each (suc (length others)) other next_place).1;
    mark = ap (λ (o : Option Key). knows_all (length (system_of o).masks) (core_of other).known) next_of.1 ∙
        ap (λ (s : System). knows_all (length s.masks) (core_of other).known) words.about_system;
  }

  entry_before : (i : ℕ) (seat : WorkerSeat) → HasEntry (length (system_in words).masks) first.seat.me.0.joined i seat →
      HasEntry (length (system_in words).masks) (joined_as other.seat.me.0 ∷ first.seat.me.0.joined) i seat
  entry_before i seat old = record {
    entry = old.entry;
    stands = (suc old.stands.0, (let l = old.stands.1 in omega (arith, l)), old.stands.2);
    number =
        old.number;
    mark = old.mark;
  }

  pub gathers_next : (after : WorkerSeat) → after.seat.table_id ≡ first.seat.table_id → after.seat.me.0 ≡ after_joining first.seat.me.0 other.seat.me.0 →
      AreGathered words seats after others
  gathers_next after table view =
      let long : length (others ++ other ∷ []) ≡ length others + 1 = length_push others other in
      record {
        of = (table ∙ held.of.0, ap (λ (v : View). v.about) view ∙ held.of.1);
        number = ap (λ (v : View). v.number) view ∙ held.number;
        idle = ap (λ (v : View). v.core.mode) view ∙ held.idle;
        took = (let now : took_by after ≡ took_by first + took_by other = ap (λ (v : View). v.core.took) view in
            let all = held.took in let more = sum_by_push took_by others other in omega (arith, now, all, more));
        known = λ seat e. ap (λ (v : View). v.core.known) view ∙ held.known seat e;
        left = λ i seat e. held.left i seat (get_kept others (other ∷ []) i seat e);
        gone = λ i seat l e. subst (λ (joined_away : List Joined). HasEntry (length (system_in words).masks) joined_away i seat)
            (sym (ap (λ (v : View). v.joined) view))
            (elim (cases_eq i (suc (length others))) [
              | inl here ↦
                  let same : other ≡ seat = same_Some other seat (sym next_place ∙ ap (slice_get seats) (sym here) ∙ e) in
                  subst (λ (y : ℕ × WorkerSeat). HasEntry (length (system_in words).masks) (joined_as other.seat.me.0 ∷ first.seat.me.0.joined) y.0 y.1)
                  (λ j. (sym here j, same j)) entry_now
              | inr apart ↦ entry_before i seat (held.gone i seat (omega (arith, l, long, apart)) e)
            ]);
      }

pub gathered_all : (words : LatticeWords) (seats : List WorkerSeat) (first : WorkerSeat) → AreGathered words seats first [] →
    HasTaken (length (system_in words).masks) seats first
gathered_all words seats first held = record {
  took = (let all = held.took in omega (arith, all));
  known = held.known;
  entries = λ i seat l e. held.gone i seat (omega (arith, l)) e;
}

-- ---- what is left at the end
module _ (words : LatticeWords) (seats : List WorkerSeat) (are : AreSeatsOf words seats) (first : WorkerSeat) (of : IsSeatOf words first)
    (number : number_of first ≡ 0) (idle : (core_of first).mode ≡ Idle)
    (taken : HasTaken (length (system_in words).masks) seats first) (facts : List ℕ) (ended : Ended words.table.shared.key first.seat.id first.seat.me.0 facts)
  where
    abbrev key : Key
    key = words.table.shared.key

    abbrev ruled : IsRuled key ended.table
    ruled = ended.ruled

    at_first : get_elem? ended.table.views 0 ≡ some first.seat.me.0
    at_first = subst (λ j. get_elem? ended.table.views j ≡ some first.seat.me.0)
        (sym (number_is key ended.table ruled first.seat.id first.seat.me.0 ended.seat of.1) ∙ number) ended.seat

    pub end_long : length facts ≡ length (system_in words).masks
    end_long = ap length ended.facts ∙ length-map ruled.core.words facts_of ∙ ruled.keeps.words ∙ ap (λ (s : System). length s.masks) words.about_system

    pub end_within : AreWithin facts (system_in words).masks
    end_within = subst (λ (y : List ℕ × System). AreWithin y.0 y.1.masks) (λ j. (
      sym ended.facts j,
      words.about_system j,
    )) (core_within key.system.value key.graph.value key.workers ruled.core ruled.keeps)

    pub end_above : IsAbove (system_in words) facts
    end_above = subst (λ (y : List ℕ × System). IsAbove y.1 y.0) (λ j. (
      sym ended.facts j,
      words.about_system j,
    )) (core_above key.system.value key.graph.value key.workers ruled.core ruled.keeps)

    pub end_budget : sum_by took_by seats ≤ budget_of (system_in words) (graph_in words)
    end_budget =
        let one : took_by first ≤ budget_of key.system.value key.graph.value =
        each_within_budget key.system.value key.graph.value ruled.core ruled.counts 0 (core_of first) (seat_is key ended.table ruled 0 first.seat.me.0 at_first
        of.1) in
        subst (λ (y : ℕ × System × List Row). y.0 ≤ budget_of y.1 y.2) (λ j. (taken.took j, words.about_system j, words.about_graph j)) one

    module _ (all : All (KnowsAll (length (system_in words).masks)) (map core_of seats)) where
      knows_at : (i : ℕ) (seat : WorkerSeat) → slice_get seats i ≡ Some seat → KnowsAll (length (system_in words).masks) (core_of seat)
      knows_at i seat at =
          let m = slice_get_within seats i seat at in
          let long = length-map seats core_of in
          let l : i < length (map core_of seats) = omega (arith, m, long) in
          subst (KnowsAll (length (system_in words).masks)) (get_or_from_slice_get (map core_of seats) i (core_of seat) (core_of seat)
          (mapped_at seats i seat at)) (all i (core_of seat) l) where
            mapped_at : (ss : List WorkerSeat) (i : ℕ) (seat : WorkerSeat) → slice_get ss i ≡ Some seat → slice_get (map core_of ss) i ≡ Some (core_of seat)
            mapped_at [] i seat e = absurd (none-some seat e)
            mapped_at (x ∷ xs) zero seat e = ap (λ (s : WorkerSeat). Some (core_of s)) (same_Some x seat e)
            mapped_at (x ∷ xs) (suc i) seat e = mapped_at xs i seat e

      count_is : length (system_in words).masks ≡ length key.system.value.masks
      count_is = ap (λ (s : System). length s.masks) (sym words.about_system)

      all_marked : AllMarked key.workers first.seat.me.0.joined
      all_marked i positive l =
          let there = get_there seats i (let m = are.many in omega (arith, l, m)) in
          let e = taken.entries i there.0 positive there.1 in
          (e.entry, e.stands, e.number, e.mark ∙ all_known (length (system_in words).masks) (core_of there.0).known (knows_at i there.0 there.1))

      first_knows : (p : ℕ) → p < length key.system.value.masks → Contains (core_of first).known (position p)
      first_knows p l =
          let some_seat : 0 < length seats = (let m = are.many in let w = words.workers.0 in omega (arith, m, w)) in
          let there = get_there seats 0 some_seat in
          subst (λ ps. Contains ps (position p)) (sym (taken.known there.0 there.1)) (knows_at 0 there.0 there.1 p (subst (λ n. p < n) (sym count_is) l))

      pub end_greatest : IsGreatest (system_in words) facts
      end_greatest = subst (λ (y : List ℕ × System). IsGreatest y.1 y.0) (λ j. (sym ended.facts j, words.about_system j))
          (quiet key ended.table ruled first.seat.me.0 at_first of.1 idle all_marked first_knows)

-- ---- the seats of a new table
pub first_rest : {A : Type 0} (xs : List A) (x : A) → 0 < length xs → x ≡ get_or xs 0 x → xs ≡ x ∷ remove xs 0
first_rest [] x l e = absurd (omega (arith, l))
first_rest (y ∷ ys) x l e = ap (λ z. z ∷ ys) (sym e)

pub seats_made : (words : LatticeWords) (first : WorkerSeat) (rest : List WorkerSeat) → IsSeatOf words first → number_of first ≡ 0 → core_of first ≡ new_seat →
    length rest + 1 ≡ workers_in words →
    ((i : ℕ) (seat : WorkerSeat) → slice_get rest i ≡ Some seat → IsSeatOf words seat × (number_of seat ≡ suc i) × (core_of seat ≡ new_seat)) →
    AreSeatsOf words (first ∷ rest) × All (λ (seat : WorkerSeat). core_of seat ≡ new_seat) (first ∷ rest)
seats_made words first rest of number fresh long each = (
  record { many = omega (arith, long); each = at },
  All-cons (λ (seat : WorkerSeat). core_of seat ≡ new_seat) first rest fresh
      (λ i d l. let there = get_there rest i l in let e = get_or_from_slice_get rest i there.0 d there.1 in ap core_of e ∙ (each i there.0 there.1).2),
) where
  at : (i : ℕ) (seat : WorkerSeat) → slice_get (first ∷ rest) i ≡ Some seat → IsSeatOf words seat × (number_of seat ≡ i)
  at zero seat e = subst (λ (s : WorkerSeat). IsSeatOf words s × (number_of s ≡ 0)) (same_Some first seat e) (of, number)
  at (suc i) seat e = (let one = each i seat e in (one.0, one.1))

pub seats_pushed : (words : LatticeWords) (rest : List WorkerSeat) (next : WorkerSeat) → IsSeatOf words next → number_of next ≡ length rest + 1 →
    core_of next ≡ new_seat →
    ((i : ℕ) (seat : WorkerSeat) → slice_get rest i ≡ Some seat → IsSeatOf words seat × (number_of seat ≡ suc i) × (core_of seat ≡ new_seat)) →
    (i : ℕ) (seat : WorkerSeat) → slice_get (rest ++ next ∷ []) i ≡ Some seat → IsSeatOf words seat × (number_of seat ≡ suc i) × (core_of seat ≡ new_seat)
seats_pushed words rest next of number fresh each i seat e = elim (get_push rest next seat i e) [
  | inl old ↦ each i seat old
  | inr new ↦ subst (λ (y : ℕ × WorkerSeat). IsSeatOf words y.1 × (number_of y.1 ≡ suc y.0) × (core_of y.1 ≡ new_seat)) (λ j. (sym new.0 j, new.1 j)) (
    of,
    number ∙ add-one (length rest),
    fresh,
  )
]
