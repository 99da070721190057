-- What is left when the seats are joined and the table is closed.
use Rattle.std.specs.Prelude.{◌≡◌, ℕ, ◌<◌, List, map, slice_get, Some, Contains, sum_by}
use mathlib.Core.Option.{some}
use lib.ListN.{get_elem?}
use Rattle.atomic_table.specs.Table.{State}
use Rattle.fix_core.specs.Machine.{facts_of}
use Rattle.word_rule.specs.declared.view.Key.{Key}
use Rattle.word_rule.specs.declared.view.Joined.{Joined}
use Rattle.word_rule.specs.declared.view.View.{View}
use Rattle.word_rule.specs.declared.seat.WorkerSeat.{WorkerSeat}
use Rattle.word_rule.specs.Views.{knows_all}
use Rattle.word_rule.specs.Rule.{IsRuled}
use Rattle.word_rule.specs.Belongs.{core_of}

-- the words are the facts of a state that meets the rule, in which the seat has this view
pub record Ended (k : Key) (id : ℕ) (v : View) (words : List ℕ) : Type 0 where
  pub table : State (Unit {0}) View
  pub ruled : IsRuled k table
  pub seat : get_elem? table.views id ≡ some v
  pub facts : words ≡ map facts_of ruled.core.words

-- an entry for the seat of this number, with a mark if it knew every position
pub record HasEntry (count : ℕ) (joined : List Joined) (i : ℕ) (seat : WorkerSeat) : Type 0 where
  pub entry : Joined
  pub stands : Contains joined entry
  pub number : entry.number ≡ i
  pub mark : entry.marked ≡ knows_all count (core_of seat).known

-- the first seat has what it knew, the counts of all, and an entry for each other
pub record HasTaken (count : ℕ) (seats : List WorkerSeat) (first : WorkerSeat) : Type 0 where
  pub took : (core_of first).took ≡ sum_by (λ seat. (core_of seat).took) seats
  pub known : (seat : WorkerSeat) → slice_get seats 0 ≡ Some seat → (core_of first).known ≡ (core_of seat).known
  pub entries : (i : ℕ) (seat : WorkerSeat) → 0 < i → slice_get seats i ≡ Some seat → HasEntry count first.seat.me.0.joined i seat
