-- What contracts say of the seats of a table.
use Rattle.std.specs.Prelude.{◌≡◌, ℕ, ◌<◌, List, length, Some, slice_get, Contains}
use Rattle.rule_terms.specs.System.{System}
use Rattle.dep_graph.specs.Row.{Row}
use Rattle.fix_core.specs.declared.state.CoreSeat.{CoreSeat}
use Rattle.fix_core.specs.declared.state.CoreMode.{CoreMode}
use Rattle.fix_core.specs.declared.state.CoreMode.TheVariants.{Open}
use Rattle.word_rule.specs.declared.seat.WorkerSeat.{WorkerSeat}
use Rattle.word_rule.specs.declared.words.LatticeWords.{LatticeWords}
use Rattle.word_rule.specs.Views.{position, opened, looked_in, stepped_to}

-- the seat as a seat of the core machine
abbrev pub core_of : WorkerSeat → CoreSeat
core_of seat = seat.seat.me.0.core

-- its number
abbrev pub number_of : WorkerSeat → ℕ
number_of seat = seat.seat.me.0.number

-- the word that its last step found
abbrev pub found_by : WorkerSeat → ℕ
found_by seat = seat.seat.me.0.found

-- the system of a table
abbrev pub system_in : LatticeWords → System
system_in words = words.system.now

-- the rows of its graph
abbrev pub graph_in : LatticeWords → List Row
graph_in words = words.graph.now

-- for how many workers it was opened
abbrev pub workers_in : LatticeWords → ℕ
workers_in words = words.table.shared.key.workers

-- a seat of this table
abbrev pub IsSeatOf : LatticeWords → WorkerSeat → Type 0
IsSeatOf words seat = (seat.seat.table_id ≡ words.table.shared.table_id) × (seat.seat.me.0.about ≡ Some words.table.shared.key)

-- the same seat, which may be in another state of the core machine
abbrev pub IsSameSeat : WorkerSeat → WorkerSeat → Type 0
IsSameSeat old new = (new.seat.table_id ≡ old.seat.table_id) × (new.seat.me.0 ≡ stepped_to old.seat.me.0 (found_by new) (core_of new))

-- a position is open
abbrev pub IsOpen : CoreMode → Type 0
IsOpen mode = mode ≡ Open (opened mode) (looked_in mode)

-- all seats of the table, by their numbers
pub record AreSeatsOf (words : LatticeWords) (seats : List WorkerSeat) : Type 0 where
  pub many : length seats ≡ workers_in words
  pub each : (i : ℕ) (seat : WorkerSeat) → slice_get seats i ≡ Some seat → IsSeatOf words seat × (number_of seat ≡ i)

-- the seat knows its own dirty bit unset in every word
abbrev pub KnowsAll : ℕ → CoreSeat → Type 0
KnowsAll count seat = (p : ℕ) → p < count → Contains seat.known (position p)
