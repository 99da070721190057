use Rattle.std.proofs.Common.{◌≡◌, ◌+◌, ℕ, suc, [], length, slice_get, Some}
use Rattle.fix_core.specs.Machine.{new_seat}
use Rattle.word_rule.specs.declared.seat.WorkerSeat.{WorkerSeat}
use Rattle.word_rule.specs.Belongs.{core_of, number_of, IsSeatOf}
use Rattle.word_rule.proofs.words.LatticeWords.all_seats.Given as goal

abbrev pub invariant-loop-number : goal.invariant-loop-number
invariant-loop-number l =
    (l.first.table_id ≡ l.self.table.shared.table_id) × (l.first.me.0.about ≡ Some l.self.table.shared.key) × (l.first.me.0.number ≡ 0) ×
    (l.first.me.0.made ≡ l.number) × (l.first.me.0.core ≡ new_seat) × (l.first.me.1 ≡ [])
    × (length l.seats.items + 1 ≡ l.number)
    × ((i : ℕ) (seat : WorkerSeat) → slice_get l.seats.items i ≡ Some seat → IsSeatOf l.self seat × (number_of seat ≡ suc i) × (core_of seat ≡ new_seat))
