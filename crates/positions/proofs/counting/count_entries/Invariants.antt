use Rattle.std.proofs.Common.{◌≡◌, ◌≤◌, ◌*◌, length}
use Rattle.positions.specs.Order.{up_to, entries_at}
use Rattle.positions.proofs.counting.count_entries.Given as goal

abbrev pub invariant-loop-f : goal.invariant-loop-f
invariant-loop-f l = (l.count ≡ length (up_to (entries_at l.m) l.f)) × (l.count ≤ 256 * l.f)
