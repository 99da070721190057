use Rattle.std.proofs.Common.{◌≡◌, ◌≤◌, length}
use Rattle.positions.specs.Order.{up_to, value_at}
use Rattle.positions.proofs.counting.count_values.Given as goal

abbrev pub invariant-loop-v : goal.invariant-loop-v
invariant-loop-v l = (l.count ≡ length (up_to (value_at l.m) l.v)) × (l.count ≤ l.v)
