use Rattle.std.proofs.Common.{◌≡◌, ◌≤◌, length}
use Rattle.positions.specs.Order.{up_to, entry_at}
use Rattle.positions.proofs.counting.count_params.Given as goal

abbrev pub invariant-loop-at : goal.invariant-loop-at
invariant-loop-at l = (l.count ≡ length (up_to (entry_at l.m l.f) l.at)) × (l.count ≤ l.at)
