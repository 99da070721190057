use Rattle.std.proofs.Common.{◌≡◌, ◌++◌}
use Rattle.positions.specs.Order.{up_to, return_at}
use Rattle.positions.proofs.listing.list_returns.Given as goal

abbrev pub invariant-loop-f : goal.invariant-loop-f
invariant-loop-f l = l.list.items ≡ l.initial.list.items ++ up_to (return_at l.m) l.f
