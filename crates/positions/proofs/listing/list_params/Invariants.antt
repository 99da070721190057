use Rattle.std.proofs.Common.{◌≡◌, ◌++◌}
use Rattle.positions.specs.Order.{up_to, entry_at}
use Rattle.positions.proofs.listing.list_params.Given as goal

abbrev pub invariant-loop-at : goal.invariant-loop-at
invariant-loop-at l = l.list.items ≡ l.initial.list.items ++ up_to (entry_at l.m l.f) l.at
