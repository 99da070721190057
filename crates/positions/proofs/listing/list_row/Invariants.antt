use Rattle.std.proofs.Common.{◌≡◌, ◌++◌}
use Rattle.positions.specs.Order.{up_to, word_at}
use Rattle.positions.proofs.listing.list_row.Given as goal

abbrev pub invariant-loop-k : goal.invariant-loop-k
invariant-loop-k l = l.list.items ≡ l.initial.list.items ++ up_to (word_at l.row) l.k
