use Rattle.std.proofs.Common.{◌≡◌, ◌++◌}
use Rattle.positions.specs.Order.{up_to, word_at}
use Rattle.positions.proofs.listing.list_rows.Given as goal

abbrev pub invariant-loop-row : goal.invariant-loop-row
invariant-loop-row l = l.list.items ≡ l.initial.list.items ++ up_to (λ row. up_to (word_at row) l.words) l.row
