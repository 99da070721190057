use Rattle.std.proofs.Common.{◌≡◌, ◌++◌, length}
use Rattle.positions.specs.Order.{up_to, value_at}
use Rattle.positions.specs.Numbering.{starts}
use Rattle.positions.proofs.listing.list_values.Given as goal

abbrev pub invariant-loop-v : goal.invariant-loop-v
invariant-loop-v l = (l.list.items ≡ l.initial.list.items ++ up_to (value_at l.m) l.v) ×
    (l.table.items ≡ starts (length l.initial.list.items) (value_at l.m) l.v)
