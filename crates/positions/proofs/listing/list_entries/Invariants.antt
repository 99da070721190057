use Rattle.std.proofs.Common.{◌≡◌, ◌++◌, length}
use Rattle.positions.specs.Order.{up_to, entries_at}
use Rattle.positions.specs.Numbering.{starts}
use Rattle.positions.proofs.listing.list_entries.Given as goal

abbrev pub invariant-loop-f : goal.invariant-loop-f
invariant-loop-f l = (l.list.items ≡ l.initial.list.items ++ up_to (entries_at l.m) l.f) ×
    (l.table.items ≡ starts (length l.initial.list.items) (entries_at l.m) l.f)
