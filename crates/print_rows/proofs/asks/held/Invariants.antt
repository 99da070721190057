use Rattle.std.proofs.Common.{◌≡◌, length}
use Rattle.print_rows.proofs.asks.held.Given as goal

abbrev pub invariant-loop : goal.invariant-loop
invariant-loop l = length l.held ≡ length l.ps.list
