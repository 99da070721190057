use Rattle.std.proofs.Common.{◌≡◌, ◌+◌, ◌++◌, length, map}
use Rattle.workers.proofs.team.parts_of.Given as goal

abbrev pub invariant-loop : goal.invariant-loop
invariant-loop l = (l.seats.items ++ map (λ worker. worker.seat) l.team.items ≡ map (λ worker. worker.seat) l.fn.team.items) ×
    (l.ends.items ++ map (λ worker. worker.end) l.team.items ≡ map (λ worker. worker.end) l.fn.team.items) ×
    (length l.team.items + l.counter ≡ length l.fn.team.items)
