use Rattle.std.proofs.Common.{◌≡◌, ◌+◌, ◌++◌, length, map}
use Rattle.workers.proofs.team.team_of.Given as goal

abbrev pub invariant-loop-number : goal.invariant-loop-number
invariant-loop-number l = (map (λ worker. worker.seat) l.team.items ++ l.seats.items ≡ l.fn.seats) ×
    (map (λ worker. worker.own) l.team.items ++ l.pools.items ≡ l.fn.pools) × (map (λ worker. worker.robber) l.team.items ++ l.robbers.items ≡ l.fn.robbers) ×
    (length l.seats.items + l.number ≡ length l.fn.seats) × (length l.pools.items ≡ length l.seats.items) × (length l.robbers.items ≡ length l.seats.items)
