use Rattle.std.proofs.Common.{◌≡◌, ◌≤◌, length, map, All}
use Rattle.steal_pool.specs.Pools.{own_deque, IsFreshPool, RobsAll}
use Rattle.steal_pool.proofs.opening.robbers_of.Given as goal

abbrev pub invariant-loop : goal.invariant-loop
invariant-loop l = (length l.robbers.items ≡ l.counter) × (l.counter ≤ l.workers) × (map own_deque l.pools.items ≡ map own_deque l.fn.pools.items) ×
    All (IsFreshPool l.count) l.pools.items × All (RobsAll (map own_deque l.fn.pools.items) l.count) l.robbers.items
