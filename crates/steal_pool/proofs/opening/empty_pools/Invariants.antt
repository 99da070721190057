use Rattle.std.proofs.Common.{◌≡◌, ◌≤◌, length, All}
use Rattle.steal_pool.specs.Pools.{IsFreshPool}
use Rattle.steal_pool.proofs.opening.empty_pools.Given as goal

abbrev pub invariant-loop : goal.invariant-loop
invariant-loop l = (length l.pools.items ≡ l.counter) × (l.counter ≤ l.workers) × All (IsFreshPool l.count) l.pools.items
