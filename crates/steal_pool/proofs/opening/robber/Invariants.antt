use Rattle.std.proofs.Common.{◌≡◌, ◌≤◌, length, map, take, All}
use Rattle.steal_pool.specs.Hints.{fresh}
use Rattle.steal_pool.specs.Pools.{own_deque, door_log, door_deque, IsFreshPool}
use Rattle.steal_pool.proofs.opening.robber.Given as goal

abbrev pub invariant-loop-next : goal.invariant-loop-next
invariant-loop-next l = (l.next ≤ l.next-end) × (l.next-end ≡ length l.pools.items) × (map own_deque l.pools.items ≡ map own_deque l.fn.pools.items) ×
    All (IsFreshPool l.count) l.pools.items × (map door_deque l.doors.items ≡ take l.next (map own_deque l.fn.pools.items)) ×
    All (λ v. v ≡ fresh l.count) (map door_log l.doors.items)
