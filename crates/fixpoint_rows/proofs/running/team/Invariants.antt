use Rattle.std.proofs.Common.{◌≡◌, ◌+◌, length, All}
use Rattle.word_rule.specs.Belongs.{workers_in}
use Rattle.workers.specs.Workers.{count_in, IsReady, IsPoolOf, IsWorkerOf}
use Rattle.steal_pool.specs.Pools.{IsRobberOf}
use Rattle.fixpoint_rows.proofs.running.team.Given as goal

abbrev pub invariant-loop-number : goal.invariant-loop-number
invariant-loop-number l = (length l.seats.items + l.number ≡ length l.fn.seats) × (length l.made.items ≡ l.number) × All (IsReady l.words) l.seats.items ×
    (length l.pools.items ≡ length l.seats.items) × All (IsPoolOf (count_in l.words)) l.pools.items ×
    (length l.robbers.items ≡ length l.seats.items) × All (IsRobberOf (workers_in l.words) (count_in l.words)) l.robbers.items ×
    All (IsWorkerOf l.words) l.made.items
