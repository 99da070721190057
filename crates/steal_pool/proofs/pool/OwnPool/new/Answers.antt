use Rattle.std.proofs.Common.{rules}
use Rattle.steal_pool.proofs.Rules.{bounds, frees}
use Rattle.steal_pool.proofs.pool.OwnPool.new.Goals as goal

pub push_as-requires-clause-pushes : goal.push_as-requires-clause-pushes
push_as-requires-clause-pushes c = bounds _ _ _ (search rules)

pub pop_as-requires-clause-fifo : goal.pop_as-requires-clause-fifo
pop_as-requires-clause-fifo c = λ _. frees _ _ (search rules)
