use Rattle.std.proofs.Common.{rules}
use Rattle.steal_pool.proofs.Rules.{takes}
use Rattle.steal_pool.proofs.pool.OwnPool.draw.Goals as goal

pub pop_as-requires-clause-fifo : goal.pop_as-requires-clause-fifo
pop_as-requires-clause-fifo c = λ _. takes _ _ (search rules)
