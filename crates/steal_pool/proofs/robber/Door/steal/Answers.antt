use Rattle.std.proofs.Common.{rules}
use Rattle.steal_pool.proofs.Rules.{takes}
use Rattle.steal_pool.proofs.robber.Door.steal.Goals as goal

pub steal_as-requires-clause-takes : goal.steal_as-requires-clause-takes
steal_as-requires-clause-takes c = takes _ _ (search rules)
