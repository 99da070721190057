use Rattle.std.proofs.Common.{rules}
use Rattle.steal_pool.proofs.Rules.{shares}
use Rattle.steal_pool.proofs.pool.OwnPool.door.Goals as goal

pub another-pass-requires : goal.another-pass-requires
another-pass-requires c = shares _ _ (search rules)
