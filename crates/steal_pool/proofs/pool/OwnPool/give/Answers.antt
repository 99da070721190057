use Rattle.std.proofs.Common.{rules}
use Rattle.steal_pool.proofs.Rules.{gives, kept}
use Rattle.steal_pool.proofs.pool.OwnPool.give.Goals as goal

pub push_as-requires-clause-pushes : goal.push_as-requires-clause-pushes
push_as-requires-clause-pushes c = gives _ _ _ (search rules) (search rules)

pub returns-clause-kept : goal.returns-clause-kept
returns-clause-kept c = λ few. (kept c.push_as.result _ _ _ _ _ c.push_as.ensures.rule c.push_as.ensures.refused (search rules) (search rules) few).0
