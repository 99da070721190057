use Rattle.std.proofs.Common.{subst}
use Rattle.rule_terms.specs.System.{IsSystem}
use Rattle.rule_terms.proofs.Keeping.{kept_system}
use Rattle.rule_terms.proofs.system.System.count.Goals as goal

pub returns-clause-system : goal.returns-clause-system
returns-clause-system c = subst IsSystem c.self.view_is (kept_system c.self.inside c.self.invariant)
