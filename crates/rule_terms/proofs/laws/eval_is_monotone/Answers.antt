use Rattle.rule_terms.proofs.Monotone.{value_in-within}
use Rattle.rule_terms.proofs.laws.eval_is_monotone.Goals as goal

pub returns : goal.returns
returns c = value_in-within
