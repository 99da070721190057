use Rattle.rule_terms.proofs.Naming.{value_in-value_at}
use Rattle.rule_terms.proofs.laws.eval_goes_by_the_inputs.Goals as goal

pub returns : goal.returns
returns c = value_in-value_at
