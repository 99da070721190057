use Rattle.rule_terms.proofs.Local.{value_at-agrees}
use Rattle.rule_terms.proofs.laws.eval_goes_by_what_is_read.Goals as goal

pub returns : goal.returns
returns c = value_at-agrees
