use Rattle.rule_terms.proofs.Greatest.{greatest_unique}
use Rattle.rule_terms.proofs.laws.the_greatest_is_one.Goals as goal

pub returns : goal.returns
returns c = greatest_unique
