use Rattle.rule_terms.proofs.Greatest.{cut_above}
use Rattle.rule_terms.proofs.laws.a_cut_stays_above.Goals as goal

pub returns : goal.returns
returns c = cut_above
