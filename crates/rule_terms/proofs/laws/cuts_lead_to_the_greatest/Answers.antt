use Rattle.rule_terms.proofs.Greatest.{reached_greatest}
use Rattle.rule_terms.proofs.laws.cuts_lead_to_the_greatest.Goals as goal

pub returns : goal.returns
returns c = reached_greatest
