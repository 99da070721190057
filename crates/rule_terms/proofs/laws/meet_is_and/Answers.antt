use Rattle.rule_terms.proofs.Meeting.{value-with_term}
use Rattle.rule_terms.proofs.laws.meet_is_and.Goals as goal

pub returns : goal.returns
returns c = value-with_term
