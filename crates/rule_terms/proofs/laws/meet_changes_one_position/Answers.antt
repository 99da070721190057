use Rattle.rule_terms.proofs.Meeting.{value-with_term_other}
use Rattle.rule_terms.proofs.laws.meet_changes_one_position.Goals as goal

pub returns : goal.returns
returns c = value-with_term_other
