use Rattle.facts.proofs.Growing.{justified_more}
use Rattle.facts.proofs.laws.a_larger_set_justifies_more.Goals as goal

pub returns : goal.returns
returns c = justified_more
