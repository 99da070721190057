use Rattle.facts.proofs.Greatest.{has_justified}
use Rattle.facts.proofs.laws.the_greatest_has_what_it_justifies.Goals as goal

pub returns : goal.returns
returns c = has_justified
