use Rattle.facts.proofs.Unions.{one_set}
use Rattle.facts.proofs.laws.the_greatest_is_one.Goals as goal

pub returns : goal.returns
returns c = one_set
