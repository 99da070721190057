use Rattle.facts.proofs.Unions.{is_union}
use Rattle.facts.proofs.laws.the_greatest_is_the_union.Goals as goal

pub returns : goal.returns
returns c = is_union
