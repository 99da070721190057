use Rattle.facts.proofs.Unbuilt.{unbuilt}
use Rattle.facts.proofs.laws.what_is_not_built_is_not_held.Goals as goal

pub returns : goal.returns
returns c = unbuilt
