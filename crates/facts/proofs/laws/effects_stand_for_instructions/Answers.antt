use Rattle.facts.proofs.Effects.{effects_stand}
use Rattle.facts.proofs.laws.effects_stand_for_instructions.Goals as goal

pub returns : goal.returns
returns c = effects_stand
