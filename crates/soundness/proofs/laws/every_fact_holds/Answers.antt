use Rattle.soundness.proofs.Sound.{sound}
use Rattle.soundness.proofs.laws.every_fact_holds.Goals as goal

pub returns : goal.returns
returns c = sound
