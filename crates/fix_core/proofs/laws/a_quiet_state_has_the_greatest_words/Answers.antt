use Rattle.fix_core.proofs.Resting.{core_greatest}
use Rattle.fix_core.proofs.laws.a_quiet_state_has_the_greatest_words.Goals as goal

pub returns : goal.returns
returns c = core_greatest
