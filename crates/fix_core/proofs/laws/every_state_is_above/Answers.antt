use Rattle.fix_core.proofs.Resting.{core_within, core_above}
use Rattle.fix_core.proofs.laws.every_state_is_above.Goals as goal

pub returns-clause-within : goal.returns-clause-within
returns-clause-within c = core_within

pub returns-clause-above : goal.returns-clause-above
returns-clause-above c = core_above
