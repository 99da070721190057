use Rattle.fix_core.proofs.Steps.{event_kept}
use Rattle.fix_core.proofs.laws.every_event_keeps_the_core.Goals as goal

pub returns : goal.returns
returns c = event_kept
