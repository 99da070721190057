use Rattle.fix_core.proofs.Counting.{event_counted}
use Rattle.fix_core.proofs.counts.every_event_keeps_the_counts.Goals as goal

pub returns : goal.returns
returns c = event_counted
