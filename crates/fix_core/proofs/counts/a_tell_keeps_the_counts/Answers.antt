use Rattle.fix_core.proofs.Counting.{tell_counted}
use Rattle.fix_core.proofs.counts.a_tell_keeps_the_counts.Goals as goal

pub returns : goal.returns
returns c = tell_counted
