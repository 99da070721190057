use Rattle.fix_core.proofs.Counting.{look_counted}
use Rattle.fix_core.proofs.counts.a_look_keeps_the_counts.Goals as goal

pub returns : goal.returns
returns c = look_counted
