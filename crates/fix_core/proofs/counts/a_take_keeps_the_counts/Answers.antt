use Rattle.fix_core.proofs.Counting.{take_counted}
use Rattle.fix_core.proofs.counts.a_take_keeps_the_counts.Goals as goal

pub returns : goal.returns
returns c = take_counted
