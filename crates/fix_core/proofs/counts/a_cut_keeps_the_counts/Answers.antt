use Rattle.fix_core.proofs.Counting.{cut_counted}
use Rattle.fix_core.proofs.counts.a_cut_keeps_the_counts.Goals as goal

pub returns : goal.returns
returns c = cut_counted
