use Rattle.fix_core.proofs.Counting.{opening_counted}
use Rattle.fix_core.proofs.counts.the_opening_meets_the_counts.Goals as goal

pub returns : goal.returns
returns c = opening_counted
