use Rattle.fix_core.proofs.Counting.{clear_counted}
use Rattle.fix_core.proofs.counts.a_clear_keeps_the_counts.Goals as goal

pub returns : goal.returns
returns c = clear_counted
