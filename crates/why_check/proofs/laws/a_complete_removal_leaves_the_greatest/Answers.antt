use Rattle.why_check.proofs.Removed.{complete_greatest}
use Rattle.why_check.proofs.laws.a_complete_removal_leaves_the_greatest.Goals as goal

pub returns : goal.returns
returns c = complete_greatest
