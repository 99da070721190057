use Rattle.fix_core.proofs.Cutting.{cut_kept}
use Rattle.fix_core.proofs.laws.a_cut_keeps_the_core.Goals as goal

pub returns : goal.returns
returns c = cut_kept
