use Rattle.fix_core.proofs.Kept.{take_kept}
use Rattle.fix_core.proofs.laws.a_take_keeps_the_core.Goals as goal

pub returns : goal.returns
returns c = take_kept
