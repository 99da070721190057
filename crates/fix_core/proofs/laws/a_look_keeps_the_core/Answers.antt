use Rattle.fix_core.proofs.Kept.{look_kept}
use Rattle.fix_core.proofs.laws.a_look_keeps_the_core.Goals as goal

pub returns : goal.returns
returns c = look_kept
