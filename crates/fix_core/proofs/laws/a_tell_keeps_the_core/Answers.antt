use Rattle.fix_core.proofs.Kept.{tell_kept}
use Rattle.fix_core.proofs.laws.a_tell_keeps_the_core.Goals as goal

pub returns : goal.returns
returns c = tell_kept
