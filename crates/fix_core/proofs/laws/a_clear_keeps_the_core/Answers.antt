use Rattle.fix_core.proofs.Kept.{clear_kept}
use Rattle.fix_core.proofs.laws.a_clear_keeps_the_core.Goals as goal

pub returns : goal.returns
returns c = clear_kept
