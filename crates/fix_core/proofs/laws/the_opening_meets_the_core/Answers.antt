use Rattle.fix_core.proofs.Opening.{opening_core}
use Rattle.fix_core.proofs.laws.the_opening_meets_the_core.Goals as goal

pub returns : goal.returns
returns c = opening_core
