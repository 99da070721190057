use Rattle.fix_core.proofs.Joining.{owed_inside}
use Rattle.fix_core.proofs.laws.owed_positions_are_positions.Goals as goal

pub returns : goal.returns
returns c = owed_inside
