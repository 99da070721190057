use Rattle.ir_type_equality.proofs.Rounds.{enough}
use Rattle.ir_type_equality.proofs.laws.rounds_are_enough.Goals as goal

pub returns : goal.returns
returns c = enough
