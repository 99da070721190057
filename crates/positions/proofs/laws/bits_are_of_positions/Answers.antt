use Rattle.positions.proofs.Speaking.{bits_of}
use Rattle.positions.proofs.laws.bits_are_of_positions.Goals as goal

pub returns : goal.returns
returns c = bits_of
