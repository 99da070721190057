use Rattle.lattice_words.proofs.LadderLaws.{shift_moves}
use Rattle.lattice_words.proofs.laws.shift_moves_rungs.Goals as goal

pub returns : goal.returns
returns c = shift_moves
