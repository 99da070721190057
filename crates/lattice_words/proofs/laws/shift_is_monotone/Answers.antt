use Rattle.lattice_words.proofs.Monotone.{shift_of-within}
use Rattle.lattice_words.proofs.laws.shift_is_monotone.Goals as goal

pub returns : goal.returns
returns c = shift_of-within
