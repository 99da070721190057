use Rattle.lattice_words.proofs.Monotone.{keep_align_of-within}
use Rattle.lattice_words.proofs.laws.keep_align_is_monotone.Goals as goal

pub returns : goal.returns
returns c = keep_align_of-within
