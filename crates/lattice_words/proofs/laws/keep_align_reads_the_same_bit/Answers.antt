use Rattle.lattice_words.proofs.Locality.{same_after_step}
use Rattle.lattice_words.proofs.laws.keep_align_reads_the_same_bit.Goals as goal

pub returns : goal.returns
returns c = same_after_step
