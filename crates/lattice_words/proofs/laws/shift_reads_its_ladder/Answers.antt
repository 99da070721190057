use Rattle.lattice_words.proofs.Locality.{same_after_shift}
use Rattle.lattice_words.proofs.laws.shift_reads_its_ladder.Goals as goal

pub returns : goal.returns
returns c = same_after_shift
