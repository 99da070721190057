use Rattle.lattice_words.proofs.LadderLaws.{keep_align_keeps}
use Rattle.lattice_words.proofs.laws.keep_align_keeps_divisors.Goals as goal

pub returns : goal.returns
returns c = keep_align_keeps
