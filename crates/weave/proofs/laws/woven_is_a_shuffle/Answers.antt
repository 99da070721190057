use Rattle.weave.proofs.Pieces.{woven_shuffle, shuffle_woven}
use Rattle.weave.proofs.laws.woven_is_a_shuffle.Goals as goal

pub returns : goal.returns
returns c = λ text out insertions rise within. (woven_shuffle text out insertions rise within, λ p. shuffle_woven text out insertions p.0 p.1 p.2)
