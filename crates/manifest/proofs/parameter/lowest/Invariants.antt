use Rattle.std.proofs.Common.{◌≡◌, ◌&&◌, None, slice_get}
use Rattle.lattice_words.specs.Words.{has_bit}
use Rattle.manifest.specs.Parameter.{has_return_type, lowest}
use Rattle.manifest.proofs.parameter.lowest.Given as goal

abbrev pub invariant-loop-i : goal.invariant-loop-i
invariant-loop-i l = lowest (λ i. has_return_type l.m l.func (slice_get l.func.params i) && has_bit l.word i) l.i ≡ None
