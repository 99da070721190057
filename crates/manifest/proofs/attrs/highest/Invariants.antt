use Rattle.std.proofs.Common.{◌≡◌, ◌+◌, ◌-◌}
use Rattle.lattice_words.specs.Words.{has_bit}
use Rattle.manifest.specs.Attrs.{highest}
use Rattle.manifest.proofs.attrs.highest.Given as goal

abbrev pub invariant-loop-i : goal.invariant-loop-i
invariant-loop-i l = highest (λ k. has_bit l.word (l.first + k)) l.count ≡ highest (λ k. has_bit l.word (l.first + k)) (l.count - l.i)
