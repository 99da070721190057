use Rattle.std.proofs.Common.{ℕ, ◌<◌, ◌≡◌, slice_get, Some}
use Rattle.lattice_words.specs.Ladders.{align_rungs}
use Rattle.aa_passing.proofs.written.rung_of.Given as goal

abbrev pub invariant-loop-k : goal.invariant-loop-k
invariant-loop-k l = (r : ℕ) → r < l.k → slice_get align_rungs r ≡ Some l.align → ⊥
