use Rattle.std.proofs.Common.{ℕ, ◌<◌, slice_index}
use Rattle.lattice_words.specs.Ladders.{byte_rungs}
use Rattle.lattice_words.proofs.ladders.rung_from.Given as goal

abbrev pub invariant-loop-rung : goal.invariant-loop-rung
invariant-loop-rung l = (k : ℕ) → k < l.rung → slice_index byte_rungs k < l.needed
