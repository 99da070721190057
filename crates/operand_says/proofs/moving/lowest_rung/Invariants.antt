use Rattle.std.proofs.Common.{ℕ, ◌<◌, slice_index}
use Rattle.lattice_words.specs.Ladders.{byte_rungs}
use Rattle.operand_says.proofs.moving.lowest_rung.Given as goal

abbrev pub invariant-loop-k : goal.invariant-loop-k
invariant-loop-k l = (j : ℕ) → j < l.k → slice_index byte_rungs j < l.bytes
