use Rattle.std.proofs.Common.{◌≡◌, length, vec_len}
use Rattle.dep_graph.proofs.invert.counts.Given as goal

abbrev pub invariant-loop-p : goal.invariant-loop-p
invariant-loop-p l = vec_len l.counts ≡ length l.s.masks
