use Rattle.std.proofs.Common.{◌≡◌}
use Rattle.dep_graph.specs.Graph.{edges_below}
use Rattle.dep_graph.proofs.invert.edges.Given as goal

abbrev pub invariant-loop-p : goal.invariant-loop-p
invariant-loop-p l = l.edges ≡ edges_below l.s l.p
