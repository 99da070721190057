use Rattle.std.proofs.Common.{◌≡◌, ◌≤◌, ◌+◌, ◌*◌, length}
use Rattle.dep_graph.proofs.Cost.{cost_below, edges_to}
use Rattle.dep_graph.proofs.bound.budget.Given as goal

abbrev pub invariant-loop-p : goal.invariant-loop-p
invariant-loop-p l = record {
  budget : l.budget ≡ length l.s.masks + cost_below l.s.masks l.g l.p;
  small : cost_below l.s.masks l.g l.p ≤ 64 * edges_to l.g l.p;
}
