use Rattle.std.proofs.Common.{◌≡◌, ◌+◌, length}
use Rattle.rule_terms.specs.System.{inputs_of}
use Rattle.rule_terms.specs.Reads.{reads_by}
use Rattle.dep_graph.specs.Graph.{edge_count}
use Rattle.dep_graph.specs.Row.{shown}
use Rattle.dep_graph.proofs.Entering.{AreEntered}
use Rattle.dep_graph.proofs.invert.enter.Given as goal

abbrev pub invariant-loop-i : goal.invariant-loop-i
invariant-loop-i l = record {
  long : length l.rows ≡ length l.initial.rows;
  entered : AreEntered (inputs_of l.s l.d.0) (reads_by l.s l.d.0) l.d (shown l.initial.rows) (shown l.rows) l.i;
  count : edge_count (shown l.rows) ≡ edge_count (shown l.initial.rows) + l.i;
}
