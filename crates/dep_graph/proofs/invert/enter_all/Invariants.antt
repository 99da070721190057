use Rattle.std.proofs.Common.{◌≡◌, ℕ, ◌<◌, length}
use Rattle.rule_terms.specs.System.{inputs_of}
use Rattle.rule_terms.specs.Reads.{reads_by}
use Rattle.dep_graph.specs.Graph.{row_at, edge_count, edges_below}
use Rattle.dep_graph.specs.Row.{shown}
use Rattle.dep_graph.specs.Rows.{row_below}
use Rattle.dep_graph.proofs.invert.enter_all.Given as goal

abbrev pub invariant-loop-d : goal.invariant-loop-d
invariant-loop-d l = record {
  long : length l.rows ≡ length l.s.masks;
  rows : (q : ℕ) → q < length l.s.masks → row_at (shown l.rows) q ≡ row_below (inputs_of l.s) (reads_by l.s) l.d q;
  count : edge_count (shown l.rows) ≡ edges_below l.s l.d;
}
