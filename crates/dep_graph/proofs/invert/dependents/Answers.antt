use Rattle.std.proofs.Common.{◌∙◌, length, sym, subst, arith}
use Rattle.rule_terms.specs.System.{inputs_of}
use Rattle.rule_terms.specs.Reads.{reads_by}
use Rattle.dep_graph.specs.Graph.{IsRow}
use Rattle.dep_graph.proofs.Naming.{inputs_distinct}
use Rattle.dep_graph.proofs.RowFacts.{row_below-is}
use Rattle.dep_graph.proofs.Shown.{length-shown}
use Rattle.dep_graph.proofs.invert.dependents.Goals as goal

pub returns-clause-graph : goal.returns-clause-graph
returns-clause-graph c =
    let s = c.args.s.now in
    record {
      long = length-shown c.enter_all.new.rows ∙ c.in_ok-enter_all.ensures.long;
      rows = λ q l. subst (λ row. IsRow (inputs_of s) (reads_by s) (length s.masks) q row) (sym (c.in_ok-enter_all.ensures.rows q.0 l))
          (row_below-is (inputs_of s) (reads_by s) q (inputs_distinct s) (length s.masks));
      few = omega (arith, c.in_ok-enter_all.ensures.count, c.edges-edges.ensures.edges, c.if-edges-gt-EDGE_LIMIT.false);
    }
