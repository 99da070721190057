use Rattle.std.proofs.Common.{◌≡◌, ◌+◌, ◌∙◌, ap, sym, arith, length, replicate, mul-zero}
use Rattle.std.proofs.Math.ListN.{length-replicate}
use Rattle.std.proofs.lemmas.List.{get_or-replicate}
use Rattle.std.proofs.lemmas.List.Folds.{sum_by-replicate}
use Rattle.rule_terms.specs.System.{inputs_of}
use Rattle.rule_terms.specs.Reads.{reads_by}
use Rattle.row_lists.specs.EdgeRow.{empty_row as empty_edges}
use Rattle.dep_graph.specs.Row.{Row, shown}
use Rattle.dep_graph.specs.Graph.{empty_row, row_at, edge_count}
use Rattle.dep_graph.specs.Rows.{entered}
use Rattle.dep_graph.proofs.Edges.{edges_below-none, edges_below-more}
use Rattle.dep_graph.proofs.Shown.{shown-empty}
use Rattle.dep_graph.proofs.RowFacts.{row_below-none, row_below-more}
use Rattle.dep_graph.proofs.invert.enter_all.Goals as goal

pub loop-d-init : goal.loop-d-init
loop-d-init c =
    let s = c.args.s.now in
    let n = length s.masks in
    let none : shown c.args.rows.now ≡ replicate n empty_row = ap shown c.requires ∙ shown-empty n in
    record {
      long = ap length c.requires ∙ length-replicate n empty_edges;
      rows = λ q l. ap (λ rows. row_at rows q) none ∙ get_or-replicate n q empty_row empty_row l ∙ sym (row_below-none (inputs_of s) (reads_by s) q);
      count = ap edge_count none ∙ sum_by-replicate (λ (row : Row). length row.dependents) n empty_row ∙ mul-zero n ∙ sym (edges_below-none s);
    }

pub loop-d-preserved : goal.loop-d-preserved
loop-d-preserved c =
    let s = c.args.s.now in
    let d = c.loop-d.d in
    let before = c.loop-d.invariant in
    record {
      long = c.in_ok-enter.ensures.long ∙ before.long;
      rows = λ q l.
          c.in_ok-enter.ensures.rows q (omega (arith, before.long)) ∙
          ap (λ row. entered (inputs_of s d) (reads_by s d) (record { 0 = d }) row q) (before.rows q l) ∙
          sym (row_below-more (inputs_of s) (reads_by s) d q);
      count = c.in_ok-enter.ensures.count ∙ ap (λ n. n + length (inputs_of s d)) before.count ∙ sym (edges_below-more s d);
    }
