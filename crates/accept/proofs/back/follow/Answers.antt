use Rattle.accept.specs.Causes.{IsCause}
use Rattle.accept.proofs.Edges.{has_edges, edges_within}
use Rattle.accept.proofs.Told.{handed, edges_by}
use Rattle.accept.proofs.back.follow.Goals as goal

pub returns-in_err-positions-clause-refused : goal.returns-in_err-positions-clause-refused
returns-in_err-positions-clause-refused c = λ b checked.
    handed c.from_residual-in_err-positions.result c.in_err-positions.field-0.0 (IsCause b) c.from_residual-in_err-positions.ensures.1
    (c.in_err-positions.ensures.refused b checked)

pub returns-in_err-graph-clause-refused : goal.returns-in_err-graph-clause-refused
returns-in_err-graph-clause-refused c = λ b checked.
    let m = c.args.m.now in
    let ps = c.in_ok-positions.positions in
    let s = c.in_ok-system.system in
    let has = has_edges m ps s c.in_ok-positions.ensures.positions c.in_ok-system.ensures.system c.in_ok-system.ensures.inputs in
    handed c.from_residual-in_err-graph.result c.in_err-graph.field-0.0 (IsCause b) c.from_residual-in_err-graph.ensures.1
    (edges_by b m s checked c.requires.sized c.in_ok-positions.ensures.few has c.in_err-graph.field-0.0 c.in_err-graph.ensures.refused)

pub returns-clause-follows : goal.returns-clause-follows
returns-clause-follows c = record {
  limits = record {
    sizes = c.requires.sized;
    words = c.in_ok-positions.ensures.few;
    edges = edges_within c.args.m.now c.in_ok-system.system c.in_ok-system.ensures.count c.in_ok-graph.ensures.few;
  };
  uses = c.in_ok-uses.ensures;
  positions = c.in_ok-positions.ensures.positions;
  listed = c.in_ok-positions.ensures.listed;
  system = c.in_ok-system.ensures.system;
  composed = c.in_ok-system.ensures.composed;
  graph = c.in_ok-graph.ensures.graph;
}
