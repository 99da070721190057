use Rattle.std.proofs.Common.{◌≡◌, ap, arith, sym, length}
use Rattle.rule_terms.specs.System.{inputs_of}
use Rattle.dep_graph.proofs.Edges.{edges_below-none, edges_below-more, edges_fit}
use Rattle.dep_graph.proofs.invert.edges.Goals as goal

pub loop-p-init : goal.loop-p-init
loop-p-init c = sym (edges_below-none c.args.s.now)

pub overflow_add-edges : goal.overflow_add-edges
overflow_add-edges c =
    let s = c.args.s.now in
    let system = c.count-p-end.ensures in
    let len : length c.inputs.result.now ≡ length (inputs_of s c.loop-p.p) = ap length c.inputs.ensures in
    omega (arith, edges_fit s system.system c.loop-p.p (omega arith), len, c.loop-p.invariant)

pub loop-p-preserved : goal.loop-p-preserved
loop-p-preserved c =
    let s = c.args.s.now in
    let len : length c.inputs.result.now ≡ length (inputs_of s c.loop-p.p) = ap length c.inputs.ensures in
    omega (arith, edges_below-more s c.loop-p.p, len, c.loop-p.invariant)
