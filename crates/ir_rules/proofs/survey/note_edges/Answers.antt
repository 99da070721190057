use Rattle.std.proofs.Common.{arith, refl, sym, subst, ◌<◌, ℕ}
use Rattle.ir_module.specs.Edges.{edges}
use Rattle.ir_rules.proofs.Sources.{adds_none, noted_all}
use Rattle.ir_rules.proofs.survey.note_edges.Goals as goal

pub loop-k-init : goal.loop-k-init
loop-k-init c = adds_none c.args.lists.now c.args.from _ refl

pub note_edge-requires-clause-targets : goal.note_edge-requires-clause-targets
note_edge-requires-clause-targets c =
    λ i e at. subst (λ (n : ℕ). e.to.0 < n) (sym c.loop-k.invariant.long) (c.requires i e at)

pub loop-k-preserved : goal.loop-k-preserved
loop-k-preserved c = c.in_ok-note_edge.ensures c.args.lists.now c.loop-k.invariant

pub returns : goal.returns
returns c = noted_all c.args.lists.now c.loop-k.lists c.args.from c.loop-k.k (edges c.args.op.now) (omega
    (arith, c.edge_count-k-end.ensures, c.loop-k-test.false)) c.loop-k.invariant
