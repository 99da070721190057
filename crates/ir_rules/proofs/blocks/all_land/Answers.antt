use Rattle.std.proofs.Common.{ℕ, arith, sym}
use Rattle.ir_module.specs.declared.edge.Edge.{Edge}
use Rattle.ir_module.specs.Edges.{edges}
use Rattle.ir_rules.specs.Blocks.{Lands}
use Rattle.ir_module.proofs.Each.{one_more, one_more_none, answered}
use Rattle.ir_operands.proofs.Tests.{each_denied, refused}
use Rattle.ir_rules.proofs.blocks.all_land.Goals as goal
use Rattle.ir_rules.proofs.blocks.all_land.Goals.{in-Some+else-not-lands, in_default}

pub loop-k-preserved : goal.loop-k-preserved
loop-k-preserved c =
    let all = edges c.args.op.now in
    let keeps = λ (k : ℕ) (e : Edge). Lands c.args.m.now e.to.0 e.way in
    elim c.match-edge_at.branch [
      | in-Some+else-not-lands w ↦ one_more keeps all c.loop-k.k w.in-Some.edge c.loop-k.invariant (sym w.in-Some.ensures)
          (w.lands.ensures.0 w.if-not-lands.false)
      | in_default w ↦ one_more_none keeps all c.loop-k.k c.loop-k.invariant w.in_default.ensures
    ]

pub returns : goal.returns
returns c = answered (λ (k : ℕ) (e : Edge). Lands c.args.m.now e.to.0 e.way) (edges c.args.op.now) c.loop-k.k c.loop-k.invariant (omega
    (arith, c.edge_count-k-end.ensures))

pub returns-then-not-lands : goal.returns-then-not-lands
returns-then-not-lands c = each_denied (λ (k : ℕ) (e : Edge). Lands c.args.m.now e.to.0 e.way) (edges c.args.op.now) c.loop-k.k c.in-Some.edge
    (sym c.in-Some.ensures) (refused c.lands.result c.lands.ensures c.if-not-lands.true)
