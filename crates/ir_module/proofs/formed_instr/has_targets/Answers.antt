use Rattle.std.proofs.Common.{ℕ, List, arith, sym}
use Rattle.ir_module.specs.declared.edge.Edge.{Edge}
use Rattle.ir_module.specs.Edges.{edges}
use Rattle.ir_module.specs.Formed.{IsBlockIn}
use Rattle.ir_module.proofs.Each.{one_more, one_more_none, answered}
use Rattle.ir_module.proofs.formed_instr.has_targets.Goals as goal
use Rattle.ir_module.proofs.formed_instr.has_targets.Goals.{in-Some+else-not-is_block_in, in_default}

pub loop-at-preserved : goal.loop-at-preserved
loop-at-preserved c =
    let all : List Edge = edges c.args.op.now in
    let leads : ℕ → Edge → Type 0 = λ k e. IsBlockIn c.args.m.now c.args.f e.to.0 in
    elim c.match-edge_at.branch [
      | in-Some+else-not-is_block_in w ↦
          one_more leads all c.loop-at.at w.in-Some.edge c.loop-at.invariant (sym w.in-Some.ensures) (w.is_block_in.ensures.0 w.if-not-is_block_in.false)
      | in_default w ↦ one_more_none leads all c.loop-at.at c.loop-at.invariant w.in_default.ensures
    ]

pub returns : goal.returns
returns c =
    answered (λ k e. IsBlockIn c.args.m.now c.args.f e.to.0) (edges c.args.op.now) c.loop-at.at c.loop-at.invariant (omega (arith, c.edge_count-at-end.ensures))
