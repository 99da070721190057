use Rattle.std.proofs.Common.{◌≡◌}
use Rattle.std.proofs.Common.{ℕ, arith, sym}
use Rattle.ir_module.specs.declared.edge.Edge.{Edge}
use Rattle.ir_module.specs.Edges.{edges}
use Rattle.ir_module.proofs.Each.{one_more, one_more_none, answered}
use Rattle.ir_operands.proofs.Tests.{each_denied, refused}
use Rattle.ir_rules.proofs.blocks.leaves_entry_free.Goals as goal
use Rattle.ir_rules.proofs.blocks.leaves_entry_free.Goals.{in-Some+else-is_entry, in_default}

pub loop-k-preserved : goal.loop-k-preserved
loop-k-preserved c =
    let all = edges c.args.op.now in
    let keeps = λ (k : ℕ) (e : Edge). e.to.0 ≡ c.args.func.now.first_block → ⊥ in
    elim c.match-edge_at.branch [
      | in-Some+else-is_entry w ↦ one_more keeps all c.loop-k.k w.in-Some.edge c.loop-k.invariant (sym w.in-Some.ensures)
          (refused w.is_entry.result w.is_entry.ensures w.if-is_entry.false)
      | in_default w ↦ one_more_none keeps all c.loop-k.k c.loop-k.invariant w.in_default.ensures
    ]

pub returns : goal.returns
returns c = answered (λ (k : ℕ) (e : Edge). e.to.0 ≡ c.args.func.now.first_block → ⊥) (edges c.args.op.now) c.loop-k.k c.loop-k.invariant (omega
    (arith, c.edge_count-k-end.ensures))

pub returns-then-is_entry : goal.returns-then-is_entry
returns-then-is_entry c = each_denied (λ (k : ℕ) (e : Edge). e.to.0 ≡ c.args.func.now.first_block → ⊥) (edges c.args.op.now) c.loop-k.k c.in-Some.edge
    (sym c.in-Some.ensures) (λ never. never (c.is_entry.ensures.0 c.if-is_entry.true))
