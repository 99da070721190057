use Rattle.std.proofs.Common.{ℕ, arith, sym}
use Rattle.ir_module.specs.declared.op.Written.{Written}
use Rattle.ir_module.specs.Operands.{operands}
use Rattle.ir_operands.specs.Constants.{Keeps}
use Rattle.ir_module.proofs.Each.{one_more, one_more_none, answered}
use Rattle.ir_operands.proofs.Tests.{each_denied, refused}
use Rattle.ir_rules.proofs.values.operands_keep.Goals as goal
use Rattle.ir_rules.proofs.values.operands_keep.Goals.{in-Some+else-not-operand_keeps, in_default}

pub loop-k-preserved : goal.loop-k-preserved
loop-k-preserved c =
    let all = operands c.args.op.now in
    let keeps = λ (k : ℕ) (w : Written). Keeps c.args.m.now.types c.args.numbers.now c.args.m.now.parts c.args.rule w in
    elim c.match-operand_at.branch [
      | in-Some+else-not-operand_keeps w ↦ one_more keeps all c.loop-k.k w.in-Some.w.now c.loop-k.invariant (sym w.in-Some.ensures)
          (w.operand_keeps.ensures.0 w.if-not-operand_keeps.false)
      | in_default w ↦ one_more_none keeps all c.loop-k.k c.loop-k.invariant w.in_default.ensures
    ]

pub returns : goal.returns
returns c = answered (λ (k : ℕ) (w : Written). Keeps c.args.m.now.types c.args.numbers.now c.args.m.now.parts c.args.rule w)
    (operands c.args.op.now) c.loop-k.k c.loop-k.invariant (omega (arith, c.operand_count-k-end.ensures))

pub returns-then-not-operand_keeps : goal.returns-then-not-operand_keeps
returns-then-not-operand_keeps c = each_denied (λ (k : ℕ) (w : Written). Keeps c.args.m.now.types c.args.numbers.now c.args.m.now.parts c.args.rule w)
    (operands c.args.op.now) c.loop-k.k c.in-Some.w.now (sym c.in-Some.ensures) (refused c.operand_keeps.result c.operand_keeps.ensures
    c.if-not-operand_keeps.true)
