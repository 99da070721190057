use Rattle.std.proofs.Common.{ℕ, arith, sym, subst}
use Rattle.ir_operands.specs.declared.rule.Site.{Site}
use Rattle.ir_module.specs.declared.op.Written.{Written}
use Rattle.ir_module.specs.Operands.{operands}
use Rattle.ir_operands.specs.Constants.{IsScalarOperand}
use Rattle.ir_rules.specs.Values.{site_of}
use Rattle.ir_module.proofs.Each.{one_more, one_more_none, answered}
use Rattle.ir_operands.proofs.Tests.{each_denied, refused}
use Rattle.ir_rules.proofs.values.has_scalar_operands.Goals as goal
use Rattle.ir_rules.proofs.values.has_scalar_operands.Goals.{in-Some+else-not-is_scalar_at, in_default}

pub loop-k-preserved : goal.loop-k-preserved
loop-k-preserved c =
    let all = operands c.args.op.now in
    let keeps = λ (k : ℕ) (w : Written). IsScalarOperand c.args.m.now.types c.args.numbers.now c.args.m.now.parts (site_of c.args.op.now k) w in
    elim c.match-operand_at.branch [
      | in-Some+else-not-is_scalar_at w ↦ one_more keeps all c.loop-k.k w.in-Some.w.now c.loop-k.invariant (sym w.in-Some.ensures)
          (subst (λ (s : Site). IsScalarOperand c.args.m.now.types c.args.numbers.now c.args.m.now.parts s w.in-Some.w.now) w.site_of.ensures
          (w.is_scalar_at.ensures.0 w.if-not-is_scalar_at.false))
      | in_default w ↦ one_more_none keeps all c.loop-k.k c.loop-k.invariant w.in_default.ensures
    ]

pub returns : goal.returns
returns c = answered (λ (k : ℕ) (w : Written). IsScalarOperand c.args.m.now.types c.args.numbers.now c.args.m.now.parts (site_of c.args.op.now k) w)
    (operands c.args.op.now) c.loop-k.k c.loop-k.invariant (omega (arith, c.operand_count-k-end.ensures))

pub returns-then-not-is_scalar_at : goal.returns-then-not-is_scalar_at
returns-then-not-is_scalar_at c = each_denied (λ (k : ℕ) (w : Written). IsScalarOperand c.args.m.now.types c.args.numbers.now c.args.m.now.parts
    (site_of c.args.op.now k) w) (operands c.args.op.now) c.loop-k.k c.in-Some.w.now (sym c.in-Some.ensures)
    (λ h. refused c.is_scalar_at.result c.is_scalar_at.ensures c.if-not-is_scalar_at.true (subst (λ
    (s : Site). IsScalarOperand c.args.m.now.types c.args.numbers.now c.args.m.now.parts s c.in-Some.w.now) (sym c.site_of.ensures) h))
