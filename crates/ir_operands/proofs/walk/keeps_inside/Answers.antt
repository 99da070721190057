use Rattle.std.proofs.Common.{ℕ, subst}
use Rattle.ir_module.specs.declared.op.Written.{Written}
use Rattle.ir_operands.specs.Constants.{IsNotWrong, Keeps}
use Rattle.ir_operands.proofs.Parts.{own_told}
use Rattle.ir_operands.proofs.Tests.{second}
use Rattle.ir_operands.proofs.walk.keeps_inside.Goals as goal

pub returns-then-is_not_wrong : goal.returns-then-is_not_wrong
returns-then-is_not_wrong c =
    second c.run_keeps.result (subst (λ n. IsNotWrong n c.args.w.now.val) c.number.ensures (c.is_not_wrong.ensures.0 c.if-is_not_wrong.true))
    (own_told (λ (i : ℕ) (x : Written). Keeps c.args.types.now c.args.numbers.now c.args.parts.now c.args.rule x) c.args.parts.now c.args.w.now.val
    c.own_run.result.first c.own_run.result.count c.run_keeps.result c.own_run.ensures.first c.own_run.ensures.count c.run_keeps.ensures)
