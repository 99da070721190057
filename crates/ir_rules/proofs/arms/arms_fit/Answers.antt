use Rattle.std.proofs.lemmas.Result.{IfOk-weaker}
use Rattle.ir_operands.proofs.Tests.{denied, refused, second}
use Rattle.ir_rules.proofs.arms.arms_fit.Goals as goal

pub returns-then-not-incoming : goal.returns-then-not-incoming
returns-then-not-incoming c = denied (λ h. refused c.in_ok-incoming.incoming c.in_ok-incoming.ensures c.if-not-incoming.true h.0)

pub returns : goal.returns
returns c =
    IfOk-weaker c.agree_by_block.result _ _ (λ yes h. second yes (c.in_ok-incoming.ensures.0 c.if-not-incoming.false) h) c.agree_by_block.ensures
