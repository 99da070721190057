use Rattle.std.proofs.Common.{ℕ, arith, refl}
use Rattle.ir_module.specs.declared.attrs.ParamAttrs.{ParamAttrs}
use Rattle.ir_rules.specs.Operations.{IsGood}
use Rattle.ir_module.proofs.Each.{one_more_copied, answered}
use Rattle.ir_operands.proofs.Tests.{each_broken, refused}
use Rattle.ir_rules.proofs.operations.are_good.Goals as goal

pub loop-attrs-preserved : goal.loop-attrs-preserved
loop-attrs-preserved c =
    one_more_copied (λ (k : ℕ) (attrs : ParamAttrs). IsGood attrs) c.args.list.now c.args.list.now c.loop-attrs.attrs-index _ refl c.loop-attrs.invariant
    c.loop-attrs-test.true
    (c.is_good.ensures.0 c.if-not-is_good.false)

pub returns-then-not-is_good : goal.returns-then-not-is_good
returns-then-not-is_good c =
    each_broken (λ (k : ℕ) (attrs : ParamAttrs). IsGood attrs) c.args.list.now c.loop-attrs.attrs-index _ c.loop-attrs-test.true
    (refused c.is_good.result c.is_good.ensures c.if-not-is_good.true)

pub returns : goal.returns
returns c = answered (λ (k : ℕ) (attrs : ParamAttrs). IsGood attrs) c.args.list.now c.loop-attrs.attrs-index c.loop-attrs.invariant (omega
    (arith, c.loop-attrs-test.false))
