use Rattle.std.proofs.Common.{ℕ, arith, refl}
use Rattle.ir_module.specs.declared.module.Param.{Param}
use Rattle.ir_rules.specs.Operations.{IsGood}
use Rattle.ir_module.proofs.Each.{one_more_copied, answered}
use Rattle.ir_operands.proofs.Tests.{each_broken, refused}
use Rattle.ir_rules.proofs.entities.are_good_params.Goals as goal

pub loop-param-preserved : goal.loop-param-preserved
loop-param-preserved c =
    one_more_copied (λ (k : ℕ) (p : Param). IsGood p.attrs) c.args.params.now c.args.params.now c.loop-param.param-index _ refl c.loop-param.invariant
    c.loop-param-test.true
    (c.is_good_param.ensures.0 c.if-not-is_good_param.false)

pub returns-then-not-is_good_param : goal.returns-then-not-is_good_param
returns-then-not-is_good_param c =
    each_broken (λ (k : ℕ) (p : Param). IsGood p.attrs) c.args.params.now c.loop-param.param-index _ c.loop-param-test.true
    (refused c.is_good_param.result c.is_good_param.ensures c.if-not-is_good_param.true)

pub returns : goal.returns
returns c = answered (λ (k : ℕ) (p : Param). IsGood p.attrs) c.args.params.now c.loop-param.param-index c.loop-param.invariant (omega
    (arith, c.loop-param-test.false))
