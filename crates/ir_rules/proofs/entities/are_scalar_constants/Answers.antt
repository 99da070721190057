use Rattle.std.proofs.Common.{ℕ, arith, refl}
use Rattle.ir_module.specs.declared.op.Written.{Written}
use Rattle.ir_operands.specs.declared.rule.Site.TheVariants as site
use Rattle.ir_operands.specs.Constants.{IsScalarOperand}
use Rattle.ir_module.proofs.Each.{one_more_copied, answered}
use Rattle.ir_operands.proofs.Tests.{each_broken, refused}
use Rattle.ir_rules.proofs.Named.{named_at}
use Rattle.ir_rules.proofs.entities.are_scalar_constants.Goals as goal

pub loop-w-preserved : goal.loop-w-preserved
loop-w-preserved c =
    one_more_copied (λ (k : ℕ) (w : Written). IsScalarOperand c.args.m.now.types c.args.numbers.now c.args.m.now.parts site.Plain w) c.args.ws.now
    c.args.ws.now c.loop-w.w-index _ refl c.loop-w.invariant c.loop-w-test.true
    (c.is_scalar_at.ensures.0 c.if-not-is_scalar_at.false)

pub returns-then-not-is_scalar_at : goal.returns-then-not-is_scalar_at
returns-then-not-is_scalar_at c =
    each_broken (λ (k : ℕ) (w : Written). IsScalarOperand c.args.m.now.types c.args.numbers.now c.args.m.now.parts site.Plain w) c.args.ws.now
    c.loop-w.w-index _ c.loop-w-test.true (refused c.is_scalar_at.result c.is_scalar_at.ensures c.if-not-is_scalar_at.true)

pub returns : goal.returns
returns c = answered (λ (k : ℕ) (w : Written). IsScalarOperand c.args.m.now.types c.args.numbers.now c.args.m.now.parts site.Plain w) c.args.ws.now
    c.loop-w.w-index c.loop-w.invariant (omega (arith, c.loop-w-test.false))

pub is_scalar_at-requires-clause-named : goal.is_scalar_at-requires-clause-named
is_scalar_at-requires-clause-named c = named_at c.args.m.now c.args.ws.now c.loop-w.w-index _ c.requires.named c.loop-w-test.true
