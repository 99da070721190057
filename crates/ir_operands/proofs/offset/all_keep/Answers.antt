use Rattle.std.proofs.Common.{ℕ, arith, refl}
use Rattle.ir_module.specs.declared.op.Written.{Written}
use Rattle.ir_module.proofs.Each.{one_more_copied, answered}
use Rattle.ir_operands.specs.Constants.{Keeps}
use Rattle.ir_operands.proofs.Tests.{each_broken, refused}
use Rattle.ir_operands.proofs.offset.all_keep.Goals as goal

pub loop-w-preserved : goal.loop-w-preserved
loop-w-preserved c =
    one_more_copied (λ (k : ℕ) (w : Written). Keeps c.args.types.now c.args.numbers.now c.args.parts.now c.args.rule w) c.args.ws.now c.args.ws.now
    c.loop-w.w-index _ refl c.loop-w.invariant c.loop-w-test.true (c.keeps.ensures.0 c.if-not-keeps.false)

pub returns-then-not-keeps : goal.returns-then-not-keeps
returns-then-not-keeps c =
    each_broken (λ (k : ℕ) (w : Written). Keeps c.args.types.now c.args.numbers.now c.args.parts.now c.args.rule w) c.args.ws.now c.loop-w.w-index _
    c.loop-w-test.true (refused c.keeps.result c.keeps.ensures c.if-not-keeps.true)

pub returns : goal.returns
returns c =
    answered (λ (k : ℕ) (w : Written). Keeps c.args.types.now c.args.numbers.now c.args.parts.now c.args.rule w) c.args.ws.now c.loop-w.w-index
    c.loop-w.invariant (omega (arith, c.loop-w-test.false))
