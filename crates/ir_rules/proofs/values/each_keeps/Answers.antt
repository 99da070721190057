use Rattle.std.proofs.Common.{ℕ, arith, refl}
use Rattle.ir_module.specs.declared.op.Written.{Written}
use Rattle.ir_operands.specs.Constants.{Keeps}
use Rattle.ir_module.proofs.Each.{one_more_copied, answered}
use Rattle.ir_operands.proofs.Tests.{each_broken, refused}
use Rattle.ir_rules.proofs.Named.{named_at}
use Rattle.ir_rules.proofs.values.each_keeps.Goals as goal

pub loop-w-preserved : goal.loop-w-preserved
loop-w-preserved c =
    one_more_copied (λ (k : ℕ) (w : Written). Keeps c.args.m.now.types c.args.numbers.now c.args.m.now.parts c.args.rule w) c.args.ws.now c.args.ws.now
    c.loop-w.w-index _ refl c.loop-w.invariant c.loop-w-test.true
    (c.operand_keeps.ensures.0 c.if-not-operand_keeps.false)

pub returns-then-not-operand_keeps : goal.returns-then-not-operand_keeps
returns-then-not-operand_keeps c =
    each_broken (λ (k : ℕ) (w : Written). Keeps c.args.m.now.types c.args.numbers.now c.args.m.now.parts c.args.rule w) c.args.ws.now c.loop-w.w-index _
    c.loop-w-test.true (refused c.operand_keeps.result c.operand_keeps.ensures c.if-not-operand_keeps.true)

pub returns : goal.returns
returns c = answered (λ (k : ℕ) (w : Written). Keeps c.args.m.now.types c.args.numbers.now c.args.m.now.parts c.args.rule w) c.args.ws.now c.loop-w.w-index
    c.loop-w.invariant (omega (arith, c.loop-w-test.false))

pub operand_keeps-requires-clause-named : goal.operand_keeps-requires-clause-named
operand_keeps-requires-clause-named c = named_at c.args.m.now c.args.ws.now c.loop-w.w-index _ c.requires.named c.loop-w-test.true
