use Rattle.std.proofs.Common.{ℕ, arith, refl}
use Rattle.ir_module.specs.declared.op.Written.{Written}
use Rattle.ir_operands.specs.Types.{IsInteger, type_of}
use Rattle.ir_module.proofs.Each.{one_more_copied, answered}
use Rattle.ir_operands.proofs.Tests.{each_broken, refused}
use Rattle.ir_rules.proofs.operations.are_integer_operands.Goals as goal

pub loop-w-preserved : goal.loop-w-preserved
loop-w-preserved c =
    one_more_copied (λ (k : ℕ) (w : Written). IsInteger (type_of c.args.m.now.types w.ty)) c.args.ws.now c.args.ws.now c.loop-w.w-index _ refl
    c.loop-w.invariant c.loop-w-test.true
    (c.is_integer_operand.ensures.0 c.if-not-is_integer_operand.false)

pub returns-then-not-is_integer_operand : goal.returns-then-not-is_integer_operand
returns-then-not-is_integer_operand c =
    each_broken (λ (k : ℕ) (w : Written). IsInteger (type_of c.args.m.now.types w.ty)) c.args.ws.now c.loop-w.w-index _ c.loop-w-test.true
    (refused c.is_integer_operand.result c.is_integer_operand.ensures c.if-not-is_integer_operand.true)

pub returns : goal.returns
returns c = answered (λ (k : ℕ) (w : Written). IsInteger (type_of c.args.m.now.types w.ty)) c.args.ws.now c.loop-w.w-index c.loop-w.invariant (omega
    (arith, c.loop-w-test.false))
