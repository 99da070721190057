use Rattle.std.proofs.Common.{ℕ, arith, refl}
use Rattle.ir_module.specs.declared.op.Written.{Written}
use Rattle.ir_module.proofs.Each.{one_more_copied, answered}
use Rattle.ir_operands.specs.Offsets.{IsLiteralIndex}
use Rattle.ir_operands.proofs.offset.are_literal_indices.Goals as goal

pub loop-w-preserved : goal.loop-w-preserved
loop-w-preserved c =
    one_more_copied (λ (k : ℕ) (w : Written). IsLiteralIndex c.args.types.now w) c.args.indices.now c.args.indices.now
    c.loop-w.w-index _ refl c.loop-w.invariant c.loop-w-test.true (c.is_literal_index.ensures.0 c.if-not-is_literal_index.false)

pub returns : goal.returns
returns c =
    answered (λ (k : ℕ) (w : Written). IsLiteralIndex c.args.types.now w) c.args.indices.now c.loop-w.w-index
    c.loop-w.invariant (omega (arith, c.loop-w-test.false))
