use Rattle.std.proofs.Common.{ℕ, arith}
use Rattle.ir_module.specs.declared.op.Written.{Written}
use Rattle.ir_operands.specs.Constants.{IsScalarConstant}
use Rattle.ir_operands.proofs.Parts.{run_more, run_done}
use Rattle.ir_operands.proofs.constant.are_scalars.Goals as goal

pub loop-i-preserved : goal.loop-i-preserved
loop-i-preserved c =
    run_more (λ (i : ℕ) (w : Written). IsScalarConstant c.args.types.now w) c.args.parts.now c.args.run.first c.loop-i.i _ c.loop-i.invariant
    (omega (arith, c.requires, c.loop-i-test.true)) (c.is_scalar_constant.ensures.0 c.if-not-is_scalar_constant.false)

pub returns : goal.returns
returns c =
    run_done (λ (i : ℕ) (w : Written). IsScalarConstant c.args.types.now w) c.args.parts.now c.args.run.first c.loop-i.i c.args.run.count
    c.loop-i.invariant (omega (arith, c.loop-i-test.false))
