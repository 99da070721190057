use Rattle.std.proofs.Common.{arith, refl}
use Rattle.ir_module.specs.Formed.{IsBlockIn}
use Rattle.ir_module.proofs.Each.{one_more_copied, answered}
use Rattle.ir_module.proofs.formed_instr.are_arms.Goals as goal

pub loop-arm-preserved : goal.loop-arm-preserved
loop-arm-preserved c =
    one_more_copied (λ k arm. IsBlockIn c.args.m.now c.args.f arm.from.0) c.args.arms.now c.args.arms.now c.loop-arm.arm-index _ refl
    c.loop-arm.invariant c.loop-arm-test.true (c.is_block_in.ensures.0 c.if-not-is_block_in.false)

pub returns : goal.returns
returns c = answered (λ k arm. IsBlockIn c.args.m.now c.args.f arm.from.0) c.args.arms.now c.loop-arm.arm-index c.loop-arm.invariant (omega arith)
