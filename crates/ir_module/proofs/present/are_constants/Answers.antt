use Rattle.std.proofs.Common.{arith, refl}
use Rattle.ir_module.specs.Formed.{IsType, IsConstant}
use Rattle.ir_module.proofs.Each.{one_more_copied, answered}
use Rattle.ir_module.proofs.present.are_constants.Goals as goal

pub loop-w-preserved : goal.loop-w-preserved
loop-w-preserved c =
    one_more_copied (λ k w. IsType c.args.m.now w.ty × IsConstant c.args.m.now w.val) c.args.ws.now c.args.ws.now c.loop-w.w-index _ refl
    c.loop-w.invariant c.loop-w-test.true (c.is_written_constant.ensures.0 c.if-not-is_written_constant.false)

pub returns : goal.returns
returns c = answered (λ k w. IsType c.args.m.now w.ty × IsConstant c.args.m.now w.val) c.args.ws.now c.loop-w.w-index c.loop-w.invariant (omega arith)
