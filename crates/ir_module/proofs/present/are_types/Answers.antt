use Rattle.std.proofs.Common.{arith, refl}
use Rattle.ir_module.specs.Formed.{IsType}
use Rattle.ir_module.proofs.Each.{one_more_copied, answered}
use Rattle.ir_module.proofs.present.are_types.Goals as goal

pub loop-t-preserved : goal.loop-t-preserved
loop-t-preserved c =
    one_more_copied (λ k t. IsType c.args.m.now t) c.args.types.now c.args.types.now c.loop-t.t-index _ refl
    c.loop-t.invariant c.loop-t-test.true (c.is_type.ensures.0 c.if-not-is_type.false)

pub returns : goal.returns
returns c = answered (λ k t. IsType c.args.m.now t) c.args.types.now c.loop-t.t-index c.loop-t.invariant (omega arith)
