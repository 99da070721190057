use Rattle.std.proofs.Common.{arith, refl}
use Rattle.ir_module.specs.WellFormed.{IsParamFormed}
use Rattle.ir_module.proofs.Each.{one_more_copied, answered}
use Rattle.ir_module.proofs.formed_data.are_params.Goals as goal

pub loop-k-preserved : goal.loop-k-preserved
loop-k-preserved c =
    one_more_copied (IsParamFormed c.args.m.now c.args.f) c.args.params.now c.args.params.now c.loop-k.k _ refl
    c.loop-k.invariant c.loop-k-test.true (c.is_param.ensures.0 c.if-not-is_param.false)

pub returns : goal.returns
returns c = answered (IsParamFormed c.args.m.now c.args.f) c.args.params.now c.loop-k.k c.loop-k.invariant (omega arith)
