use Rattle.std.proofs.Common.{length, arith, ap}
use Rattle.ir_module.specs.WellFormed.{IsValueFormed}
use Rattle.ir_module.proofs.Each.{one_more_copied, answered}
use Rattle.ir_module.proofs.formed_body.are_values_formed.Goals as goal

pub loop-v-preserved : goal.loop-v-preserved
loop-v-preserved c =
    one_more_copied (IsValueFormed c.args.m.now) c.args.m.now.values c.as_slice-info-items.result.now c.loop-v.v _ c.as_slice-info-items.ensures
    c.loop-v.invariant c.loop-v-test.true (c.is_value_formed.ensures.0 c.if-not-is_value_formed.false)

pub returns : goal.returns
returns c =
    answered (IsValueFormed c.args.m.now) c.args.m.now.values c.loop-v.v c.loop-v.invariant (omega (arith, ap length c.as_slice-info-items.ensures))
