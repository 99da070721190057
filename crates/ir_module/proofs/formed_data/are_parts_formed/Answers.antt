use Rattle.std.proofs.Common.{length, arith, ap}
use Rattle.ir_module.specs.WellFormed.{IsPartFormed}
use Rattle.ir_module.proofs.Each.{one_more_copied, answered}
use Rattle.ir_module.proofs.formed_data.are_parts_formed.Goals as goal

pub loop-k-preserved : goal.loop-k-preserved
loop-k-preserved c =
    one_more_copied (IsPartFormed c.args.m.now) c.args.m.now.parts c.as_slice-w-items.result.now c.loop-k.k _ c.as_slice-w-items.ensures
    c.loop-k.invariant c.loop-k-test.true (c.is_part_formed.ensures.0 c.if-not-is_part_formed.false)

pub returns : goal.returns
returns c =
    answered (IsPartFormed c.args.m.now) c.args.m.now.parts c.loop-k.k c.loop-k.invariant (omega (arith, ap length c.as_slice-w-items.ensures))
