use Rattle.std.proofs.Common.{length, arith, ap}
use Rattle.ir_module.specs.WellFormed.{IsSegFormed}
use Rattle.ir_module.proofs.Each.{one_more_read, answered}
use Rattle.ir_module.proofs.formed_body.are_segs_formed.Goals as goal

pub loop-k-preserved : goal.loop-k-preserved
loop-k-preserved c =
    one_more_read (IsSegFormed c.args.m.now) c.args.m.now.segs c.as_slice-seg-items.result.now c.loop-k.k c.seg-item.result
    c.as_slice-seg-items.ensures c.loop-k.invariant c.loop-k-test.true c.seg-item.is (c.is_seg_formed.ensures.0 c.if-not-is_seg_formed.false)

pub returns : goal.returns
returns c =
    answered (IsSegFormed c.args.m.now) c.args.m.now.segs c.loop-k.k c.loop-k.invariant
    (omega (arith, ap length c.as_slice-seg-items.ensures))
