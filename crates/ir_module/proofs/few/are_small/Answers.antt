use Rattle.std.proofs.Common.{arith, refl}
use Rattle.ir_module.specs.WellFormed.{IsSmall}
use Rattle.ir_module.proofs.Each.{one_more_read, answered}
use Rattle.ir_module.proofs.few.are_small.Goals as goal

pub loop-seg-preserved : goal.loop-seg-preserved
loop-seg-preserved c =
    one_more_read IsSmall c.args.segs.now c.args.segs.now c.loop-seg.seg-index c.seg-item.result refl
    c.loop-seg.invariant c.loop-seg-test.true c.seg-item.is (c.is_small.ensures.0 c.if-not-is_small.false)

pub returns : goal.returns
returns c = answered IsSmall c.args.segs.now c.loop-seg.seg-index c.loop-seg.invariant (omega arith)
