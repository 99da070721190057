use Rattle.ir_module.specs.WellFormed.{IsSegAt}
use Rattle.ir_module.proofs.Each.{one_further}
use Rattle.ir_module.proofs.formed_body.has_segs.Goals as goal

pub loop-k-preserved : goal.loop-k-preserved
loop-k-preserved c =
    one_further (IsSegAt c.args.m.now c.args.i) c.args.block.now.first_seg c.loop-k.k c.loop-k.invariant (c.is_seg_at.ensures.0 c.if-not-is_seg_at.false)
