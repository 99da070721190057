use Rattle.std.proofs.Common.{arith, ◌*◌, ◌^◌, ◌≤◌}
use Rattle.accept.proofs.Counted.{instructions_more}
use Rattle.accept.proofs.counting.instructions.Goals as goal

pub loop-seg-preserved : goal.loop-seg-preserved
loop-seg-preserved c =
    let few : c.loop-seg.count ≤ 2 ^ 31 * c.loop-seg.seg = c.loop-seg.invariant.1 in (
      instructions_more c.args.m.now c.loop-seg.seg c.loop-seg.count c.seg_length.result
          (omega (arith, c.loop-seg-test.true, c.len-seg-end.ensures)) c.loop-seg.invariant.0 c.seg_length.ensures.length,
      omega (arith, few, c.seg_length.ensures.few),
    )
