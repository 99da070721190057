use Rattle.std.proofs.Common.{length, arith, ap}
use Rattle.ir_module.specs.WellFormed.{IsBlockFormed}
use Rattle.ir_module.proofs.Each.{one_more_read, answered}
use Rattle.ir_module.proofs.formed_body.are_blocks_formed.Goals as goal

pub loop-i-preserved : goal.loop-i-preserved
loop-i-preserved c =
    one_more_read (IsBlockFormed c.args.m.now) c.args.m.now.blocks c.as_slice-block-items.result.now c.loop-i.i c.block-item.result
    c.as_slice-block-items.ensures c.loop-i.invariant c.loop-i-test.true c.block-item.is (c.is_block_formed.ensures.0 c.if-not-is_block_formed.false)

pub returns : goal.returns
returns c =
    answered (IsBlockFormed c.args.m.now) c.args.m.now.blocks c.loop-i.i c.loop-i.invariant
    (omega (arith, ap length c.as_slice-block-items.ensures))
