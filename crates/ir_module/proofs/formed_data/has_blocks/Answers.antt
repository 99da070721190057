use Rattle.ir_module.specs.Formed.{IsBlockIn}
use Rattle.ir_module.proofs.Each.{one_further}
use Rattle.ir_module.proofs.formed_data.has_blocks.Goals as goal

pub loop-i-preserved : goal.loop-i-preserved
loop-i-preserved c =
    one_further (IsBlockIn c.args.m.now c.args.f) c.args.func.now.first_block c.loop-i.i c.loop-i.invariant (c.is_block_in.ensures.0 c.if-not-is_block_in.false)
