use Rattle.ir_bodies.specs.Context.{context}
use Rattle.ir_bodies.specs.Bodies.{block_part}
use Rattle.ir_bodies.specs.Groups.{part_faults}
use Rattle.ir_bodies.proofs.Noting.{one_found}
use Rattle.ir_bodies.proofs.groups.note_blocks.Goals as goal

pub loop-block-preserved : goal.loop-block-preserved
loop-block-preserved c = one_found (λ b. part_faults (context c.args.scene.now) (block_part b)) c.args.blocks.now c.loop-block.block-index
    c.block-item.result c.args.found.now c.loop-block.found c.note_block.new.found
    c.loop-block-test.true c.block-item.is c.loop-block.invariant c.note_block.ensures
