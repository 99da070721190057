use Rattle.std.proofs.Common.{◌≡◌, slice_get, Some, arith}
use Rattle.ir_module.specs.declared.module.Block.{Block}
use Rattle.ir_module.proofs.Runs.{is_of_run, is_in_block, run_within}
use Rattle.ir_module.proofs.places.segs_of_block.Goals as goal

pub overflow_add-result : goal.overflow_add-result
overflow_add-result c =
    omega (arith, run_within c.args.m.now c.args.b.0 c.block-block.result.now c.requires.formed c.block-block.ensures, c.requires.formed.few.segs)

pub returns : goal.returns
returns c k =
    let b : Block = c.block-block.result.now in
    let at : slice_get c.args.m.now.blocks c.args.b.0 ≡ Some b = c.block-block.ensures in
    (λ r. is_of_run c.args.m.now c.args.b.0 k b c.requires.formed at r, λ h. is_in_block c.args.m.now c.args.b.0 k b c.requires.formed at h)
