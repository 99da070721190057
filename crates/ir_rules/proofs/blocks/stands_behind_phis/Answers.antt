use Rattle.ir_rules.proofs.Pads.{stands_told}
use Rattle.ir_rules.proofs.blocks.stands_behind_phis.Goals as goal

pub returns : goal.returns
returns c =
    stands_told c.args.block.now c.args.k c.args.seg.now c.args.phis c.args.i c.is_in_front.result c.requires.counted c.requires.inside c.is_in_front.ensures
