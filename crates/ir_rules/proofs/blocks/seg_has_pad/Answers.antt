use Rattle.std.proofs.Common.{sym}
use Rattle.ir_rules.proofs.Pads.{seg_told, no_seg_told}
use Rattle.ir_rules.proofs.blocks.seg_has_pad.Goals as goal

pub returns-in-Some : goal.returns-in-Some
returns-in-Some c =
    seg_told c.args.m.now c.args.k c.in-Some.seg.now c.as_slice.result.now c.any_pad.result (sym c.in-Some.ensures.value) c.as_slice.ensures c.any_pad.ensures

pub returns-in-None : goal.returns-in-None
returns-in-None c = no_seg_told c.args.m.now c.args.k (sym c.in-None.ensures.value)
