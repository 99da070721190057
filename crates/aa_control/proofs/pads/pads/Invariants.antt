use Rattle.std.proofs.Common.{◌≡◌, take, map}
use Rattle.aa_control.specs.Asked.{has_pad}
use Rattle.aa_control.proofs.pads.pads.Given as goal

abbrev pub invariant-loop-seg : goal.invariant-loop-seg
invariant-loop-seg l = l.pads.items ≡ map has_pad (take l.seg-index l.m.segs)
