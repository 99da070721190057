use Rattle.std.proofs.Common.{take}
use Rattle.attrib.proofs.Fit.{IsFit}
use Rattle.attrib.proofs.offsets.stand_within.Given as goal

abbrev pub invariant-loop-insertion : goal.invariant-loop-insertion
invariant-loop-insertion l = IsFit l.size l.last (take l.insertion-index l.insertions)
