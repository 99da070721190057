use Rattle.std.proofs.Common.{length, take}
use Rattle.program_rows.proofs.Fit.{IsFit}
use Rattle.program_rows.proofs.weaving.is_fit.Given as goal

abbrev pub invariant-loop-insertion : goal.invariant-loop-insertion
invariant-loop-insertion l = IsFit (length l.text) l.last (take l.insertion-index l.insertions)
