use Rattle.std.proofs.Common.{◌≡◌, length}
use Rattle.fixpoint_rows.proofs.machine.opening_words.Given as goal

abbrev pub invariant-loop-p : goal.invariant-loop-p
invariant-loop-p l = length l.words ≡ l.p
