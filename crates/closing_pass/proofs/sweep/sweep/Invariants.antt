use Rattle.closing_pass.proofs.Swept.{Swept}
use Rattle.closing_pass.proofs.sweep.sweep.Given as goal

abbrev pub invariant-loop-p : goal.invariant-loop-p
invariant-loop-p l = Swept l.s l.initial.words l.words l.fell l.p
