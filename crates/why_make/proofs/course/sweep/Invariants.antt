use Rattle.why_make.specs.Going.{Went}
use Rattle.why_make.proofs.course.sweep.Given as goal

abbrev pub invariant-loop-p : goal.invariant-loop-p
invariant-loop-p l = Went l.s l.initial.course l.course 0 l.p l.fell
