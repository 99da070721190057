use Rattle.why_make.specs.Going.{Went}
use Rattle.why_make.specs.Marked.{AreMarked}
use Rattle.why_make.proofs.looking.look_at_all.Given as goal

abbrev pub invariant-loop-p : goal.invariant-loop-p
invariant-loop-p l = record {
  went : Went l.s l.initial.course l.course l.fn.from l.p l.fell;
  marked : AreMarked l.s l.course.words l.marks;
}
