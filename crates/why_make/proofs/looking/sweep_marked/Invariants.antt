use Rattle.std.proofs.Common.{◌*◌, length, min}
use Rattle.why_make.specs.declared.marks.TheConstants.{BLOCK}
use Rattle.why_make.specs.Going.{Went}
use Rattle.why_make.specs.Marked.{AreMarked}
use Rattle.why_make.proofs.looking.sweep_marked.Given as goal

abbrev pub invariant-loop-b : goal.invariant-loop-b
invariant-loop-b l = record {
  went : Went l.s l.initial.course l.course 0 (min (l.b * BLOCK) (length l.s.masks)) l.fell;
  marked : AreMarked l.s l.course.words l.marks;
}
