use Rattle.why_make.specs.Marked.{AreFree}
use Rattle.why_make.proofs.marks.is_any.Given as goal

abbrev pub invariant-loop-q : goal.invariant-loop-q
invariant-loop-q l = AreFree l.marks l.fn.from l.q
