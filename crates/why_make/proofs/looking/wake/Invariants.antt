use Rattle.dep_graph.specs.Graph.{row_at}
use Rattle.why_make.specs.Marked.{AreWoken}
use Rattle.why_make.proofs.looking.wake.Given as goal

abbrev pub invariant-loop-d : goal.invariant-loop-d
invariant-loop-d l = AreWoken (row_at l.g l.fn.p.0).dependents l.d-index l.initial.marks l.marks
