use Rattle.ir_graphs.specs.Distances.{IsBest}
use Rattle.ir_graphs.proofs.follow.next.Given as goal

abbrev pub invariant-loop-j : goal.invariant-loop-j
invariant-loop-j l = IsBest l.g l.cut l.ds l.x l.j l.best
