use Rattle.ir_graphs.specs.Distances.{distance}
use Rattle.ir_graphs.proofs.Nearing.{Followed}
use Rattle.ir_graphs.proofs.follow.follow.Given as goal

abbrev pub invariant-following : goal.invariant-following
invariant-following l = Followed l.g l.cut l.b l.ds l.path.items l.at

abbrev pub decreases-following : goal.decreases-following
decreases-following l = distance l.ds l.at
