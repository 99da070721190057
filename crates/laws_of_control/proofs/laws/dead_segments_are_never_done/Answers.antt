use Rattle.laws_of_control.proofs.Holding.{never_done}
use Rattle.laws_of_control.proofs.laws.dead_segments_are_never_done.Goals as goal

pub returns : goal.returns
returns c = λ m formed held is opening opens choices honest. never_done m formed held is opening opens choices honest
