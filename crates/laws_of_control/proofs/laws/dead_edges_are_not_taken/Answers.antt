use Rattle.laws_of_control.proofs.Holding.{live_edges}
use Rattle.laws_of_control.proofs.laws.dead_edges_are_not_taken.Goals as goal

pub returns : goal.returns
returns c = λ m formed held is opening opens choices honest. live_edges m formed held is opening opens choices honest
