use Rattle.laws_of_control.proofs.Holding.{live_before, live_next}
use Rattle.laws_of_control.proofs.laws.frames_stand_live.Goals as goal

pub returns : goal.returns
returns c = record {
  before = λ m formed held is opening opens choices honest. live_before m formed held is opening opens choices honest;
  next = λ m formed held is opening opens choices honest. live_next m formed held is opening opens choices honest;
}
