use Rattle.laws_blocks.proofs.Holding.{live_in_before, live_in_next}
use Rattle.laws_blocks.proofs.laws.blocks_are_live.Goals as goal

pub returns : goal.returns
returns c = record {
  before = λ m formed types opening opens choices honest. live_in_before m formed types opening opens choices honest;
  next = λ m formed types opening opens choices honest. live_in_next m formed types opening opens choices honest;
}
