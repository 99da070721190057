use Rattle.laws_blocks.proofs.Holding.{constants_are}
use Rattle.laws_blocks.proofs.laws.constants_hold.Goals as goal

pub returns : goal.returns
returns c = λ m formed types opening opens choices honest. constants_are m formed types opening opens choices honest
