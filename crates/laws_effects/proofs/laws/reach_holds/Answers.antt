use Rattle.laws_effects.proofs.Reaching.{rows_of}
use Rattle.laws_effects.proofs.laws.reach_holds.Goals as goal

pub returns : goal.returns
returns c = λ m formed held is opening opens choices honest controlled r t. rows_of m held is formed opening opens choices honest controlled r t
