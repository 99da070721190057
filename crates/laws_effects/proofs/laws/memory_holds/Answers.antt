use Rattle.laws_effects.proofs.Holding.{memory_of_body}
use Rattle.laws_effects.proofs.laws.memory_holds.Goals as goal

pub returns : goal.returns
returns c = λ m formed held is opening opens choices honest controlled right typed f.
    memory_of_body m held is formed opening opens choices honest controlled right typed f
