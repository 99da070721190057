use Rattle.laws_uses.proofs.Holding.{uses_of}
use Rattle.laws_uses.proofs.laws.uses_hold.Goals as goal

pub returns : goal.returns
returns c = λ m formed held is opening opens choices honest controlled types f at v param.
    uses_of m formed held is opening opens choices honest controlled types f at v param
