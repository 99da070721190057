use Rattle.joined_laws.proofs.Joining.{all_but_bytes}
use Rattle.joined_laws.proofs.laws.every_fact_but_bytes_holds.Goals as goal

pub returns : goal.returns
returns c = λ m formed held is opening opens choices honest types indices masks none.
    all_but_bytes m formed held is opening opens choices honest types masks indices none
