use Rattle.joined_laws.proofs.Joining.{all_hold}
use Rattle.joined_laws.proofs.laws.every_fact_but_numbers_holds.Goals as goal

pub returns : goal.returns
returns c = λ m formed held is opening opens choices honest types masks none. all_hold m formed held is opening opens choices honest types masks none
