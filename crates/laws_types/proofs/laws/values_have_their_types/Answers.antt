use Rattle.laws_types.proofs.Holding.{typed_before, typed_next, keeps_types, passes_addresses}
use Rattle.laws_types.proofs.laws.values_have_their_types.Goals as goal

pub returns : goal.returns
returns c = record {
  before = λ m formed types opening opens choices. typed_before m formed types opening opens choices;
  next = λ m formed types opening opens choices. typed_next m formed types opening opens choices;
  keeps = λ m formed types opening opens choices. keeps_types m formed types opening opens choices;
  passes = λ m formed types opening opens choices. passes_addresses m formed types opening opens choices;
}
