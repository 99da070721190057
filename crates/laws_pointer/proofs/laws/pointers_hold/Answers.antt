use Rattle.laws_pointer.proofs.Holding.{right_before, right_next, entries_of, returns_of}
use Rattle.laws_pointer.proofs.laws.pointers_hold.Goals as goal

pub returns : goal.returns
returns c = record {
  before = λ m formed held is opening opens choices honest controlled typed. right_before m formed held is opening opens choices honest controlled typed;
  next = λ m formed held is opening opens choices honest controlled typed. right_next m formed held is opening opens choices honest controlled typed;
  entries = λ m formed held is opening opens choices honest controlled typed masks f at.
      entries_of m formed held is opening opens choices honest controlled typed masks f at;
  returns = λ m formed held is opening opens choices honest controlled typed f. returns_of m formed held is opening opens choices honest controlled typed f;
}
