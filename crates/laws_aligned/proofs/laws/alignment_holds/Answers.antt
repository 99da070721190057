use Rattle.laws_aligned.proofs.Holding.{right_before, right_next, entries_of, returns_of}
use Rattle.laws_aligned.proofs.laws.alignment_holds.Goals as goal

pub returns : goal.returns
returns c = record {
  before = λ m formed held is opening opens choices honest types indices masks controlled.
      right_before m indices held formed is masks types opening opens choices honest controlled;
  next = λ m formed held is opening opens choices honest types indices masks controlled.
      right_next m indices held formed is masks types opening opens choices honest controlled;
  entries = λ m formed held is opening opens choices honest types indices masks controlled f at.
      entries_of m indices held formed is masks types opening opens choices honest controlled f at;
  returns = λ m formed held is opening opens choices honest types indices masks controlled f.
      returns_of m indices held formed is masks types opening opens choices honest controlled f;
}
