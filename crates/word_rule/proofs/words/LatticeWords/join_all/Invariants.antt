use Rattle.word_rule.proofs.Gathering.{AreGathered}
use Rattle.word_rule.proofs.words.LatticeWords.join_all.Given as goal

abbrev pub invariant-loop-other : goal.invariant-loop-other
invariant-loop-other l = AreGathered l.self l.fn.seats l.first l.others.items

abbrev pub decreases-loop-other : goal.decreases-loop-other
decreases-loop-other l = goal.left-loop-other l
