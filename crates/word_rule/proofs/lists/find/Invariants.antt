use Rattle.std.proofs.Common.{◌≤◌, ◌-◌, length, drop, Contains}
use Rattle.word_rule.proofs.lists.find.Given as goal

abbrev pub invariant-loop-at : goal.invariant-loop-at
invariant-loop-at l = (l.from ≤ l.at) × Contains (drop l.at l.list) l.d

abbrev pub decreases-loop-at : goal.decreases-loop-at
decreases-loop-at l = length l.list - l.at
