use Rattle.std.proofs.Common.{ℕ, ◌<◌, ◌≤◌, length}
use Rattle.dep_graph.specs.Graph.{row_at}
use Rattle.word_rule.proofs.opening.widest_dependents.Given as goal

abbrev pub invariant-loop-p : goal.invariant-loop-p
invariant-loop-p l = (p : ℕ) → p < l.p → length (row_at l.g p).dependents ≤ l.widest
