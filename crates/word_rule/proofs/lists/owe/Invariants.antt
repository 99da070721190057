use Rattle.std.proofs.Common.{◌≡◌, ◌≤◌, take, length}
use Rattle.std.specs.Prelude.{vec_capacity}
use Rattle.dep_graph.specs.Graph.{row_at}
use Rattle.fix_core.specs.Machine.{readers_of}
use Rattle.word_rule.proofs.lists.owe.Given as goal

abbrev pub invariant-loop-j : goal.invariant-loop-j
invariant-loop-j l = (l.list.items ≡ readers_of l.lost (take l.j (row_at l.g l.p.0).dependents) (take l.j (row_at l.g l.p.0).reads)) ×
    (length l.list.items ≤ l.j) × (vec_capacity l.list ≡ vec_capacity l.fn.list)
