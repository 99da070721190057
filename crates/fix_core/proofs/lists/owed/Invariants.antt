use Rattle.std.proofs.Common.{◌≡◌, take}
use Rattle.dep_graph.specs.Graph.{row_at}
use Rattle.fix_core.specs.Machine.{readers_of}
use Rattle.fix_core.proofs.lists.owed.Given as goal

abbrev pub invariant-loop-j : goal.invariant-loop-j
invariant-loop-j l = l.list ≡ readers_of l.lost (take l.j (row_at l.g l.p.0).dependents) (take l.j (row_at l.g l.p.0).reads)
