use Rattle.std.proofs.Common.{◌-◌, ◌≤◌, length}
use Rattle.ir_tree.specs.Steps.{Taken}
use Rattle.ir_tree.specs.Entities.{entity}
use Rattle.ir_parse_top.proofs.parse.entities.Given as goal

abbrev pub invariant-loop-found : goal.invariant-loop-found
invariant-loop-found l = Taken (entity l.toks) l.found 0 l.place × (l.place ≤ length l.toks)

abbrev pub decreases-loop-found : goal.decreases-loop-found
decreases-loop-found l = length l.toks - l.place
