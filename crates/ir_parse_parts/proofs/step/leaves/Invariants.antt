use Rattle.std.proofs.Common.{◌-◌, length}
use Rattle.ir_tree.specs.Steps.{leaf}
use Rattle.ir_parse_parts.proofs.Longest.{Reached}
use Rattle.ir_parse_parts.proofs.step.leaves.Given as goal

abbrev pub invariant-loop-next : goal.invariant-loop-next
invariant-loop-next l = Reached (leaf l.toks l.terminal) l.at l.found l.place

abbrev pub decreases-loop-next : goal.decreases-loop-next
decreases-loop-next l = length l.toks - l.place
