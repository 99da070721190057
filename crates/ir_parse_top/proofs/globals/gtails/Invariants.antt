use Rattle.std.proofs.Common.{◌-◌, length}
use Rattle.ir_tree.specs.Steps.{next}
use Rattle.ir_tree.specs.Entities.{gtail}
use Rattle.ir_parse_parts.proofs.Longest.{Reached}
use Rattle.ir_parse_top.proofs.globals.gtails.Given as goal

abbrev pub invariant-loop-tail : goal.invariant-loop-tail
invariant-loop-tail l = Reached (next l.toks (gtail l.toks)) l.at l.found l.place

abbrev pub decreases-loop-tail : goal.decreases-loop-tail
decreases-loop-tail l = length l.toks - l.place
