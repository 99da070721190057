use Rattle.std.proofs.Common.{◌-◌, length}
use Rattle.ir_tree.specs.Attributes.{attach}
use Rattle.ir_parse_parts.proofs.Longest.{Reached}
use Rattle.ir_parse_top.proofs.entities.attaches.Given as goal

abbrev pub invariant-loop-one : goal.invariant-loop-one
invariant-loop-one l = Reached (attach l.toks) l.at l.found l.place

abbrev pub decreases-loop-one : goal.decreases-loop-one
decreases-loop-one l = length l.toks - l.place
