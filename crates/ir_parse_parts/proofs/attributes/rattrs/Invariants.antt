use Rattle.std.proofs.Common.{◌-◌, length}
use Rattle.ir_tree.specs.Attributes.{rattr}
use Rattle.ir_parse_parts.proofs.Longest.{Reached}
use Rattle.ir_parse_parts.proofs.attributes.rattrs.Given as goal

abbrev pub invariant-loop-found : goal.invariant-loop-found
invariant-loop-found l = Reached (rattr l.toks) l.at l.found l.place

abbrev pub decreases-loop-found : goal.decreases-loop-found
decreases-loop-found l = length l.toks - l.place
