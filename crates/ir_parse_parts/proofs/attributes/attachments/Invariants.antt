use Rattle.std.proofs.Common.{◌-◌, length}
use Rattle.ir_tree.specs.Steps.{next}
use Rattle.ir_tree.specs.Attributes.{attach}
use Rattle.ir_parse_parts.proofs.Longest.{Reached}
use Rattle.ir_parse_parts.proofs.attributes.attachments.Given as goal

abbrev pub invariant-loop-attachment : goal.invariant-loop-attachment
invariant-loop-attachment l = Reached (next l.toks (attach l.toks)) l.at l.found l.place

abbrev pub decreases-loop-attachment : goal.decreases-loop-attachment
decreases-loop-attachment l = length l.toks - l.place
