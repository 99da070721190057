use Rattle.std.proofs.Common.{◌-◌, length}
use Rattle.ir_tree.specs.Constants.{iflag}
use Rattle.ir_parse_parts.proofs.Longest.{Reached}
use Rattle.ir_parse_parts.proofs.flags.iflags.Given as goal

abbrev pub invariant-loop-flag : goal.invariant-loop-flag
invariant-loop-flag l = Reached (iflag l.toks) l.at l.found l.place

abbrev pub decreases-loop-flag : goal.decreases-loop-flag
decreases-loop-flag l = length l.toks - l.place
