use Rattle.std.proofs.Common.{◌-◌, length}
use Rattle.ir_tree.specs.Constants.{gepflag}
use Rattle.ir_parse_parts.proofs.Longest.{Reached}
use Rattle.ir_parse_parts.proofs.flags.gepflags.Given as goal

abbrev pub invariant-loop-flag : goal.invariant-loop-flag
invariant-loop-flag l = Reached (gepflag l.toks) l.at l.found l.place

abbrev pub decreases-loop-flag : goal.decreases-loop-flag
decreases-loop-flag l = length l.toks - l.place
