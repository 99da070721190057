use Rattle.std.proofs.Common.{◌≡◌, ◌≤◌, ◌-◌, length}
use Rattle.ir_token.specs.Bytes.{is_blank}
use Rattle.ir_token.specs.Ends.{past}
use Rattle.ir_token.proofs.runs.past_blanks.Given as goal

abbrev pub invariant-loop-end : goal.invariant-loop-end
invariant-loop-end l = (past is_blank l.text l.end ≡ past is_blank l.text l.at) × (l.at ≤ l.end) × (l.end ≤ length l.text)

abbrev pub decreases-loop-end : goal.decreases-loop-end
decreases-loop-end l = length l.text - l.end
