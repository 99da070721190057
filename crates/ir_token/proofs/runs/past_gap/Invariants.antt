use Rattle.std.proofs.Common.{◌≡◌, ◌+◌, ◌≤◌, ◌-◌, length, drop}
use Rattle.ir_token.specs.LeftOut.{gap_len, past_gap}
use Rattle.ir_token.proofs.runs.past_gap.Given as goal

abbrev pub invariant-loop-end : goal.invariant-loop-end
invariant-loop-end l = (l.end + gap_len l.in_comment (drop l.end l.text) ≡ past_gap l.text l.at) × (l.at ≤ l.end) × (l.end ≤ length l.text)

abbrev pub decreases-loop-end : goal.decreases-loop-end
decreases-loop-end l = length l.text - l.end
