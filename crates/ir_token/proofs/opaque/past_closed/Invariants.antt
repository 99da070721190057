use Rattle.std.proofs.Common.{◌≡◌, ◌+◌, ◌-◌, ◌≤◌, false, length, drop}
use Rattle.ir_token.specs.Texts.{closes_at}
use Rattle.ir_token.proofs.opaque.past_closed.Given as goal

abbrev pub invariant-loop-end : goal.invariant-loop-end
invariant-loop-end l = (closes_at l.open l.in_string l.end (drop l.end l.text) ≡ closes_at 1 false l.at (drop l.at l.text)) × (l.end ≤ length l.text) ×
    (l.open ≤ l.end + 1)

abbrev pub decreases-loop-end : goal.decreases-loop-end
decreases-loop-end l = length l.text - l.end
