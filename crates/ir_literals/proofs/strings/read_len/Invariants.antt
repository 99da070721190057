use Rattle.std.proofs.Common.{◌≡◌, ◌+◌, ◌-◌, ◌≤◌, length, drop}
use Rattle.ir_token.specs.Names.{unescaped}
use Rattle.ir_literals.proofs.strings.read_len.Given as goal

abbrev pub invariant-loop-at : goal.invariant-loop-at
invariant-loop-at l = (l.count + length (unescaped (drop l.at l.inside)) ≡ length (unescaped l.inside)) × (l.at ≤ length l.inside) × (l.count ≤ l.at)

abbrev pub decreases-loop-at : goal.decreases-loop-at
decreases-loop-at l = length l.inside - l.at
