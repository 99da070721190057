use Rattle.std.proofs.Common.{◌≡◌, ◌-◌, ◌≤◌, ◌++◌, length, drop}
use Rattle.ir_token.specs.Names.{unescaped}
use Rattle.ir_literals.proofs.strings.push_read.Given as goal

abbrev pub invariant-loop-at : goal.invariant-loop-at
invariant-loop-at l = (l.bytes.items ++ unescaped (drop l.at l.inside) ≡ l.initial.bytes.items ++ unescaped l.inside) × (l.at ≤ length l.inside)

abbrev pub decreases-loop-at : goal.decreases-loop-at
decreases-loop-at l = length l.inside - l.at
