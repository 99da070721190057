use Rattle.std.proofs.Common.{◌≡◌, ◌-◌, ◌≤◌, ltb, length, drop}
use Rattle.std.specs.List.{list_all}
use Rattle.ir_token.specs.Names.{unescaped}
use Rattle.ir_token.proofs.names.is_proper.Given as goal

abbrev pub invariant-loop-at : goal.invariant-loop-at
invariant-loop-at l = (list_all (λ c. ltb 0 c) (unescaped (drop l.at l.inside)) ≡ list_all (λ c. ltb 0 c) (unescaped l.inside)) × (l.at ≤ length l.inside)

abbrev pub decreases-loop-at : goal.decreases-loop-at
decreases-loop-at l = length l.inside - l.at
