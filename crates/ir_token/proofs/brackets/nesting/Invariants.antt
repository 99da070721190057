use Rattle.std.proofs.Common.{◌≡◌, ◌≤◌, max, drop}
use Rattle.ir_token.specs.Nesting.{deepest}
use Rattle.ir_token.proofs.brackets.nesting.Given as goal

abbrev pub invariant-loop-token : goal.invariant-loop-token
invariant-loop-token l = (max l.most (deepest l.text l.open (drop l.token-index l.toks)) ≡ deepest l.text 0 l.toks) × (l.open ≤ l.most) ×
    (l.most ≤ l.token-index)
