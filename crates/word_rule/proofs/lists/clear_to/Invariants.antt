use Rattle.std.proofs.Common.{◌≡◌, ◌≤◌, replicate}
use Rattle.std.specs.Prelude.{vec_capacity}
use Rattle.word_rule.proofs.lists.clear_to.Given as goal

abbrev pub invariant-loop : goal.invariant-loop
invariant-loop l = (l.counter ≤ l.count) × (l.list.items ≡ replicate l.counter 0) × (vec_capacity l.list ≡ vec_capacity l.fn.list)
