use Rattle.std.proofs.Common.{ℕ, ◌<◌, ◌≤◌, length}
use Rattle.rule_terms.specs.System.{inputs_of}
use Rattle.word_rule.proofs.opening.widest_inputs.Given as goal

abbrev pub invariant-loop-p : goal.invariant-loop-p
invariant-loop-p l = (p : ℕ) → p < l.p → length (inputs_of l.s p) ≤ l.widest
