use Rattle.std.proofs.Common.{◌≤◌, ◌<◌, ℕ}
use Rattle.ir_rules.specs.Blocks.{SegHasPad}
use Rattle.ir_rules.proofs.blocks.has_pad.Given as goal

abbrev pub invariant-loop-k : goal.invariant-loop-k
invariant-loop-k l = (l.initial.k ≤ l.k) × ((k : ℕ) → l.initial.k ≤ k → k < l.k → SegHasPad l.m k → ⊥)
