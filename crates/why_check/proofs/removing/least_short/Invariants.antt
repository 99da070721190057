use Rattle.std.proofs.Common.{ℕ, ◌<◌}
use Rattle.why_check.specs.Judged.{IsGiven}
use Rattle.why_check.proofs.removing.least_short.Given as goal

abbrev pub invariant-loop-p : goal.invariant-loop-p
invariant-loop-p l = (q : ℕ) → q < l.p → IsGiven l.s l.words q
