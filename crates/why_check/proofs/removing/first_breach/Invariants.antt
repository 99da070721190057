use Rattle.why_check.proofs.Passes.{IsTakenTo}
use Rattle.why_check.proofs.removing.first_breach.Given as goal

abbrev pub invariant-loop-at : goal.invariant-loop-at
invariant-loop-at l = IsTakenTo l.s l.entries l.words l.at
