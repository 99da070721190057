use Rattle.std.proofs.Common.{◌<◌}
use Rattle.ir_verify.specs.Undefined.{AreJudged}
use Rattle.ir_verify.proofs.paths.first_undefined.Given as goal

abbrev pub invariant-loop-f : goal.invariant-loop-f
invariant-loop-f l = AreJudged l.m (λ f. f < l.f) l.found
