use Rattle.std.proofs.Common.{◌≡◌}
use Rattle.facts.specs.Bodies.{param_count}
use Rattle.accept.specs.Counting.{greatest}
use Rattle.accept.proofs.counting.greatest_params.Given as goal

abbrev pub invariant-loop-f : goal.invariant-loop-f
invariant-loop-f l = l.most ≡ greatest (param_count l.m) l.f
