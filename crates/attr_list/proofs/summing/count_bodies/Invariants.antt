use Rattle.std.proofs.Common.{◌≡◌}
use Rattle.facts.specs.Bodies.{is_body}
use Rattle.attr_list.specs.Summed.{count_of}
use Rattle.attr_list.proofs.summing.count_bodies.Given as goal

abbrev pub invariant-loop-f : goal.invariant-loop-f
invariant-loop-f l = l.count ≡ count_of (is_body l.m) l.f
