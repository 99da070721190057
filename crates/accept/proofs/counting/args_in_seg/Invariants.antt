use Rattle.std.proofs.Common.{◌≡◌}
use Rattle.accept.specs.Counting.{greatest, args_at}
use Rattle.accept.proofs.counting.args_in_seg.Given as goal

abbrev pub invariant-loop-at : goal.invariant-loop-at
invariant-loop-at l = l.most ≡ greatest (args_at l.m l.seg) l.at
