use Rattle.std.proofs.Common.{◌≡◌}
use Rattle.accept.specs.Counting.{greatest, args_in_seg}
use Rattle.accept.proofs.counting.greatest_args.Given as goal

abbrev pub invariant-loop-seg : goal.invariant-loop-seg
invariant-loop-seg l = l.most ≡ greatest (args_in_seg l.m) l.seg
