use Rattle.std.proofs.Common.{◌≡◌}
use Rattle.attr_list.specs.Summed.{count_of, stands_at}
use Rattle.attr_list.proofs.count.times_in.Given as goal

abbrev pub invariant-loop-k : goal.invariant-loop-k
invariant-loop-k l = l.count ≡ count_of (stands_at l.name l.insertion.words) l.k
