use Rattle.std.proofs.Common.{◌≡◌}
use Rattle.manifest.specs.Ready.{set_of}
use Rattle.attr_list.specs.Summed.{count_of, is_dead}
use Rattle.attr_list.proofs.summing.count_dead.Given as goal

abbrev pub invariant-loop-f : goal.invariant-loop-f
invariant-loop-f l = l.count ≡ count_of (is_dead l.held.m.now (set_of l.held)) l.f
