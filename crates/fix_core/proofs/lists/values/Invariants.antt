use Rattle.std.proofs.Common.{◌≡◌, true, take}
use Rattle.fix_core.specs.Machine.{values_of, has_all}
use Rattle.fix_core.proofs.lists.values.Given as goal

abbrev pub invariant-loop-value : goal.invariant-loop-value
invariant-loop-value l = record {
  words : l.words ≡ values_of (take l.value-index l.looked);
  all : has_all (take l.value-index l.looked) ≡ true;
}
