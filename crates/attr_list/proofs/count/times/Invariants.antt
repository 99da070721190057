use Rattle.std.proofs.Common.{◌≡◌, ◌*◌, ◌^◌, ◌≤◌, take, sum_by}
use Rattle.attr_list.specs.Summed.{times_in}
use Rattle.attr_list.proofs.count.times.Given as goal

abbrev pub invariant-loop-insertion : goal.invariant-loop-insertion
invariant-loop-insertion l = record {
  times : l.count ≡ sum_by (times_in l.name) (take l.insertion-index l.insertions);
  few : l.count ≤ 2 ^ 64 * l.insertion-index;
}
