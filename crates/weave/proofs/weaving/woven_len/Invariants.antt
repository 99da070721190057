use Rattle.std.proofs.Common.{◌≡◌, ◌+◌, ◌^◌, ◌-◌, length, min, sum_by, take}
use Rattle.std.specs.List.{slice_get}
use Rattle.weave.specs.Woven.{spelled_in}
use Rattle.weave.proofs.weaving.woven_len.Given as goal

abbrev pub invariant-loop-insertion : goal.invariant-loop-insertion
invariant-loop-insertion l =
    l.len ≡ min (length l.text + sum_by (λ x. length (spelled_in l.text x)) (take l.insertion-index l.insertions)) (2 ^ 64 - 1)
