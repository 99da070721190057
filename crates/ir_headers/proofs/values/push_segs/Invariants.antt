use Rattle.std.proofs.Common.{◌≡◌, ◌++◌, length}
use Rattle.ir_headers.specs.Values.{results_of}
use Rattle.ir_headers.proofs.values.push_segs.Given as goal

abbrev pub invariant-loop-rest : goal.invariant-loop-rest
invariant-loop-rest l = l.values.items ++ results_of l.func l.number l.rest ≡ l.initial.values.items ++ results_of l.func l.first l.segs

abbrev pub decreases-loop-rest : goal.decreases-loop-rest
decreases-loop-rest l = length l.rest
