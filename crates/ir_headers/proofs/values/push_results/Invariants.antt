use Rattle.std.proofs.Common.{◌≡◌, ◌++◌, length}
use Rattle.ir_headers.specs.Values.{results_in}
use Rattle.ir_headers.proofs.values.push_results.Given as goal

abbrev pub invariant-loop-rest : goal.invariant-loop-rest
invariant-loop-rest l = l.values.items ++ results_in l.func l.seg.0 l.at l.rest ≡ l.initial.values.items ++ results_in l.func l.seg.0 0 l.instrs

abbrev pub decreases-loop-rest : goal.decreases-loop-rest
decreases-loop-rest l = length l.rest
