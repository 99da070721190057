use Rattle.std.proofs.Common.{◌≡◌, ◌++◌, length}
use Rattle.ir_headers.specs.Values.{param_values}
use Rattle.ir_headers.proofs.values.push_params.Given as goal

abbrev pub invariant-loop-rest : goal.invariant-loop-rest
invariant-loop-rest l = l.values.items ++ param_values l.func l.at l.rest ≡ l.initial.values.items ++ param_values l.func 0 l.params

abbrev pub decreases-loop-rest : goal.decreases-loop-rest
decreases-loop-rest l = length l.rest
