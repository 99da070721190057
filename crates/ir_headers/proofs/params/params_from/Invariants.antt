use Rattle.std.proofs.Common.{◌≡◌, ◌++◌, length}
use Rattle.ir_instrs.specs.Reading.{reading}
use Rattle.ir_headers.specs.Headers as spec
use Rattle.ir_headers.proofs.params.params_from.Given as goal

-- those that are made, and those of what is left
abbrev pub invariant-loop-rest : goal.invariant-loop-rest
invariant-loop-rest l = l.params.items ++ spec.params_from (reading l.src) l.value l.rest ≡ spec.params_from (reading l.src) l.first l.list

abbrev pub decreases-loop-rest : goal.decreases-loop-rest
decreases-loop-rest l = length l.rest
