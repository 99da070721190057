use Rattle.std.proofs.Common.{◌+◌}
use Rattle.ir_operands.specs.Constants.{RunHas, Keeps}
use Rattle.ir_operands.proofs.walk.+run_keeps.Given as goal

abbrev pub decreases-run_keeps : goal.decreases-run_keeps
decreases-run_keeps l = l.run.first + l.run.count

abbrev pub invariant-loop-i : goal.invariant-loop-i
invariant-loop-i l = RunHas (λ i w. Keeps l.types l.numbers l.parts l.rule w) l.parts l.fn.run.first l.i
