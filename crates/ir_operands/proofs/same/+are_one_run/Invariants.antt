use Rattle.std.proofs.Common.{◌+◌}
use Rattle.ir_operands.specs.Same.{AreOneRun}
use Rattle.ir_operands.proofs.same.+are_one_run.Given as goal

abbrev pub decreases-are_one_run : goal.decreases-are_one_run
decreases-are_one_run l = l.a.first + l.a.count

abbrev pub invariant-loop-i : goal.invariant-loop-i
invariant-loop-i l = AreOneRun l.types l.numbers l.parts l.fn.a.first l.fn.b.first l.i
