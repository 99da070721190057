use Rattle.ir_operands.specs.Constants.{IsScalarConstant, RunHas}
use Rattle.ir_operands.proofs.constant.are_scalars.Given as goal

abbrev pub invariant-loop-i : goal.invariant-loop-i
invariant-loop-i l = RunHas (λ i w. IsScalarConstant l.types w) l.parts l.fn.run.first l.i
