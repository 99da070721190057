use Rattle.ir_operands.specs.Types.{AreOne}
use Rattle.ir_operands.specs.Constants.{RunHas}
use Rattle.ir_operands.proofs.constant.has_elements.Given as goal

abbrev pub invariant-loop-i : goal.invariant-loop-i
invariant-loop-i l = RunHas (λ i w. AreOne l.numbers w.ty l.elem) l.parts l.fn.run.first l.i
