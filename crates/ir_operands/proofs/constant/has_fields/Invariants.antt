use Rattle.ir_operands.specs.Constants.{RunHas, HasFieldType}
use Rattle.ir_operands.proofs.constant.has_fields.Given as goal

abbrev pub invariant-loop-i : goal.invariant-loop-i
invariant-loop-i l = RunHas (HasFieldType l.numbers l.fields) l.parts l.fn.run.first l.i
