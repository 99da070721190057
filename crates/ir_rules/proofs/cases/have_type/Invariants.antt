use Rattle.std.proofs.Common.{ℕ}
use Rattle.ir_module.specs.declared.op.Case.{Case}
use Rattle.ir_operands.specs.Types.{AreOne}
use Rattle.ir_module.proofs.Each.{EachOf}
use Rattle.ir_rules.proofs.cases.have_type.Given as goal

abbrev pub invariant-loop-case : goal.invariant-loop-case
invariant-loop-case l = EachOf l.case-index l.cases (λ (k : ℕ) (case : Case). AreOne l.numbers case.val.ty l.t)
