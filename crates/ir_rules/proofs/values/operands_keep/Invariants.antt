use Rattle.std.proofs.Common.{ℕ}
use Rattle.ir_module.specs.declared.op.Written.{Written}
use Rattle.ir_module.specs.Operands.{operands}
use Rattle.ir_operands.specs.Constants.{Keeps}
use Rattle.ir_module.proofs.Each.{EachOf}
use Rattle.ir_rules.proofs.values.operands_keep.Given as goal

abbrev pub invariant-loop-k : goal.invariant-loop-k
invariant-loop-k l = EachOf l.k (operands l.op) (λ (k : ℕ) (w : Written). Keeps l.m.types l.numbers l.m.parts l.rule w)
