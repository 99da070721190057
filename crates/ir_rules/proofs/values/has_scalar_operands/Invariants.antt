use Rattle.std.proofs.Common.{ℕ}
use Rattle.ir_module.specs.declared.op.Written.{Written}
use Rattle.ir_module.specs.Operands.{operands}
use Rattle.ir_operands.specs.Constants.{IsScalarOperand}
use Rattle.ir_rules.specs.Values.{site_of}
use Rattle.ir_module.proofs.Each.{EachOf}
use Rattle.ir_rules.proofs.values.has_scalar_operands.Given as goal

abbrev pub invariant-loop-k : goal.invariant-loop-k
invariant-loop-k l = EachOf l.k (operands l.op) (λ (k : ℕ) (w : Written). IsScalarOperand l.m.types l.numbers l.m.parts (site_of l.op k) w)
