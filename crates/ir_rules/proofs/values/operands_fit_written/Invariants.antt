use Rattle.std.proofs.Common.{ℕ}
use Rattle.ir_module.specs.declared.op.Written.{Written}
use Rattle.ir_module.specs.Operands.{operands}
use Rattle.ir_rules.specs.Values.{FitsWritten}
use Rattle.ir_module.proofs.Each.{EachOf}
use Rattle.ir_rules.proofs.values.operands_fit_written.Given as goal

abbrev pub invariant-loop-k : goal.invariant-loop-k
invariant-loop-k l = EachOf l.k (operands l.op) (λ (k : ℕ) (w : Written). FitsWritten l.m l.numbers w)
