use Rattle.std.proofs.Common.{ℕ}
use Rattle.ir_module.specs.declared.op.Written.{Written}
use Rattle.ir_rules.specs.Values.{FitsWritten}
use Rattle.ir_module.proofs.Each.{EachOf}
use Rattle.ir_rules.proofs.values.each_fits_written.Given as goal

abbrev pub invariant-loop-w : goal.invariant-loop-w
invariant-loop-w l = EachOf l.w-index l.ws (λ (k : ℕ) (w : Written). FitsWritten l.m l.numbers w)
