use Rattle.std.proofs.Common.{ℕ}
use Rattle.ir_module.specs.declared.op.Written.{Written}
use Rattle.ir_operands.specs.Constants.{Keeps}
use Rattle.ir_module.proofs.Each.{EachOf}
use Rattle.ir_rules.proofs.values.each_keeps.Given as goal

abbrev pub invariant-loop-w : goal.invariant-loop-w
invariant-loop-w l = EachOf l.w-index l.ws (λ (k : ℕ) (w : Written). Keeps l.m.types l.numbers l.m.parts l.rule w)
