use Rattle.std.proofs.Common.{ℕ}
use Rattle.ir_module.specs.declared.op.Written.{Written}
use Rattle.ir_operands.specs.Types.{IsInteger, type_of}
use Rattle.ir_module.proofs.Each.{EachOf}
use Rattle.ir_rules.proofs.operations.are_integer_operands.Given as goal

abbrev pub invariant-loop-w : goal.invariant-loop-w
invariant-loop-w l = EachOf l.w-index l.ws (λ (k : ℕ) (w : Written). IsInteger (type_of l.m.types w.ty))
