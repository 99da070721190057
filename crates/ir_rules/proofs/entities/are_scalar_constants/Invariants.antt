use Rattle.std.proofs.Common.{ℕ}
use Rattle.ir_module.specs.declared.op.Written.{Written}
use Rattle.ir_operands.specs.declared.rule.Site.TheVariants as site
use Rattle.ir_operands.specs.Constants.{IsScalarOperand}
use Rattle.ir_module.proofs.Each.{EachOf}
use Rattle.ir_rules.proofs.entities.are_scalar_constants.Given as goal

abbrev pub invariant-loop-w : goal.invariant-loop-w
invariant-loop-w l = EachOf l.w-index l.ws (λ (k : ℕ) (w : Written). IsScalarOperand l.m.types l.numbers l.m.parts site.Plain w)
