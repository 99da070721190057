use Rattle.std.proofs.Common.{true, refl}
use Rattle.ir_operands.specs.Constants.{KeepsAlone}
use Rattle.ir_operands.proofs.Parts.{kept, itself}
use Rattle.ir_operands.proofs.walk.keeps.Goals as goal

pub returns-then-keeps_alone : goal.returns-then-keeps_alone
returns-then-keeps_alone c =
    kept (KeepsAlone c.args.types.now c.args.numbers.now c.args.parts.now c.args.rule) c.args.parts.now c.args.w.now c.own_run.result.first
    c.own_run.result.count true c.run_keeps.result c.own_run.ensures.first c.own_run.ensures.count
    (λ t. c.keeps_alone.ensures.0 c.if-keeps_alone.true, λ p. refl) c.run_keeps.ensures

pub returns-else-keeps_alone : goal.returns-else-keeps_alone
returns-else-keeps_alone c = (
  λ t. let no : ⊥ = cc in absurd no,
  λ h. c.keeps_alone.ensures.1 (itself (KeepsAlone c.args.types.now c.args.numbers.now c.args.parts.now c.args.rule) c.args.parts.now c.args.w.now h),
)
