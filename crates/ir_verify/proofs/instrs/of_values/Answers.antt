use Rattle.std.proofs.Common.{[], ◌∷◌}
use Rattle.ir_verify.specs.declared.rule.Rule.{Rule}
use Rattle.ir_verify.specs.declared.rule.Rule.TheVariants as rule
use Rattle.ir_verify.specs.Demands.{OfInstr}
use Rattle.ir_verify.specs.Verified.{placed}
use Rattle.ir_verify.proofs.Judged.{no_rules, rule_step}
use Rattle.ir_verify.proofs.instrs.of_values.Goals as goal

pub returns : goal.returns
returns c = λ func block k seg i.
    let at = c.args.instr.now.span.from in
    let demands : Rule → Type 0 = OfInstr c.args.m.now c.args.numbers.now (placed func block k seg i c.args.instr.now) in
    (rule_step (rule.V2 ∷ rule.V7 ∷ rule.V17 ∷ []) rule.V1 at demands _ _ _ _ c.has_scalars.ensures c.unless-v1.ensures c.first_of-4.ensures
    (rule_step (rule.V7 ∷ rule.V17 ∷ []) rule.V2 at demands _ _ _ _ c.has_sizes.ensures c.unless-v2.ensures c.first_of-3.ensures
    (rule_step (rule.V17 ∷ []) rule.V7 at demands _ _ _ _ c.has_written_types.ensures c.unless-v7.ensures c.first_of-2.ensures
    (rule_step [] rule.V17 at demands _ _ _ _ c.has_fitting_literals.ensures c.unless-v17.ensures c.first_of.ensures
    (no_rules at demands)))))
