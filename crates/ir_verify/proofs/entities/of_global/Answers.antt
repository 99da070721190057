use Rattle.std.proofs.Common.{[], ◌∷◌}
use Rattle.ir_verify.specs.declared.rule.Rule.{Rule}
use Rattle.ir_verify.specs.declared.rule.Rule.TheVariants as rule
use Rattle.ir_verify.specs.Demands.{OfGlobal, global_rules}
use Rattle.ir_verify.proofs.Judged.{no_rules, rule_step, all_rules}
use Rattle.ir_verify.proofs.Covers.{global_covers}
use Rattle.ir_verify.proofs.entities.of_global.Goals as goal

pub returns : goal.returns
returns c =
    let at = c.args.global.now.at in
    let demands : Rule → Type 0 = OfGlobal c.args.m.now c.args.numbers.now c.args.global.now in
    all_rules global_rules at demands _ (global_covers c.args.m.now c.args.numbers.now c.args.global.now)
    (rule_step (rule.V2 ∷ rule.V3 ∷ rule.V7 ∷ rule.V11 ∷ rule.V16 ∷ rule.V17 ∷ []) rule.V1 at demands _ _ _ _
    c.is_scalar_init.ensures c.unless-v1.ensures c.first_of-7.ensures
    (rule_step (rule.V3 ∷ rule.V7 ∷ rule.V11 ∷ rule.V16 ∷ rule.V17 ∷ []) rule.V2 at demands _ _ _ _
    c.is_sized_global.ensures c.unless-v2.ensures c.first_of-6.ensures
    (rule_step (rule.V7 ∷ rule.V11 ∷ rule.V16 ∷ rule.V17 ∷ []) rule.V3 at demands _ _ _ _ c.has_init.ensures c.unless-v3.ensures c.first_of-5.ensures
    (rule_step (rule.V11 ∷ rule.V16 ∷ rule.V17 ∷ []) rule.V7 at demands _ _ _ _ c.init_keeps.ensures c.unless-v7.ensures c.first_of-4.ensures
    (rule_step (rule.V16 ∷ rule.V17 ∷ []) rule.V11 at demands _ _ _ _ c.init_keeps-2.ensures c.unless-v11.ensures c.first_of-3.ensures
    (rule_step (rule.V17 ∷ []) rule.V16 at demands _ _ _ _ c.is_aligned_global.ensures c.unless-v16.ensures c.first_of-2.ensures
    (rule_step [] rule.V17 at demands _ _ _ _ c.init_keeps-3.ensures c.unless-v17.ensures c.first_of.ensures
    (no_rules at demands))))))))
