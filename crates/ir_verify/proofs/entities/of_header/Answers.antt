use Rattle.std.proofs.Common.{[], ◌∷◌}
use Rattle.ir_verify.specs.declared.rule.Rule.{Rule}
use Rattle.ir_verify.specs.declared.rule.Rule.TheVariants as rule
use Rattle.ir_verify.specs.Demands.{OfHeader, header_rules}
use Rattle.ir_verify.proofs.Judged.{no_rules, rule_step, all_rules}
use Rattle.ir_verify.proofs.Covers.{header_covers}
use Rattle.ir_verify.proofs.entities.of_header.Goals as goal

pub returns : goal.returns
returns c =
    let at = c.args.func.now.at in
    let demands : Rule → Type 0 = OfHeader c.args.m.now c.args.numbers.now c.args.f.0 c.args.func.now in
    all_rules header_rules at demands _ (header_covers c.args.m.now c.args.numbers.now c.args.f.0 c.args.func.now)
    (rule_step (rule.V2 ∷ rule.V3 ∷ rule.V7 ∷ rule.V11 ∷ rule.V16 ∷ rule.V17 ∷ rule.V21 ∷ []) rule.V1 at demands _ _ _ _
    c.has_scalar_header.ensures c.unless-v1.ensures c.first_of-7.ensures
    (rule_step (rule.V3 ∷ rule.V7 ∷ rule.V11 ∷ rule.V16 ∷ rule.V17 ∷ rule.V21 ∷ []) rule.V2 at demands _ _ _ _
    c.header_keeps.ensures c.unless-v2.ensures c.first_of-6.ensures
    (rule_step (rule.V7 ∷ rule.V11 ∷ rule.V16 ∷ rule.V17 ∷ rule.V21 ∷ []) rule.V3 at demands _ _ _ _
    c.has_linkage.ensures c.unless-v3.ensures c.first_of-5.ensures
    (rule_step (rule.V11 ∷ rule.V16 ∷ rule.V17 ∷ rule.V21 ∷ []) rule.V7 at demands _ _ _ _ c.header_keeps-2.ensures c.unless-v7.ensures c.first_of-4.ensures
    (rule_step (rule.V16 ∷ rule.V17 ∷ rule.V21 ∷ []) rule.V11 at demands _ _ _ _ c.header_keeps-3.ensures c.unless-v11.ensures c.first_of-behind.ensures
    (rule_step (rule.V17 ∷ rule.V21 ∷ []) rule.V16 at demands _ _ _ _ c.has_good_header.ensures c.unless-v16.ensures c.first_of-3.ensures
    (rule_step (rule.V21 ∷ []) rule.V17 at demands _ _ _ _ c.header_keeps-4.ensures c.unless-v17.ensures c.first_of-2.ensures
    (rule_step [] rule.V21 at demands _ _ _ _ c.has_personality.ensures c.unless-v21.ensures c.first_of.ensures
    (no_rules at demands)))))))))
