use Rattle.std.proofs.Common.{[], ◌∷◌}
use Rattle.ir_verify.specs.declared.rule.Rule.{Rule}
use Rattle.ir_verify.specs.declared.rule.Rule.TheVariants as rule
use Rattle.ir_verify.specs.Demands.{OfInstr}
use Rattle.ir_verify.specs.Verified.{placed}
use Rattle.ir_verify.proofs.Judged.{no_rules, rule_step}
use Rattle.ir_verify.proofs.instrs.of_operation.Goals as goal

pub returns : goal.returns
returns c = λ func block k seg i.
    let at = c.args.instr.now.span.from in
    let demands : Rule → Type 0 = OfInstr c.args.m.now c.args.numbers.now (placed func block k seg i c.args.instr.now) in
    (rule_step (rule.V9 ∷ rule.V10 ∷ rule.V11 ∷ rule.V14 ∷ rule.V15 ∷ rule.V16 ∷ rule.V19 ∷ []) rule.V8 at demands _ _ _ _
    c.is_on_integers.ensures c.unless-v8.ensures c.first_of-7.ensures
    (rule_step (rule.V10 ∷ rule.V11 ∷ rule.V14 ∷ rule.V15 ∷ rule.V16 ∷ rule.V19 ∷ []) rule.V9 at demands _ _ _ _
    c.casts.ensures c.unless-v9.ensures c.first_of-6.ensures
    (rule_step (rule.V11 ∷ rule.V14 ∷ rule.V15 ∷ rule.V16 ∷ rule.V19 ∷ []) rule.V10 at demands _ _ _ _
    c.has_pointer_address.ensures c.unless-v10.ensures c.first_of-5.ensures
    (rule_step (rule.V14 ∷ rule.V15 ∷ rule.V16 ∷ rule.V19 ∷ []) rule.V11 at demands _ _ _ _ c.indexes.ensures c.unless-v11.ensures c.first_of-4.ensures
    (rule_step (rule.V15 ∷ rule.V16 ∷ rule.V19 ∷ []) rule.V14 at demands _ _ _ _ c.selects.ensures c.unless-v14.ensures c.first_of-behind.ensures
    (rule_step (rule.V16 ∷ rule.V19 ∷ []) rule.V15 at demands _ _ _ _ c.calls_as_written.ensures c.unless-v15.ensures c.first_of-3.ensures
    (rule_step (rule.V19 ∷ []) rule.V16 at demands _ _ _ _ c.is_aligned.ensures c.unless-v16.ensures c.first_of-2.ensures
    (rule_step [] rule.V19 at demands _ _ _ _ c.is_pad_pair.ensures c.unless-v19.ensures c.first_of.ensures
    (no_rules at demands)))))))))
