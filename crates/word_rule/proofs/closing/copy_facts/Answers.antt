use Rattle.std.proofs.Common.{◌+◌, ◌++◌, ◌∷◌, [], length, ap, ◌∙◌}
use Rattle.std.specs.Mem.Slots.{slots_items}
use Rattle.std.proofs.lemmas.List.{length_push}
use Rattle.fix_core.specs.Machine.{facts_of}
use Rattle.word_rule.proofs.Beginning.{facts_more}
use Rattle.word_rule.proofs.closing.copy_facts.Goals as goal

pub loop-p-preserved : goal.loop-p-preserved
loop-p-preserved c =
    let word = facts_of c.word.result in (
      c.push_reserved.ensures.items ∙ ap (λ xs. xs ++ word ∷ []) c.loop-p.invariant.0 ∙
          facts_more (slots_items c.args.closed.now.words) c.loop-p.p c.word.result c.word.ensures,
      ap length c.push_reserved.ensures.items ∙ length_push c.loop-p.into.items word ∙ ap (λ n. n + 1) c.loop-p.invariant.1,
      c.push_reserved.ensures.capacity ∙ c.loop-p.invariant.2,
    )
