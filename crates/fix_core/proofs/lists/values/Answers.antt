use Rattle.std.proofs.Common.{[], ◌∷◌, ◌++◌, ap, sym, ◌∙◌}
use Rattle.fix_core.proofs.Gathered.{values_more, all_more, not_all}
use Rattle.fix_core.proofs.lists.values.Goals as goal

pub returns-in_default : goal.returns-in_default
returns-in_default c = not_all c.args.looked.now c.loop-value.value-index _ c.loop-value-test.true c.in_default.is

pub loop-value-preserved : goal.loop-value-preserved
loop-value-preserved c = record {
  words = c.in_ok-push.ensures.ok ∙ ap (λ xs. xs ++ c.in-Some.word ∷ []) c.loop-value.invariant.words ∙
      sym (values_more c.args.looked.now c.loop-value.value-index c.in-Some.word _ c.loop-value-test.true c.in-Some.is);
  all = all_more c.args.looked.now c.loop-value.value-index c.in-Some.word _ c.loop-value-test.true c.in-Some.is ∙ c.loop-value.invariant.all;
}
