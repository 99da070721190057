use Rattle.std.proofs.Common.{◌++◌, sym, ap, ◌∙◌}
use Rattle.manifest.specs.Spelling.{parted}
use Rattle.manifest.proofs.Texts.{is_added, not_added}
use Rattle.manifest.proofs.spelling.put_word.Goals as goal

pub returns-in_ok-extend_from_slice : goal.returns-in_ok-extend_from_slice
returns-in_ok-extend_from_slice c = λ attr is.
    c.in_ok-extend_from_slice.ensures.items ∙ (ap (λ t. t ++ c.args.word.now) c.in_ok-part.ensures ∙ (ap (λ w. parted c.args.text.now.items ++ w) (sym is) ∙
    is_added c.args.written c.args.deduced c.args.text.now.items attr (sym c.is_added.ensures ∙ c.if-is_added.true)))

pub returns-else-is_added : goal.returns-else-is_added
returns-else-is_added c = λ attr is. not_added c.args.written c.args.deduced c.args.text.now.items attr (sym c.is_added.ensures ∙ c.if-is_added.false)
