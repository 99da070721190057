use Rattle.std.proofs.Common.{◌++◌, ap, ◌∙◌}
use Rattle.manifest.specs.Spelling.{comma, access_word}
use Rattle.manifest.proofs.Texts.{item_stands, item_none}
use Rattle.manifest.proofs.spelling.put_item.Goals as goal

pub returns-in_ok-extend_from_slice-3 : goal.returns-in_ok-extend_from_slice-3
returns-in_ok-extend_from_slice-3 c =
    c.in_ok-extend_from_slice-3.ensures.items ∙
    (ap (λ w. c.extend_from_slice-then-stands.new.self.items ++ w) c.access_word.ensures ∙
    (ap (λ t. t ++ access_word c.args.access) (c.in_ok-extend_from_slice-2.ensures.items ∙
    ap (λ t. t ++ c.args.label.now) (c.in_ok-extend_from_slice.ensures.items ∙ ap (λ w. c.args.text.now.items ++ w) c.comma.ensures)) ∙
    item_stands c.args.text.now.items (comma c.args.behind) c.args.label.now (access_word c.args.access) c.args.stands c.if-stands.true))

pub returns-else-stands : goal.returns-else-stands
returns-else-stands c =
    item_none c.args.text.now.items (comma c.args.behind ++ c.args.label.now ++ access_word c.args.access) c.args.stands c.if-stands.false
