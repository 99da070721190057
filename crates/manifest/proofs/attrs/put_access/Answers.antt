use Rattle.std.proofs.Common.{sym, ap, ◌∙◌}
use Rattle.lattice_words.specs.Words.{has_bit}
use Rattle.manifest.specs.Attrs.{added, added_some, access_attr}
use Rattle.manifest.specs.Spelling.{spelled_behind, access_of}
use Rattle.manifest.proofs.Texts.{access_is}
use Rattle.manifest.proofs.attrs.put_access.Goals as goal

pub returns : goal.returns
returns c =
    let text = c.args.text.now.items in
    let r = c.has-unread.result in
    let w = c.has-unwritten.result in
    c.in_ok-put_word.ensures (access_of r w) (sym c.access_word.ensures) ∙
    (ap (λ d. spelled_behind text (added c.args.written d (access_of r w))) c.either-is_deduced.ensures ∙ (access_is r w c.args.written text ∙
    (ap (λ b. spelled_behind text (added_some c.args.written (access_attr b w))) c.has-unread.ensures ∙
    ap (λ b. spelled_behind text (added_some c.args.written (access_attr (has_bit c.args.word 45) b))) c.has-unwritten.ensures)))
