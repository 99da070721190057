use Rattle.std.proofs.Common.{◌&&◌, ◌||◌, refl, ap, ◌∙◌}
use Rattle.lattice_words.specs.Words.{has_bit}
use Rattle.manifest.specs.Attrs.{Attr, added}
use Rattle.manifest.specs.Spelling.{spelled_behind}
use Rattle.manifest.proofs.attrs.put_nocapture.Goals as goal

pub returns : goal.returns
returns c =
    let w = c.args.written.now in
    c.in_ok-put_word.ensures Attr.Nocapture refl ∙
    (ap (λ s. spelled_behind c.args.text.now.items (added s c.both-is_kept.result Attr.Nocapture)) c.either-is_written.ensures ∙
    ap (λ d. spelled_behind c.args.text.now.items (added (w.nocapture || w.captures) d Attr.Nocapture))
    (c.both-is_kept.ensures ∙ (ap (λ b. b && c.has-2.result) c.has.ensures ∙ ap (λ b. has_bit c.args.word 43 && b) c.has-2.ensures)))
