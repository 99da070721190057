use Rattle.std.proofs.Common.{refl, ap, ◌∙◌}
use Rattle.manifest.specs.Attrs.{Attr, added}
use Rattle.manifest.specs.Spelling.{spelled_behind}
use Rattle.manifest.proofs.attrs.put_nonnull.Goals as goal

pub returns : goal.returns
returns c = c.in_ok-put_word.ensures Attr.Nonnull refl ∙
    ap (λ d. spelled_behind c.args.text.now.items (added c.args.written.now.nonnull d Attr.Nonnull)) c.has.ensures
