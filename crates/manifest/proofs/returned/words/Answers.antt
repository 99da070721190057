use Rattle.std.proofs.Common.{◌++◌, refl}
use Rattle.lattice_words.specs.Words.{has_bit}
use Rattle.manifest.specs.Attrs.{align_attrs, bytes_attrs, nonnull_attrs}
use Rattle.manifest.proofs.Texts.{first_words, more_words}
use Rattle.manifest.proofs.returned.words.Goals as goal

pub returns : goal.returns
returns c =
    let w = c.args.written.now in
    let has = has_bit c.args.word in
    let align = align_attrs w has in
    let bytes = bytes_attrs w has in
    let nonnull = nonnull_attrs w has in
    let one = first_words c.new-text.result.items c.put_align.new.text.items align align c.new-text.ensures.items c.in_ok-put_align.ensures refl in
    let two = more_words c.put_align.new.text.items c.put_bytes.new.text.items align bytes bytes one c.in_ok-put_bytes.ensures refl in
    more_words c.put_bytes.new.text.items c.put_nonnull.new.text.items (align ++ bytes) nonnull nonnull two c.in_ok-put_nonnull.ensures refl
