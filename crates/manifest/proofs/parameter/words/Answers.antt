use Rattle.std.proofs.Common.{◌++◌, ◌||◌, refl, ap}
use Rattle.lattice_words.specs.Words.{has_bit}
use Rattle.manifest.specs.Attrs.{Attr, added, has_access, align_attrs, bytes_attrs, nocapture_attrs, nonnull_attrs, access_attrs}
use Rattle.manifest.proofs.Texts.{first_words, more_words}
use Rattle.manifest.proofs.parameter.words.Goals as goal

pub returns : goal.returns
returns c =
    let w = c.args.p.now.attrs in
    let has = has_bit c.args.entry in
    let uses = has_bit c.args.value in
    let align = align_attrs w has in
    let bytes = bytes_attrs w has in
    let nocapture = nocapture_attrs w uses in
    let nonnull = nonnull_attrs w has in
    let access = access_attrs (has_access w) uses in
    let returned = added (w.sret || w.writable) c.args.is_returned Attr.Returned in
    let one = first_words c.new-text.result.items c.put_align.new.text.items align align c.new-text.ensures.items c.in_ok-put_align.ensures refl in
    let two = more_words c.put_align.new.text.items c.put_bytes.new.text.items align bytes bytes one c.in_ok-put_bytes.ensures refl in
    let three = more_words c.put_bytes.new.text.items c.put_nocapture.new.text.items (align ++ bytes) nocapture nocapture two
    c.in_ok-put_nocapture.ensures refl in
    let four = more_words c.put_nocapture.new.text.items c.put_nonnull.new.text.items (align ++ bytes ++ nocapture) nonnull nonnull three
    c.in_ok-put_nonnull.ensures refl in
    let five = more_words c.put_nonnull.new.text.items c.put_access.new.text.items (align ++ bytes ++ nocapture ++ nonnull)
    (access_attrs c.has_access.result uses) access four c.in_ok-put_access.ensures (ap (λ b. access_attrs b uses) c.has_access.ensures) in
    more_words c.put_access.new.text.items c.put_word.new.text.items (align ++ bytes ++ nocapture ++ nonnull ++ access)
    (added c.either-is_refused.result c.args.is_returned Attr.Returned) returned five
    (c.in_ok-put_word.ensures Attr.Returned refl) (ap (λ b. added b c.args.is_returned Attr.Returned) c.either-is_refused.ensures)
