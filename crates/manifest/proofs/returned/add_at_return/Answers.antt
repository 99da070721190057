use Rattle.std.proofs.Common.{◌≡◌, sym, ap, ◌∙◌}
use Rattle.lattice_words.specs.Words.{has_bit}
use Rattle.attr_ids.specs.declared.insertion.Place.TheVariants as place
use Rattle.facts.specs.Facts.{noreturn_of}
use Rattle.manifest.specs.Added.{Subject, put}
use Rattle.manifest.specs.Return.{return_attrs, of_returned}
use Rattle.manifest.specs.Ready.{set_of}
use Rattle.manifest.specs.Spelling.{words_of}
use Rattle.manifest.proofs.Joining.{left_out, left_in}
use Rattle.manifest.proofs.Rungs.{same_tests}
use Rattle.manifest.proofs.returned.add_at_return.Goals as goal

pub returns-then-holds : goal.returns-then-holds
returns-then-holds c = left_out c.args.out.now.items _ _ (sym c.holds.ensures ∙ c.if-holds.true)

pub returns : goal.returns
returns c =
    let set = set_of c.args.held.now in
    let f = c.args.f.0 in
    let written = c.args.func.now.ret_attrs in
    let same : has_bit c.word.result ≡ of_returned set f = same_tests (has_bit c.word.result) (of_returned set f) c.word.ensures in
    left_in c.args.out.now.items c.put.new.out.items (set (noreturn_of f)) (put c.args.func.now.places.ret place.Return (Subject.OfBody f)
    (return_attrs written (of_returned set f)))
    (sym c.holds.ensures ∙ c.if-holds.false)
    (c.in_ok-put.ensures (Subject.OfBody f) (return_attrs written (of_returned set f)) (c.in_ok-text.ensures ∙ ap (λ h. words_of
    (return_attrs written h)) same))
