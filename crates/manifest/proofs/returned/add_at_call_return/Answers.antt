use Rattle.std.proofs.Common.{◌≡◌, sym, ap, ◌∙◌}
use Rattle.std.specs.Option.{option_map}
use Rattle.lattice_words.specs.Words.{has_bit}
use Rattle.attr_ids.specs.declared.insertion.Place.TheVariants as place
use Rattle.facts.specs.Facts.{noreturn_of}
use Rattle.manifest.specs.Added.{Subject, put}
use Rattle.manifest.specs.Return.{return_attrs, of_returned, at_call_return}
use Rattle.manifest.specs.Ready.{set_of}
use Rattle.manifest.specs.Spelling.{words_of}
use Rattle.manifest.proofs.Joining.{left_out, left_in, same_added}
use Rattle.manifest.proofs.Rungs.{same_tests}
use Rattle.manifest.proofs.returned.add_at_call_return.Goals as goal

pub returns-then-holds : goal.returns-then-holds
returns-then-holds c = λ s.
    same_added c.args.out.now.items c.args.out.now.items _ _ (left_out c.args.out.now.items _ _ (sym c.holds.ensures ∙ c.if-holds.true))
    (ap (λ o. at_call_return (set_of c.args.held.now) s c.args.call.now (option_map (λ g. g.0) o)) (sym c.in-Some.is))

pub returns : goal.returns
returns c = λ s.
    let set = set_of c.args.held.now in
    let g = c.in-Some.g.0 in
    let written = c.args.call.now.attrs.ret in
    let same : has_bit c.word.result ≡ of_returned set g = same_tests (has_bit c.word.result) (of_returned set g) c.word.ensures in
    same_added c.args.out.now.items c.put.new.out.items _ _
    (left_in c.args.out.now.items c.put.new.out.items (set (noreturn_of g))
    (put c.args.call.now.places.ret place.CallReturn (Subject.OfCall s) (return_attrs written (of_returned set g))) (sym c.holds.ensures ∙ c.if-holds.false)
    (c.in_ok-put.ensures (Subject.OfCall s) (return_attrs written (of_returned set g)) (c.in_ok-text.ensures ∙ ap (λ h. words_of
    (return_attrs written h)) same)))
    (ap (λ o. at_call_return set s c.args.call.now (option_map (λ g. g.0) o)) (sym c.in-Some.is))
