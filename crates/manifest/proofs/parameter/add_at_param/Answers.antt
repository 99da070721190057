use Rattle.std.proofs.Common.{◌≡◌, ap, ◌∙◌}
use Rattle.lattice_words.specs.Words.{has_bit}
use Rattle.manifest.specs.Added.{Subject}
use Rattle.manifest.specs.Parameter.{param_attrs, param_attrs_by, of_entry, of_param}
use Rattle.manifest.specs.Ready.{set_of}
use Rattle.manifest.specs.Spelling.{words_of}
use Rattle.manifest.proofs.Rungs.{same_tests}
use Rattle.manifest.proofs.parameter.add_at_param.Goals as goal

pub returns : goal.returns
returns c =
    let set = set_of c.args.held.now in
    let p = c.args.p.now in
    let entry : has_bit c.entry_word-entry.result ≡ of_entry set c.args.f.0 c.args.at = same_tests _
    (of_entry set c.args.f.0 c.args.at) c.entry_word-entry.ensures in
    let uses : has_bit c.value_word-value.result ≡ of_param set p = same_tests _ (of_param set p) c.value_word-value.ensures in
    c.in_ok-put.ensures (Subject.OfParam c.args.f.0 c.args.at) (param_attrs set c.args.f.0 c.args.returned c.args.at p)
    (c.in_ok-text.ensures ∙ (ap (λ h. words_of (param_attrs_by p h (has_bit c.value_word-value.result) c.is_number.result)) entry ∙
    (ap (λ h. words_of (param_attrs_by p (of_entry set c.args.f.0 c.args.at) h c.is_number.result)) uses ∙
    ap (λ b. words_of (param_attrs_by p (of_entry set c.args.f.0 c.args.at) (of_param set p) b)) c.is_number.ensures)))
