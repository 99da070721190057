use Rattle.std.proofs.Common.{◌≡◌, ◌++◌, Bool, refl, ap, ◌∙◌}
use Rattle.std.specs.Option.{is_some}
use Rattle.lattice_words.specs.Words.{has_bit}
use Rattle.facts.specs.Kinds.{FunctionFact, function_bit}
use Rattle.facts.specs.Facts.{nofree_of, noreturn_of, nounwind_of, unreached}
use Rattle.manifest.specs.Attrs.{Attr, added, memory_attrs}
use Rattle.manifest.specs.Function.{of_body, has_writable}
use Rattle.manifest.specs.Ready.{set_of}
use Rattle.manifest.proofs.Texts.{first_words, more_words}
use Rattle.manifest.proofs.functions.words.Goals as goal

pub returns : goal.returns
returns c =
    let set = set_of c.args.held.now in
    let f = c.args.f.0 in
    let func = c.args.func.now in
    let nofree = added func.attrs.nofree (set (nofree_of f)) Attr.Nofree in
    let norecurse = added func.attrs.norecurse (set (unreached c.args.held.now.m.now f f)) Attr.Norecurse in
    let noreturn = added func.attrs.noreturn (set (noreturn_of f)) Attr.Noreturn in
    let nounwind = added func.attrs.nounwind (set (nounwind_of f)) Attr.Nounwind in
    let one = first_words c.new-text.result.items c.put_word.new.text.items (added func.attrs.nofree c.has.result Attr.Nofree) nofree c.new-text.ensures.items
    (c.in_ok-put_word.ensures Attr.Nofree refl) (ap (λ d. added func.attrs.nofree d Attr.Nofree) (c.has.ensures ∙ c.word-word.ensures 2)) in
    let two = more_words c.put_word.new.text.items c.put_word-2.new.text.items nofree (added func.attrs.norecurse c.is_apart.result Attr.Norecurse) norecurse
    one (c.in_ok-put_word-2.ensures Attr.Norecurse refl) (ap (λ d. added func.attrs.norecurse d Attr.Norecurse) c.is_apart.ensures) in
    let three = more_words c.put_word-2.new.text.items c.put_word-3.new.text.items (nofree ++ norecurse)
    (added func.attrs.noreturn c.has-2.result Attr.Noreturn) noreturn two (c.in_ok-put_word-3.ensures Attr.Noreturn refl)
    (ap (λ d. added func.attrs.noreturn d Attr.Noreturn) (c.has-2.ensures ∙ c.word-word.ensures 1)) in
    let four = more_words c.put_word-3.new.text.items c.put_word-4.new.text.items (nofree ++ norecurse ++ noreturn)
    (added func.attrs.nounwind c.has-3.result Attr.Nounwind) nounwind three (c.in_ok-put_word-4.ensures Attr.Nounwind refl)
    (ap (λ d. added func.attrs.nounwind d Attr.Nounwind) (c.has-3.ensures ∙ c.word-word.ensures 0)) in
    let has : FunctionFact → Bool = λ kind. has_bit c.word-word.result (function_bit kind) in
    let kinds : has ≡ of_body set f = λ i kind. c.word-word.ensures (function_bit kind) i in
    more_words c.put_word-4.new.text.items c.put_memory_of.new.text.items (nofree ++ norecurse ++ noreturn ++ nounwind)
    (memory_attrs c.is_some.result c.has_writable-writable.result has) (memory_attrs (is_some func.attrs.memory) (has_writable func.params) (of_body set f))
    four c.in_ok-put_memory_of.ensures
    (ap (λ s. memory_attrs s c.has_writable-writable.result has) c.is_some.ensures ∙
    (ap (λ w. memory_attrs (is_some func.attrs.memory) w has) (c.has_writable-writable.ensures ∙ ap has_writable c.as_slice.ensures) ∙
    ap (memory_attrs (is_some func.attrs.memory) (has_writable func.params)) kinds))
