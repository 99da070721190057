use Rattle.std.proofs.Common.{◌≡◌, ◌++◌, Bool, refl, ap, ◌∙◌}
use Rattle.std.specs.Option.{is_some}
use Rattle.lattice_words.specs.Words.{has_bit}
use Rattle.facts.specs.Kinds.{FunctionFact, function_bit}
use Rattle.facts.specs.Facts.{nofree_of, noreturn_of, nounwind_of}
use Rattle.manifest.specs.Attrs.{Attr, added, memory_attrs}
use Rattle.manifest.specs.Function.{of_body}
use Rattle.manifest.specs.Call.{has_writable_arg}
use Rattle.manifest.specs.Ready.{set_of}
use Rattle.manifest.proofs.Texts.{first_words, more_words}
use Rattle.manifest.proofs.calls.words.Goals as goal

pub returns : goal.returns
returns c =
    let set = set_of c.args.held.now in
    let g = c.args.g.0 in
    let attrs = c.args.call.now.attrs in
    let nofree = added attrs.func.nofree (set (nofree_of g)) Attr.Nofree in
    let noreturn = added attrs.func.noreturn (set (noreturn_of g)) Attr.Noreturn in
    let nounwind = added attrs.func.nounwind (set (nounwind_of g)) Attr.Nounwind in
    let one = first_words c.new-text.result.items c.put_word.new.text.items (added attrs.func.nofree c.has.result Attr.Nofree) nofree c.new-text.ensures.items
    (c.in_ok-put_word.ensures Attr.Nofree refl) (ap (λ d. added attrs.func.nofree d Attr.Nofree) (c.has.ensures ∙ c.word-word.ensures 2)) in
    let two = more_words c.put_word.new.text.items c.put_word-2.new.text.items nofree (added attrs.func.noreturn c.has-2.result Attr.Noreturn) noreturn one
    (c.in_ok-put_word-2.ensures Attr.Noreturn refl) (ap (λ d. added attrs.func.noreturn d Attr.Noreturn) (c.has-2.ensures ∙ c.word-word.ensures 1)) in
    let three = more_words c.put_word-2.new.text.items c.put_word-3.new.text.items (nofree ++ noreturn)
    (added attrs.func.nounwind c.has-3.result Attr.Nounwind) nounwind two (c.in_ok-put_word-3.ensures Attr.Nounwind refl)
    (ap (λ d. added attrs.func.nounwind d Attr.Nounwind) (c.has-3.ensures ∙ c.word-word.ensures 0)) in
    let has : FunctionFact → Bool = λ kind. has_bit c.word-word.result (function_bit kind) in
    let kinds : has ≡ of_body set g = λ i kind. c.word-word.ensures (function_bit kind) i in
    more_words c.put_word-3.new.text.items c.put_memory_of.new.text.items (nofree ++ noreturn ++ nounwind)
    (memory_attrs c.is_some.result c.has_writable_arg-writable.result has)
    (memory_attrs (is_some attrs.func.memory) (has_writable_arg attrs.args) (of_body set g)) three c.in_ok-put_memory_of.ensures
    (ap (λ s. memory_attrs s c.has_writable_arg-writable.result has) c.is_some.ensures ∙
    (ap (λ w. memory_attrs (is_some attrs.func.memory) w has) (c.has_writable_arg-writable.ensures ∙ ap has_writable_arg c.as_slice.ensures) ∙
    ap (memory_attrs (is_some attrs.func.memory) (has_writable_arg attrs.args)) kinds))
