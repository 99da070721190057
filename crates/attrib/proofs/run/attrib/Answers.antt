use Rattle.std.proofs.Common.{◌≡◌, ap, sym, subst, inl, inr, ◌∙◌}
use Rattle.attrib.specs.Annotated.{IsAccepted}
use Rattle.attrib.specs.Run.{TellsText}
use Rattle.attrib.proofs.run.attrib.Goals as goal

pub returns-in-Ok-clause-refused : goal.returns-in-Ok-clause-refused
returns-in-Ok-clause-refused g c = λ e.
    let told = c.run.ensures.refused e in
    (told.0, (c.in-Ok.asked, c.in-Ok.ensures.asks, told.1), told.2)

pub returns-in-Ok-clause-write_fault : goal.returns-in-Ok-clause-write_fault
returns-in-Ok-clause-write_fault g c = λ e. elim (c.run.ensures.write_fault e) [
  | inl out ↦ inl (out.0, (out.1.0, (c.in-Ok.asked, c.in-Ok.ensures.asks, out.1.1), out.1.2), out.2)
  | inr errs ↦
      inr (
        errs.0,
        (
          errs.1.0,
          inr (elim errs.1.1 [
            | inl rose ↦ inl rose
            | inr line ↦ inr (c.in-Ok.asked, c.in-Ok.ensures.asks, line)
          ]),
          errs.1.2,
        ),
      )
]

pub returns-in-Ok-clause-made : goal.returns-in-Ok-clause-made
returns-in-Ok-clause-made g c = λ asked is count made.
    let same : c.in-Ok.asked ≡ asked = elim (c.in-Ok.ensures.taken asked is) [
      | inl ok ↦ (cc)
      | inr none ↦ absurd (cc)
    ] in
    c.run.ensures.unread count (ap (λ a. a.generate) same ∙ made)

pub returns-in-Ok-clause-accepted : goal.returns-in-Ok-clause-accepted
returns-in-Ok-clause-accepted g c = λ asked is tells.
    let bytes = (g.S.Source.stream c.args.source.now).bytes in
    let same : c.in-Ok.asked ≡ asked = elim (c.in-Ok.ensures.taken asked is) [
      | inl ok ↦ (cc)
      | inr none ↦ absurd (cc)
    ] in
    c.run.ensures.accepted (subst (λ a. TellsText a.generate bytes IsAccepted) (sym same) tells)

pub returns-in-Ok-clause-outside : goal.returns-in-Ok-clause-outside
returns-in-Ok-clause-outside g c = λ asked is tells.
    let bytes = (g.S.Source.stream c.args.source.now).bytes in
    let same : c.in-Ok.asked ≡ asked = elim (c.in-Ok.ensures.taken asked is) [
      | inl ok ↦ (cc)
      | inr none ↦ absurd (cc)
    ] in
    c.run.ensures.outside (subst (λ a. TellsText a.generate bytes (λ b. IsAccepted b → ⊥)) (sym same) tells)

pub returns-in-Err-Usage-clause-accepted : goal.returns-in-Err-Usage-clause-accepted
returns-in-Err-Usage-clause-accepted g c = λ asked is tells quiet silent. absurd (elim (c.in-Err-Usage.ensures.taken asked is) [
  | inl ok ↦ (cc)
  | inr none ↦ (cc)
])

pub returns-in-Err-Usage-clause-outside : goal.returns-in-Err-Usage-clause-outside
returns-in-Err-Usage-clause-outside g c = λ asked is tells quiet silent. absurd (elim (c.in-Err-Usage.ensures.taken asked is) [
  | inl ok ↦ (cc)
  | inr none ↦ (cc)
])
