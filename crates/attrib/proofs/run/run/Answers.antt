use Rattle.std.proofs.Common.{◌≡◌, ap, refl, sym, subst, inl, inr, Err}
use Rattle.attr_io.specs.Outside.{Stream}
use Rattle.attrib.specs.Annotated.{IsAccepted}
use Rattle.attrib.specs.Run.{IsInput}
use Rattle.attrib.proofs.Stopped.{fails}
use Rattle.attrib.proofs.run.run.Goals as goal

pub returns-in-Ok-clause-refused : goal.returns-in-Ok-clause-refused
returns-in-Ok-clause-refused g c = λ e.
    let old : Stream = g.S.Source.stream c.args.source.now in
    let new : Stream = g.S.Source.stream c.input.new.source in
    let text = c.as_slice.result.now in
    let is : IsInput c.args.asked.generate old new text = subst (IsInput c.args.asked.generate old new) (sym c.as_slice.ensures) c.in-Ok.ensures.is in
    let told = c.answer.ensures.refused e in
    (told.0, inl (text, is, told.1), told.2)

pub returns-in-Ok-clause-write_fault : goal.returns-in-Ok-clause-write_fault
returns-in-Ok-clause-write_fault g c = λ e.
    let old : Stream = g.S.Source.stream c.args.source.now in
    let new : Stream = g.S.Source.stream c.input.new.source in
    let text = c.as_slice.result.now in
    let is : IsInput c.args.asked.generate old new text = subst (IsInput c.args.asked.generate old new) (sym c.as_slice.ensures) c.in-Ok.ensures.is in
    elim (c.answer.ensures.fault e) [
      | inl out ↦ inl (out.0, (out.1.0, (text, is, out.1.1), out.1.2), out.2)
      | inr errs ↦ inr (errs.0, (errs.1.0, inr (inl (text, is, errs.1.1)), errs.1.2))
    ]

pub returns-in-Ok-clause-accepted : goal.returns-in-Ok-clause-accepted
returns-in-Ok-clause-accepted g c = λ tells quiet silent. elim (c.in-Ok.ensures.accepted tells quiet) [
  | inl read ↦
      let is : c.as_slice.result.now ≡ read.0 = (let same = read.1 in let whole = c.as_slice.ensures in cc) in
      c.answer.ensures.accepted (subst IsAccepted (sym is) read.2) silent
  | inr none ↦ absurd (cc)
]

pub returns-in-Err-clause-write_fault : goal.returns-in-Err-clause-write_fault
returns-in-Err-clause-write_fault g c = λ is. inr (
  refl,
  fails c.args.asked.generate (g.S.Source.stream c.args.source.now) (g.S.Source.stream c.input.new.source) (g.E.Sink.stream c.args.errs.now)
      (g.E.Sink.stream c.end_reading.new.errs) c.end_reading.result c.in-Err.stop (record {
        failed = λ stop. c.in-Err.ensures.failed (ap Err stop);
        large = λ stop. c.in-Err.ensures.too_large (ap Err stop);
        of_failed = c.end_reading.ensures.failed;
        of_large = c.end_reading.ensures.large;
        of_memory = c.end_reading.ensures.memory;
      }) is,
)
