use Rattle.std.proofs.Common.{sym, subst, inl, inr}
use Rattle.attrib.specs.Annotated.{IsAnnotated}
use Rattle.attrib.proofs.Refused.{no_line, only_memory}
use Rattle.attrib.proofs.run.answer.Goals as goal

pub returns-in-Ok-clause-fault : goal.returns-in-Ok-clause-fault
returns-in-Ok-clause-fault g c = λ is.
    let text = c.args.text.now in
    let form = c.args.asked.emit in
    let failed = c.print.ensures.fault (λ same. cc) in
    let annotated : IsAnnotated form text c.as_slice.result.now = subst (IsAnnotated form text) (sym c.as_slice.ensures) c.in-Ok.ensures.annotated in
    inl (failed.1, (c.as_slice.result.now, annotated, failed.2), failed.3)

pub returns-in-Err-clause-accepted : goal.returns-in-Err-clause-accepted
returns-in-Err-clause-accepted g c = λ is quiet.
    let text = c.args.text.now in
    let refused = c.refuse.ensures in
    inr (only_memory c.refuse.result (λ same. let told = refused.refused same in no_line text told.0 is told.1)
    (λ same. let told = refused.fault same in no_line text told.0 is told.1) refused.others)
