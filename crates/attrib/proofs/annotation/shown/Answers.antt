use Rattle.std.proofs.Common.{◌≡◌, sym, subst, IfOk}
use Rattle.std.specs.List.{slice_index}
use Rattle.rule_says.specs.Reading.{facts_in}
use Rattle.attr_list.specs.Summed.{summary_text}
use Rattle.attrib.specs.Annotated.{IsShown}
use Rattle.attrib.proofs.Holding.{few_params}
use Rattle.attrib.proofs.annotation.shown.Goals as goal

pub summary-requires-clause-few_params : goal.summary-requires-clause-few_params
summary-requires-clause-few_params c = few_params c.args.ready.now.module c.requires.ready.accepted.limits

pub returns-in-Summary : goal.returns-in-Summary
returns-in-Summary c =
    let m = c.args.ready.now.module in
    let held = facts_in c.args.ready.now.positions (slice_index c.args.words.now) in
    let counted = subst (λ insertions. IfOk c.summary.result (λ out. out ≡ summary_text m held insertions)) c.requires.insertions c.summary.ensures in
    subst (λ form. IfOk c.summary.result (IsShown form c.args.text.now m held)) (sym c.in-Summary.is) counted
