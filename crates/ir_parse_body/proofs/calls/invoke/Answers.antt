use Rattle.std.proofs.Common.{subst}
use Rattle.ir_tree.specs.Steps.{Longest}
use Rattle.ir_tree.specs.Instructions.{called}
use Rattle.ir_parse_body.proofs.LongestCalls.{invoke_none_called, invoke_no_destinations, invoke_ends}
use Rattle.ir_parse_body.proofs.calls.invoke.Goals as goal

pub returns-in_default-2 : goal.returns-in_default-2
returns-in_default-2 c =
    let ts = c.args.toks.now in
    invoke_none_called ts c.args.at c.in-Some.first c.in-Some.ensures.value
    (subst (Longest (called ts) c.in-Some.first) c.in_default-2.is c.in_ok-called.ensures)

pub returns-in_default-destinations : goal.returns-in_default-destinations
returns-in_default-destinations c =
    let ts = c.args.toks.now in
    let l = subst (Longest (called ts) c.in-Some.first) c.in-Some-2.is c.in_ok-called.ensures in
    invoke_no_destinations ts c.args.at c.in-Some.first c.in-Some.ensures.value c.in-Some-2.called c.in-Some-2.to l c.in_default-destinations.ensures

pub returns : goal.returns
returns c =
    let ts = c.args.toks.now in
    let l = subst (Longest (called ts) c.in-Some.first) c.in-Some-2.is c.in_ok-called.ensures in
    invoke_ends ts c.args.at c.in-Some.first c.in-Some.ensures.value c.in-Some-2.called c.in-Some-2.to l
    (c.in-Some-destinations.normal, c.in-Some-destinations.unwind) c.in-Some-destinations.next c.in-Some-destinations.ensures
