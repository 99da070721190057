use Rattle.std.proofs.Common.{subst}
use Rattle.ir_tree.specs.Steps.{Longest}
use Rattle.ir_tree.specs.Instructions.{called}
use Rattle.ir_parse_body.proofs.LongestCalls.{call_no_op, call_none_called, call_ends}
use Rattle.ir_parse_body.proofs.calls.call.Goals as goal

pub returns-in_default : goal.returns-in_default
returns-in_default c = call_no_op c.args.toks.now c.args.at c.optional-tail.result.1 c.optional-tail.result.0 c.optional-tail.ensures c.in_default.ensures.value

pub returns-in_default-2 : goal.returns-in_default-2
returns-in_default-2 c =
    let ts = c.args.toks.now in
    call_none_called ts c.args.at c.optional-tail.result.1 c.optional-tail.result.0 c.optional-tail.ensures c.in-Some.first c.in-Some.ensures.value
    (subst (Longest (called ts) c.in-Some.first) c.in_default-2.is c.in_ok-called.ensures)

pub returns : goal.returns
returns c =
    let ts = c.args.toks.now in
    let l = subst (Longest (called ts) c.in-Some.first) c.in-Some-2.is c.in_ok-called.ensures in
    call_ends ts c.args.at c.optional-tail.result.1 c.optional-tail.result.0 c.optional-tail.ensures c.in-Some.first c.in-Some.ensures.value
    c.in-Some-2.called c.in-Some-2.next l
