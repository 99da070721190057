use Rattle.std.proofs.Common.{subst}
use Rattle.ir_tree.specs.Steps.{Longest}
use Rattle.ir_tree.specs.Types.{ty}
use Rattle.ir_tree.specs.Values.{value}
use Rattle.ir_parse_body.proofs.LongestCalls.{callee_no_type, callee_no_value, callee_ends}
use Rattle.ir_parse_body.proofs.calls.callee.Goals as goal

pub returns-in_default : goal.returns-in_default
returns-in_default c =
    let ts = c.args.toks.now in
    callee_no_type ts c.args.at c.calling_convention-cc.result.1 c.calling_convention-cc.result.0 c.calling_convention-cc.ensures c.in_ok-result_words.kind
    c.in_ok-result_words.result_words c.in_ok-result_words.ensures (subst (Longest (ty ts) c.in_ok-result_words.kind) c.in_default.is c.in_ok-result.ensures)

pub returns-in_default-2 : goal.returns-in_default-2
returns-in_default-2 c =
    let ts = c.args.toks.now in
    callee_no_value ts c.args.at c.calling_convention-cc.result.1 c.calling_convention-cc.result.0 c.calling_convention-cc.ensures c.in_ok-result_words.kind
    c.in_ok-result_words.result_words c.in_ok-result_words.ensures c.in-Some.result c.in-Some.behind
    (subst (Longest (ty ts) c.in_ok-result_words.kind) c.in-Some.is c.in_ok-result.ensures) c.in_ok-params.params c.in_ok-params.named c.in_ok-params.ensures
    (subst (Longest (value ts) c.in_ok-params.named) c.in_default-2.is c.in_ok-value.ensures)

pub returns : goal.returns
returns c =
    let ts = c.args.toks.now in
    callee_ends ts c.args.at c.calling_convention-cc.result.1 c.calling_convention-cc.result.0 c.calling_convention-cc.ensures c.in_ok-result_words.kind
    c.in_ok-result_words.result_words c.in_ok-result_words.ensures c.in-Some.result c.in-Some.behind
    (subst (Longest (ty ts) c.in_ok-result_words.kind) c.in-Some.is c.in_ok-result.ensures) c.in_ok-params.params c.in_ok-params.named c.in_ok-params.ensures
    c.in-Some-2.value c.in-Some-2.next (subst (Longest (value ts) c.in_ok-params.named) c.in-Some-2.is c.in_ok-value.ensures)
