use Rattle.ir_parse_body.proofs.LongestCalls.{arguments_no_close, arguments_ends}
use Rattle.ir_parse_body.proofs.calls.arguments.Goals as goal

pub returns-in_default-the : goal.returns-in_default-the
returns-in_default-the c =
    arguments_no_close c.args.toks.now c.args.at c.in-Some.first c.in-Some.ensures.value c.in_ok-args.args c.in_ok-args.close c.in_ok-args.ensures
    c.in_default-the.ensures.value

pub returns : goal.returns
returns c =
    arguments_ends c.args.toks.now c.args.at c.in-Some.first c.in-Some.ensures.value c.in_ok-args.args c.in_ok-args.close c.in_ok-args.ensures
    c.in-Some-the.behind c.in-Some-the.ensures.value c.in_ok-attributes.attributes c.in_ok-attributes.next c.in_ok-attributes.ensures
