use Rattle.ir_parse_top.proofs.LongestHeaders.{signature_no_name, signature_no_open, signature_no_close, signature_ends}
use Rattle.ir_parse_top.proofs.headers.named_params.Goals as goal

pub returns-in_default : goal.returns-in_default
returns-in_default c = signature_no_name c.args.toks.now c.args.at c.in_default.ensures.value

pub returns-in_default-the : goal.returns-in_default-the
returns-in_default-the c = signature_no_open c.args.toks.now c.args.at c.in-Some.open c.in-Some.ensures.value c.in_default-the.ensures.value

pub returns-in_default-the-2 : goal.returns-in_default-the-2
returns-in_default-the-2 c = signature_no_close c.args.toks.now c.args.at c.in-Some.open c.in-Some.ensures.value c.in-Some-the.first c.in-Some-the.ensures.value
    c.in_ok-params.params c.in_ok-params.close c.in_ok-params.ensures c.in_default-the-2.ensures.value

pub returns : goal.returns
returns c = signature_ends c.args.toks.now c.args.at c.in-Some.open c.in-Some.ensures.value c.in-Some-the.first c.in-Some-the.ensures.value
    c.in_ok-params.params c.in_ok-params.close c.in_ok-params.ensures c.in-Some-the-2.next c.in-Some-the-2.ensures.value
