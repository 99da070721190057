use Rattle.ir_parse_body.proofs.LongestTerms.{table_no_close, table_ends}
use Rattle.ir_parse_body.proofs.terms.table.Goals as goal

pub returns-in_default-the-2 : goal.returns-in_default-the-2
returns-in_default-the-2 c = table_no_close c.args.toks.now c.args.at c.in-Some.label c.in-Some.ensures.value c.in-Some-target.other c.in-Some-target.bracket
    c.in-Some-target.ensures c.in-Some-the.first c.in_ok-cases.close c.in-Some-the.ensures.value c.in_ok-cases.cases c.in_ok-cases.ensures
    c.in_default-the-2.ensures.value

pub returns : goal.returns
returns c = table_ends c.args.toks.now c.args.at c.in-Some.label c.in-Some.ensures.value c.in-Some-target.other c.in-Some-target.bracket
    c.in-Some-target.ensures c.in-Some-the.first c.in_ok-cases.close c.in-Some-the.ensures.value c.in_ok-cases.cases c.in_ok-cases.ensures c.in-Some-the-2.next
    c.in-Some-the-2.ensures.value
