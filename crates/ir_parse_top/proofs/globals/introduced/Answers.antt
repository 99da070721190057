use Rattle.ir_parse_top.proofs.LongestGlobals.{introduction_no_name, introduction_no_equals, introduction_no_kind, introduction_ends}
use Rattle.ir_parse_top.proofs.globals.introduced.Goals as goal

pub returns-in_default : goal.returns-in_default
returns-in_default c = introduction_no_name c.args.toks.now c.args.at c.in_default.ensures.value

pub returns-in_default-the : goal.returns-in_default-the
returns-in_default-the c = introduction_no_equals c.args.toks.now c.args.at c.in-Some.equals c.in-Some.ensures.value c.in_default-the.ensures.value

pub returns-in_default-the-2 : goal.returns-in_default-the-2
returns-in_default-the-2 c = introduction_no_kind c.args.toks.now c.args.at c.in-Some.equals c.in-Some.ensures.value c.in-Some-the.first
    c.in-Some-the.ensures.value c.optional-linkage.result.0 c.optional-linkage.result.1 c.optional-linkage.ensures c.in_ok-words.words c.in_ok-words.kind
    c.in_ok-words.ensures c.in_default-the-2.ensures.value

pub returns : goal.returns
returns c = introduction_ends c.args.toks.now c.args.at c.in-Some.equals c.in-Some.ensures.value c.in-Some-the.first c.in-Some-the.ensures.value
    c.optional-linkage.result.0 c.optional-linkage.result.1 c.optional-linkage.ensures c.in_ok-words.words c.in_ok-words.kind c.in_ok-words.ensures
    c.in-Some-the-2.next c.in-Some-the-2.ensures.value
