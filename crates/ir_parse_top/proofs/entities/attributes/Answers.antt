use Rattle.std.proofs.Common.{sym}
use Rattle.ir_parse_top.proofs.LongestEntities.{group_no_number, group_no_equals, group_no_brace, group_no_close, group_ends}
use Rattle.ir_parse_top.proofs.entities.attributes.Goals as goal

pub returns-in_default : goal.returns-in_default
returns-in_default c = group_no_number c.args.toks.now c.args.start c.args.first (sym c.requires.after) c.in_default.ensures.value

pub returns-in_default-the : goal.returns-in_default-the
returns-in_default-the c = group_no_equals c.args.toks.now c.args.start c.args.first (sym c.requires.after) c.in-Some.equals c.in-Some.ensures.value
    c.in_default-the.ensures.value

pub returns-in_default-the-2 : goal.returns-in_default-the-2
returns-in_default-the-2 c = group_no_brace c.args.toks.now c.args.start c.args.first (sym c.requires.after) c.in-Some.equals c.in-Some.ensures.value
    c.in-Some-the.brace c.in-Some-the.ensures.value c.in_default-the-2.ensures.value

pub returns-in_default-the-3 : goal.returns-in_default-the-3
returns-in_default-the-3 c = group_no_close c.args.toks.now c.args.start c.args.first (sym c.requires.after) c.in-Some.equals c.in-Some.ensures.value
    c.in-Some-the.brace c.in-Some-the.ensures.value c.in-Some-the-2.begin c.in_ok-words.close c.in-Some-the-2.ensures.value c.in_ok-words.words
    c.in_ok-words.ensures c.in_default-the-3.ensures.value

pub returns : goal.returns
returns c = group_ends c.args.toks.now c.args.start c.args.first (sym c.requires.after) c.in-Some.equals c.in-Some.ensures.value c.in-Some-the.brace
    c.in-Some-the.ensures.value c.in-Some-the-2.begin c.in_ok-words.close c.in-Some-the-2.ensures.value c.in_ok-words.words c.in_ok-words.ensures
    c.in-Some-the-3.next c.in-Some-the-3.ensures.value
