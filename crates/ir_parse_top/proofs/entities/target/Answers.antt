use Rattle.std.proofs.Common.{sym}
use Rattle.ir_parse_top.proofs.LongestEntities.{target_no_part, target_no_equals, target_no_text, target_ends}
use Rattle.ir_parse_top.proofs.entities.target.Goals as goal

pub returns-in_default : goal.returns-in_default
returns-in_default c = target_no_part c.args.toks.now c.args.start c.args.first (sym c.requires.after) c.in_default.ensures.value

pub returns-in_default-the : goal.returns-in_default-the
returns-in_default-the c = target_no_equals c.args.toks.now c.args.start c.args.first (sym c.requires.after) c.in-Some.equals c.in-Some.ensures.value
    c.in_default-the.ensures.value

pub returns-in_default-the-2 : goal.returns-in_default-the-2
returns-in_default-the-2 c = target_no_text c.args.toks.now c.args.start c.args.first (sym c.requires.after) c.in-Some.equals c.in-Some.ensures.value
    c.in-Some-the.text c.in-Some-the.ensures.value c.in_default-the-2.ensures.value

pub returns : goal.returns
returns c = target_ends c.args.toks.now c.args.start c.args.first (sym c.requires.after) c.in-Some.equals c.in-Some.ensures.value c.in-Some-the.text
    c.in-Some-the.ensures.value c.in-Some-the-2.next c.in-Some-the-2.ensures.value
