use Rattle.std.proofs.Common.{sym}
use Rattle.ir_parse_top.proofs.LongestEntities.{filename_no_equals, filename_no_name, filename_ends}
use Rattle.ir_parse_top.proofs.entities.source_filename.Goals as goal

pub returns-in_default : goal.returns-in_default
returns-in_default c = filename_no_equals c.args.toks.now c.args.start c.args.first (sym c.requires.after) c.in_default.ensures.value

pub returns-in_default-the : goal.returns-in_default-the
returns-in_default-the c = filename_no_name c.args.toks.now c.args.start c.args.first (sym c.requires.after) c.in-Some.name c.in-Some.ensures.value
    c.in_default-the.ensures.value

pub returns : goal.returns
returns c = filename_ends c.args.toks.now c.args.start c.args.first (sym c.requires.after) c.in-Some.name c.in-Some.ensures.value c.in-Some-the.next
    c.in-Some-the.ensures.value
