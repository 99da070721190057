use Rattle.std.proofs.Common.{subst}
use Rattle.ir_tree.specs.Steps.{Longest}
use Rattle.ir_tree.specs.Constants.{tconst}
use Rattle.ir_parse_top.proofs.LongestHeaders.{extra_no_word, extra_no_value, extra_ends}
use Rattle.ir_parse_top.proofs.headers.extra.Goals as goal

pub returns-in_default : goal.returns-in_default
returns-in_default c = extra_no_word c.args.toks.now c.args.at c.in_default.ensures.value

pub returns-in_default-2 : goal.returns-in_default-2
returns-in_default-2 c = extra_no_value c.args.toks.now c.args.at c.in-Some.first c.in-Some.ensures.value
    (subst (Longest (tconst c.args.toks.now) c.in-Some.first) c.in_default-2.is c.in_ok-value.ensures)

pub returns : goal.returns
returns c = extra_ends c.args.toks.now c.args.at c.in-Some.first c.in-Some.ensures.value c.in-Some-2.value c.in-Some-2.next
    (subst (Longest (tconst c.args.toks.now) c.in-Some.first) c.in-Some-2.is c.in_ok-value.ensures)
