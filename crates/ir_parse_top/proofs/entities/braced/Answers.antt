use Rattle.std.proofs.Common.{subst}
use Rattle.ir_tree.specs.Steps.{Longest}
use Rattle.ir_tree.specs.Blocks.{body}
use Rattle.ir_parse_top.proofs.LongestEntities.{braced_no_open, braced_no_body, braced_no_close, braced_ends}
use Rattle.ir_parse_top.proofs.entities.braced.Goals as goal

pub returns-in_default : goal.returns-in_default
returns-in_default c = braced_no_open c.args.toks.now c.args.at c.in_default.ensures.value

pub returns-in_default-2 : goal.returns-in_default-2
returns-in_default-2 c =
    let ts = c.args.toks.now in
    braced_no_body ts c.args.at c.in-Some.begin c.in-Some.ensures.value (subst (Longest (body ts) c.in-Some.begin) c.in_default-2.is c.in_ok-body.ensures)

pub returns-in_default-the : goal.returns-in_default-the
returns-in_default-the c =
    let ts = c.args.toks.now in
    let l = subst (Longest (body ts) c.in-Some.begin) c.in-Some-2.is c.in_ok-body.ensures in
    braced_no_close ts c.args.at c.in-Some.begin c.in-Some.ensures.value c.in-Some-2.close c.in-Some-2.body l c.in_default-the.ensures.value

pub returns : goal.returns
returns c =
    let ts = c.args.toks.now in
    let l = subst (Longest (body ts) c.in-Some.begin) c.in-Some-2.is c.in_ok-body.ensures in
    braced_ends ts c.args.at c.in-Some.begin c.in-Some.ensures.value c.in-Some-2.close c.in-Some-2.body l c.in-Some-the.next c.in-Some-the.ensures.value
