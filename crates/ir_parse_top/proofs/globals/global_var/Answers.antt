use Rattle.std.proofs.Common.{subst}
use Rattle.ir_tree.specs.Steps.{Longest}
use Rattle.ir_parse_top.specs.Parts.{introduced, typed}
use Rattle.ir_parse_top.proofs.LongestGlobals.{global_no_introduction, global_no_contents, global_ends}
use Rattle.ir_parse_top.proofs.globals.global_var.Goals as goal

pub returns-in_default : goal.returns-in_default
returns-in_default c = global_no_introduction c.args.toks.now c.args.at (subst (Longest (introduced c.args.toks.now) c.args.at) c.in_default.is
    c.in_ok-introduction.ensures)

pub returns-in_default-2 : goal.returns-in_default-2
returns-in_default-2 c =
    let ts = c.args.toks.now in
    global_no_contents ts c.args.at c.in-Some.first c.in-Some.introduction (subst (Longest (introduced ts) c.args.at) c.in-Some.is c.in_ok-introduction.ensures)
    (subst (Longest (typed ts) c.in-Some.first) c.in_default-2.is c.in_ok-contents.ensures)

pub returns : goal.returns
returns c =
    let ts = c.args.toks.now in
    global_ends ts c.args.at c.in-Some.first c.in-Some.introduction (subst (Longest (introduced ts) c.args.at) c.in-Some.is c.in_ok-introduction.ensures)
    c.in-Some-2.contents c.in-Some-2.next (subst (Longest (typed ts) c.in-Some.first) c.in-Some-2.is c.in_ok-contents.ensures)
