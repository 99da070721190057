use Rattle.std.proofs.Common.{subst}
use Rattle.ir_tree.specs.Steps.{Longest}
use Rattle.ir_tree.specs.Types.{ty}
use Rattle.ir_parse_top.proofs.LongestGlobals.{contents_no_type, contents_ends}
use Rattle.ir_parse_top.proofs.globals.typed.Goals as goal

pub returns-in_default : goal.returns-in_default
returns-in_default c = contents_no_type c.args.toks.now c.args.at (subst (Longest (ty c.args.toks.now) c.args.at) c.in_default.is c.in_ok-kind.ensures)

pub returns : goal.returns
returns c =
    let ts = c.args.toks.now in
    contents_ends ts c.args.at c.in-Some.value c.in_ok-initial.behind c.in_ok-ending.next c.in-Some.kind c.in_ok-initial.initial c.in_ok-ending.ending
    (subst (Longest (ty ts) c.args.at) c.in-Some.is c.in_ok-kind.ensures) c.in_ok-initial.ensures c.in_ok-ending.ensures
