use Rattle.ir_parse_top.proofs.LongestGlobals.{behind_initial_ends}
use Rattle.ir_parse_top.proofs.globals.behind_initial.Goals as goal

pub returns : goal.returns
returns c =
    behind_initial_ends c.args.toks.now c.args.at c.in_ok-tails.last c.in_ok-groups.next c.in_ok-tails.tails c.in_ok-groups.groups c.in_ok-tails.ensures
    c.in_ok-groups.ensures
