use Rattle.std.proofs.Common.{subst}
use Rattle.ir_tree.specs.Steps.{Longest}
use Rattle.ir_tree.specs.Constants.{const}
use Rattle.ir_parse_top.proofs.LongestGlobals.{initial_named, initial_none, initial_some}
use Rattle.ir_parse_top.proofs.globals.initial.Goals as goal

pub returns-then-names_next : goal.returns-then-names_next
returns-then-names_next c = initial_named c.args.toks.now c.args.at c.if-names_next.ensures

pub returns-in-Some : goal.returns-in-Some
returns-in-Some c = initial_some c.args.toks.now c.args.at c.if-names_next.ensures c.in-Some.found c.in-Some.next
    (subst (Longest (const c.args.toks.now) c.args.at) c.in-Some.is c.in_ok-found.ensures)

pub returns-in-None : goal.returns-in-None
returns-in-None c = initial_none c.args.toks.now c.args.at c.if-names_next.ensures (subst (Longest (const c.args.toks.now) c.args.at) c.in-None.is
    c.in_ok-found.ensures)
