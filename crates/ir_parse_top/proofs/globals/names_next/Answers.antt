use Rattle.std.proofs.Common.{◌∙◌}
use Rattle.ir_parse_top.proofs.LongestGlobals.{names_behind, names_nothing}
use Rattle.ir_parse_top.proofs.globals.names_next.Goals as goal

pub returns-in-Some : goal.returns-in-Some
returns-in-Some c = c.stands.ensures.value ∙ names_behind c.args.toks.now c.args.at c.in-Some.behind c.in-Some.ensures.value

pub returns-in-None : goal.returns-in-None
returns-in-None c = names_nothing c.args.toks.now c.args.at c.in-None.ensures.value
