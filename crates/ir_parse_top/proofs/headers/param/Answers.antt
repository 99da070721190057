use Rattle.std.proofs.Common.{subst}
use Rattle.ir_tree.specs.Steps.{Longest}
use Rattle.ir_tree.specs.Types.{ty}
use Rattle.ir_parse_top.proofs.LongestHeaders.{param_no_type, param_ends}
use Rattle.ir_parse_top.proofs.headers.param.Goals as goal

pub returns-in_default : goal.returns-in_default
returns-in_default c = param_no_type c.args.toks.now c.args.at (subst (Longest (ty c.args.toks.now) c.args.at) c.in_default.is c.in_ok-kind.ensures)

pub returns : goal.returns
returns c =
    let ts = c.args.toks.now in
    param_ends ts c.args.at c.in-Some.first c.in_ok-words.behind c.optional-name.result.1 c.in-Some.kind c.in_ok-words.words c.optional-name.result.0
    (subst (Longest (ty ts) c.args.at) c.in-Some.is c.in_ok-kind.ensures) c.in_ok-words.ensures c.optional-name.ensures
