use Rattle.std.proofs.Common.{subst}
use Rattle.ir_tree.specs.Steps.{Longest}
use Rattle.ir_tree.specs.Types.{ty}
use Rattle.ir_tree.specs.Values.{value}
use Rattle.ir_parse_body.proofs.LongestCalls.{arg_no_type, arg_no_value, arg_ends}
use Rattle.ir_parse_body.proofs.calls.arg.Goals as goal

pub returns-in_default : goal.returns-in_default
returns-in_default c = arg_no_type c.args.toks.now c.args.at (subst (Longest (ty c.args.toks.now) c.args.at) c.in_default.is c.in_ok-kind.ensures)

pub returns-in_default-2 : goal.returns-in_default-2
returns-in_default-2 c =
    let ts = c.args.toks.now in
    arg_no_value ts c.args.at c.in-Some.first c.in-Some.kind (subst (Longest (ty ts) c.args.at) c.in-Some.is c.in_ok-kind.ensures) c.in_ok-words.behind
    c.in_ok-words.words c.in_ok-words.ensures (subst (Longest (value ts) c.in_ok-words.behind) c.in_default-2.is c.in_ok-value.ensures)

pub returns : goal.returns
returns c =
    let ts = c.args.toks.now in
    arg_ends ts c.args.at c.in-Some.first c.in-Some.kind (subst (Longest (ty ts) c.args.at) c.in-Some.is c.in_ok-kind.ensures) c.in_ok-words.behind
    c.in_ok-words.words c.in_ok-words.ensures c.in-Some-2.value c.in-Some-2.next (subst (Longest (value ts) c.in_ok-words.behind) c.in-Some-2.is
    c.in_ok-value.ensures)
