use Rattle.std.proofs.Common.{subst}
use Rattle.ir_tree.specs.Steps.{Longest}
use Rattle.ir_parse_top.specs.Parts.{before_name, named_params}
use Rattle.ir_parse_top.proofs.LongestHeaders.{header_no_opening, header_no_signature, header_ends}
use Rattle.ir_parse_top.proofs.headers.header.Goals as goal

pub returns-in_default : goal.returns-in_default
returns-in_default c = header_no_opening c.args.toks.now c.args.at (subst (Longest (before_name c.args.toks.now) c.args.at) c.in_default.is
    c.in_ok-opening.ensures)

pub returns-in_default-2 : goal.returns-in_default-2
returns-in_default-2 c =
    let ts = c.args.toks.now in
    header_no_signature ts c.args.at c.in-Some.name c.in-Some.opening (subst (Longest (before_name ts) c.args.at) c.in-Some.is c.in_ok-opening.ensures)
    (subst (Longest (named_params ts) c.in-Some.name) c.in_default-2.is c.in_ok-signature.ensures)

pub returns : goal.returns
returns c =
    let ts = c.args.toks.now in
    header_ends ts c.args.at c.in-Some.name c.in-Some.opening (subst (Longest (before_name ts) c.args.at) c.in-Some.is c.in_ok-opening.ensures)
    c.in-Some-2.signature c.in-Some-2.behind (subst (Longest (named_params ts) c.in-Some.name) c.in-Some-2.is c.in_ok-signature.ensures)
    c.in_ok-ending.ending c.in_ok-ending.next c.in_ok-ending.ensures
