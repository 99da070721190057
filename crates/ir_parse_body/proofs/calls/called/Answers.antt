use Rattle.std.proofs.Common.{subst}
use Rattle.ir_tree.specs.Steps.{Longest}
use Rattle.ir_tree.specs.Instructions.{callee, arguments}
use Rattle.ir_parse_body.proofs.LongestCalls.{called_no_callee, called_no_arguments, called_ends}
use Rattle.ir_parse_body.proofs.calls.called.Goals as goal

pub returns-in_default : goal.returns-in_default
returns-in_default c = called_no_callee c.args.toks.now c.args.at (subst (Longest (callee c.args.toks.now) c.args.at) c.in_default.is c.in_ok-callee.ensures)

pub returns-in_default-2 : goal.returns-in_default-2
returns-in_default-2 c =
    let ts = c.args.toks.now in
    called_no_arguments ts c.args.at c.in-Some.open c.in-Some.callee (subst (Longest (callee ts) c.args.at) c.in-Some.is c.in_ok-callee.ensures)
    (subst (Longest (arguments ts) c.in-Some.open) c.in_default-2.is c.in_ok-arguments.ensures)

pub returns : goal.returns
returns c =
    let ts = c.args.toks.now in
    called_ends ts c.args.at c.in-Some.open c.in-Some.callee (subst (Longest (callee ts) c.args.at) c.in-Some.is c.in_ok-callee.ensures) c.in-Some-2.arguments
    c.in-Some-2.next (subst (Longest (arguments ts) c.in-Some.open) c.in-Some-2.is c.in_ok-arguments.ensures)
