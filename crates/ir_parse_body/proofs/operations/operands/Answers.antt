use Rattle.std.proofs.Common.{subst}
use Rattle.ir_tree.specs.Steps.{Longest}
use Rattle.ir_tree.specs.Types.{ty}
use Rattle.ir_tree.specs.Values.{value}
use Rattle.ir_parse_body.proofs.LongestOperations as op
use Rattle.ir_parse_body.proofs.operations.operands.Goals as goal

pub returns-in_default : goal.returns-in_default
returns-in_default c = op.operands_no_type c.args.toks.now c.args.at (subst (Longest (ty c.args.toks.now) c.args.at) c.in_default.is c.in_ok-ty.ensures)

pub returns-in_default-2 : goal.returns-in_default-2
returns-in_default-2 c = op.operands_no_left c.args.toks.now c.args.at c.in-Some.ty c.in-Some.first (subst (Longest (ty c.args.toks.now) c.args.at) c.in-Some.is
    c.in_ok-ty.ensures) (subst (Longest (value c.args.toks.now) c.in-Some.first) c.in_default-2.is c.in_ok-left.ensures)

pub returns-in_default-the : goal.returns-in_default-the
returns-in_default-the c = op.operands_no_comma c.args.toks.now c.args.at c.in-Some.ty c.in-Some.first
    (subst (Longest (ty c.args.toks.now) c.args.at) c.in-Some.is c.in_ok-ty.ensures) c.in-Some-2.left c.in-Some-2.comma
    (subst (Longest (value c.args.toks.now) c.in-Some.first) c.in-Some-2.is c.in_ok-left.ensures) c.in_default-the.ensures.value

pub returns-in_default-3 : goal.returns-in_default-3
returns-in_default-3 c = op.operands_no_right c.args.toks.now c.args.at c.in-Some.ty c.in-Some.first
    (subst (Longest (ty c.args.toks.now) c.args.at) c.in-Some.is c.in_ok-ty.ensures) c.in-Some-2.left c.in-Some-2.comma
    (subst (Longest (value c.args.toks.now) c.in-Some.first) c.in-Some-2.is c.in_ok-left.ensures) c.in-Some-the.second c.in-Some-the.ensures.value
    (subst (Longest (value c.args.toks.now) c.in-Some-the.second) c.in_default-3.is c.in_ok-right.ensures)

pub returns : goal.returns
returns c = op.operands_end c.args.toks.now c.args.at c.in-Some.ty c.in-Some.first (subst (Longest (ty c.args.toks.now) c.args.at) c.in-Some.is
    c.in_ok-ty.ensures) c.in-Some-2.left c.in-Some-2.comma (subst (Longest (value c.args.toks.now) c.in-Some.first) c.in-Some-2.is c.in_ok-left.ensures)
    c.in-Some-the.second c.in-Some-the.ensures.value c.in-Some-3.right c.in-Some-3.next (subst (Longest (value c.args.toks.now) c.in-Some-the.second)
    c.in-Some-3.is c.in_ok-right.ensures)
