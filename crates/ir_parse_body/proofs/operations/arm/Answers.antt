use Rattle.std.proofs.Common.{subst}
use Rattle.ir_tree.specs.Steps.{Longest}
use Rattle.ir_tree.specs.Values.{value}
use Rattle.ir_parse_body.proofs.LongestOperations as op
use Rattle.ir_parse_body.proofs.operations.arm.Goals as goal

pub returns-in_default-the : goal.returns-in_default-the
returns-in_default-the c = op.arm_no_comma c.args.toks.now c.args.at c.in-Some.first c.in-Some.ensures.value c.in-Some-2.value c.in-Some-2.comma
    (subst (Longest (value c.args.toks.now) c.in-Some.first) c.in-Some-2.is c.in_ok-value.ensures) c.in_default-the.ensures.value

pub returns-in_default-the-2 : goal.returns-in_default-the-2
returns-in_default-the-2 c = op.arm_no_block c.args.toks.now c.args.at c.in-Some.first c.in-Some.ensures.value c.in-Some-2.value c.in-Some-2.comma
    (subst (Longest (value c.args.toks.now) c.in-Some.first) c.in-Some-2.is c.in_ok-value.ensures) c.in-Some-the.from c.in-Some-the.ensures.value
    c.in_default-the-2.ensures.value

pub returns-in_default-the-3 : goal.returns-in_default-the-3
returns-in_default-the-3 c = op.arm_no_close c.args.toks.now c.args.at c.in-Some.first c.in-Some.ensures.value c.in-Some-2.value c.in-Some-2.comma
    (subst (Longest (value c.args.toks.now) c.in-Some.first) c.in-Some-2.is c.in_ok-value.ensures) c.in-Some-the.from c.in-Some-the.ensures.value
    c.in-Some-the-2.close c.in-Some-the-2.ensures.value c.in_default-the-3.ensures.value

pub returns-in_default-2 : goal.returns-in_default-2
returns-in_default-2 c =
    op.arm_no_value c.args.toks.now c.args.at c.in-Some.first c.in-Some.ensures.value
    (subst (Longest (value c.args.toks.now) c.in-Some.first) c.in_default-2.is c.in_ok-value.ensures)

pub returns : goal.returns
returns c =
    op.arm_ends c.args.toks.now c.args.at c.in-Some.first c.in-Some.ensures.value c.in-Some-2.value c.in-Some-2.comma
    (subst (Longest (value c.args.toks.now) c.in-Some.first) c.in-Some-2.is c.in_ok-value.ensures) c.in-Some-the.from c.in-Some-the.ensures.value
    c.in-Some-the-2.close c.in-Some-the-2.ensures.value c.in-Some-the-3.next c.in-Some-the-3.ensures.value
