use Rattle.std.proofs.Common.{subst}
use Rattle.ir_tree.specs.Steps.{Longest}
use Rattle.ir_tree.specs.Types.{ty}
use Rattle.ir_tree.specs.Values.{value}
use Rattle.ir_parse_parts.proofs.LongestValues as values
use Rattle.ir_parse_parts.proofs.values.tvalue.Goals as goal

pub returns-in_default : goal.returns-in_default
returns-in_default c = values.tvalue_no_ty c.args.toks.now c.args.at (subst (Longest (ty c.args.toks.now) c.args.at) c.in_default.is c.in_ok-ty.ensures)

pub returns-in_default-2 : goal.returns-in_default-2
returns-in_default-2 c =
    let typed = subst (Longest (ty c.args.toks.now) c.args.at) c.in-Some.is c.in_ok-ty.ensures in
    values.tvalue_no_value c.args.toks.now c.args.at c.in-Some.after c.in-Some.ty typed (subst (Longest (value c.args.toks.now) c.in-Some.after)
    c.in_default-2.is c.in_ok-value.ensures)

pub returns : goal.returns
returns c =
    let typed = subst (Longest (ty c.args.toks.now) c.args.at) c.in-Some.is c.in_ok-ty.ensures in
    values.tvalue_some c.args.toks.now c.args.at c.in-Some.after c.in-Some-2.next c.in-Some.ty c.in-Some-2.value typed
    (subst (Longest (value c.args.toks.now) c.in-Some.after) c.in-Some-2.is c.in_ok-value.ensures)
