use Rattle.std.proofs.Common.{Some, sym, subst}
use Rattle.ir_tree.specs.Steps.{Longest}
use Rattle.ir_tree.specs.Constants.{const}
use Rattle.ir_parse_parts.proofs.LongestValues as values
use Rattle.ir_parse_parts.proofs.values.value.Goals as goal

pub returns-in-Some : goal.returns-in-Some
returns-in-Some c = values.value_local c.args.toks.now c.args.at c.in-Some.next c.in-Some.ensures.value

pub returns-in_default-2 : goal.returns-in_default-2
returns-in_default-2 c = values.value_none c.args.toks.now c.args.at c.in_default.ensures.value
    (subst (Longest (const c.args.toks.now) c.args.at) c.in_default-2.is c.in_ok-found.ensures)

pub returns : goal.returns
returns c =
    let l = subst (Longest (const c.args.toks.now) c.args.at) c.in-Some-2.is c.in_ok-found.ensures in
    values.value_const c.args.toks.now c.args.at c.in-Some-2.next c.in_ok-found-2.found (subst (λ x. Longest (const c.args.toks.now) c.args.at (Some (
      x,
      c.in-Some-2.next,
    ))) (sym c.in_ok-found-2.ensures) l)
