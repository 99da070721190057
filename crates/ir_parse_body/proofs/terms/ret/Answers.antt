use Rattle.std.proofs.Common.{None, Some, sym, subst}
use Rattle.ir_tree.specs.Steps.{Longest}
use Rattle.ir_tree.specs.Values.{tvalue}
use Rattle.ir_parse_body.proofs.LongestTerms.{ret_void, ret_value}
use Rattle.ir_parse_body.proofs.terms.ret.Goals as goal

pub returns-in-Some : goal.returns-in-Some
returns-in-Some c = ret_void c.args.toks.now c.args.start c.args.first (sym c.requires.after) c.in-Some.next c.in-Some.ensures.value

pub returns-in_default-2 : goal.returns-in_default-2
returns-in_default-2 c = ret_value c.args.toks.now c.args.start c.args.first (sym c.requires.after) c.in_default.ensures.value None
    (subst (Longest (tvalue c.args.toks.now) c.args.first) c.in_default-2.is c.in_ok-of.ensures)

pub returns : goal.returns
returns c =
    let read = subst (Longest (tvalue c.args.toks.now) c.args.first) c.in-Some-2.is c.in_ok-of.ensures in
    ret_value c.args.toks.now c.args.start c.args.first (sym c.requires.after) c.in_default.ensures.value (Some (
      c.in_ok-of-2.of,
      c.in-Some-2.next,
    )) (subst (λ v. Longest (tvalue c.args.toks.now) c.args.first (Some (v, c.in-Some-2.next))) (sym c.in_ok-of-2.ensures) read)
