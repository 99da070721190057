use Rattle.std.proofs.Common.{◌≡◌, None, Some, sym, subst}
use Rattle.ir_tree.specs.declared.instructions.Term.TheVariants.{Switch}
use Rattle.ir_tree.specs.Steps.{Longest}
use Rattle.ir_tree.specs.Values.{tvalue}
use Rattle.ir_tree.specs.Instructions.{term}
use Rattle.ir_parse_body.specs.Terms.{table}
use Rattle.ir_parse_body.proofs.LongestTerms.{switch_no_value, switch_table}
use Rattle.ir_parse_body.proofs.terms.switch.Goals as goal

pub returns-in_default : goal.returns-in_default
returns-in_default c = switch_no_value c.args.toks.now c.args.start c.args.first (sym c.requires.after) (subst (Longest (tvalue c.args.toks.now) c.args.first)
    c.in_default.is c.in_ok-on.ensures)

pub returns-in_default-2 : goal.returns-in_default-2
returns-in_default-2 c = switch_table c.args.toks.now c.args.start c.args.first (sym c.requires.after) c.in-Some.on c.in-Some.comma
    (subst (Longest (tvalue c.args.toks.now) c.args.first) c.in-Some.is c.in_ok-on.ensures) None (subst (Longest (table c.args.toks.now) c.in-Some.comma)
    c.in_default-2.is c.in_ok-rest.ensures)

pub returns : goal.returns
returns c =
    let toks = c.args.toks.now in
    let read = subst (Longest (tvalue toks) c.args.first) c.in-Some.is c.in_ok-on.ensures in
    let rest = subst (Longest (table toks) c.in-Some.comma) c.in-Some-2.is c.in_ok-rest.ensures in
    let same : c.in_ok-switch.switch ≡ record { op = c.args.start; on = c.in-Some.on; other = c.in-Some-2.rest.0; cases = c.in-Some-2.rest.1 } =
    c.in_ok-switch.ensures in
    let all : Longest (term toks) c.args.start (Some (
      Switch (record {
        op = c.args.start;
        on = c.in-Some.on;
        other = c.in-Some-2.rest.0;
        cases =
            c.in-Some-2.rest.1;
      }),
      c.in-Some-2.next,
    )) =
    switch_table toks c.args.start c.args.first (sym c.requires.after) c.in-Some.on c.in-Some.comma read (Some (c.in-Some-2.rest, c.in-Some-2.next)) rest in
    subst (λ x. Longest (term toks) c.args.start (Some (Switch x, c.in-Some-2.next))) (sym same) all
