use Rattle.std.proofs.Common.{None, Some, sym, subst}
use Rattle.ir_tree.specs.Steps.{Longest}
use Rattle.ir_tree.specs.Values.{tvalue}
use Rattle.ir_parse_body.proofs.LongestTerms.{br_jump, br_no_value, br_targets}
use Rattle.ir_parse_body.proofs.terms.br.Goals as goal

pub returns-in-Some : goal.returns-in-Some
returns-in-Some c = br_jump c.args.toks.now c.args.start c.args.first (sym c.requires.after) c.in-Some.next c.in-Some.to c.in-Some.ensures

pub returns-in_default-2 : goal.returns-in_default-2
returns-in_default-2 c = br_no_value c.args.toks.now c.args.start c.args.first (sym c.requires.after) c.in_default.ensures
    (subst (Longest (tvalue c.args.toks.now) c.args.first) c.in_default-2.is c.in_ok-on.ensures)

pub returns-in_default-targets : goal.returns-in_default-targets
returns-in_default-targets c = br_targets c.args.toks.now c.args.start c.args.first (sym c.requires.after) c.in_default.ensures c.in-Some-2.on c.in-Some-2.comma
    (subst (Longest (tvalue c.args.toks.now) c.args.first) c.in-Some-2.is c.in_ok-on.ensures) None c.in_default-targets.ensures

pub returns : goal.returns
returns c =
    let read = subst (Longest (tvalue c.args.toks.now) c.args.first) c.in-Some-2.is c.in_ok-on.ensures in
    br_targets c.args.toks.now c.args.start c.args.first (sym c.requires.after) c.in_default.ensures c.in_ok-on-2.on c.in-Some-2.comma
    (subst (λ v. Longest (tvalue c.args.toks.now) c.args.first (Some (v, c.in-Some-2.comma))) (sym c.in_ok-on-2.ensures) read)
    (Some ((c.in-Some-targets.yes, c.in-Some-targets.no), c.in-Some-targets.next)) c.in-Some-targets.ensures
