use Rattle.std.proofs.Common.{None, Some, sym, subst}
use Rattle.ir_tree.specs.Steps.{Longest}
use Rattle.ir_tree.specs.Entities.{type_body}
use Rattle.ir_parse_top.proofs.LongestEntities.{named_no_equals, named_no_word, named_type}
use Rattle.ir_parse_top.proofs.entities.named.Goals as goal

pub returns-in_default : goal.returns-in_default
returns-in_default c = named_no_equals c.args.toks.now c.args.start c.args.first (sym c.requires.after) c.in_default.ensures.value

pub returns-in_default-the : goal.returns-in_default-the
returns-in_default-the c = named_no_word c.args.toks.now c.args.start c.args.first (sym c.requires.after) c.in-Some.word c.in-Some.ensures.value
    c.in_default-the.ensures.value

pub returns-in_default-2 : goal.returns-in_default-2
returns-in_default-2 c = named_type c.args.toks.now c.args.start c.args.first (sym c.requires.after) c.in-Some.word c.in-Some.ensures.value c.in-Some-the.place
    c.in-Some-the.ensures.value None (subst (Longest (type_body c.args.toks.now) c.in-Some-the.place) c.in_default-2.is c.in_ok-body.ensures)

pub returns : goal.returns
returns c = named_type c.args.toks.now c.args.start c.args.first (sym c.requires.after) c.in-Some.word c.in-Some.ensures.value c.in-Some-the.place
    c.in-Some-the.ensures.value (Some (
      c.in_ok-body-2.body,
      c.in-Some-2.next,
    )) (subst (λ t. Longest (type_body c.args.toks.now) c.in-Some-the.place (Some (
      t,
      c.in-Some-2.next,
    ))) (sym c.in_ok-body-2.ensures) (subst (Longest (type_body c.args.toks.now) c.in-Some-the.place) c.in-Some-2.is c.in_ok-body.ensures))
