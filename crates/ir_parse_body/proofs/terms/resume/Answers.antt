use Rattle.std.proofs.Common.{None, Some, sym, subst}
use Rattle.ir_tree.specs.Steps.{Longest}
use Rattle.ir_tree.specs.Values.{tvalue}
use Rattle.ir_parse_body.proofs.LongestTerms.{resume_value}
use Rattle.ir_parse_body.proofs.terms.resume.Goals as goal

pub returns-in_default : goal.returns-in_default
returns-in_default c = resume_value c.args.toks.now c.args.start c.args.first (sym c.requires.after) None (subst (Longest (tvalue c.args.toks.now) c.args.first)
    c.in_default.is c.in_ok-of.ensures)

pub returns : goal.returns
returns c =
    let read = subst (Longest (tvalue c.args.toks.now) c.args.first) c.in-Some.is c.in_ok-of.ensures in
    resume_value c.args.toks.now c.args.start c.args.first (sym c.requires.after) (Some (
      c.in_ok-of-2.of,
      c.in-Some.next,
    )) (subst (λ v. Longest (tvalue c.args.toks.now) c.args.first (Some (v, c.in-Some.next))) (sym c.in_ok-of-2.ensures) read)
