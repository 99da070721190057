use Rattle.std.proofs.Common.{None, Some, subst}
use Rattle.ir_tree.specs.Steps.{Longest}
use Rattle.ir_tree.specs.Types.{ty}
use Rattle.ir_parse_body.proofs.LongestTerms.{case_no_type, case_no_value, case_no_comma, case_to}
use Rattle.ir_parse_body.proofs.terms.case.Goals as goal

pub returns-in_default : goal.returns-in_default
returns-in_default c = case_no_type c.args.toks.now c.args.at (subst (Longest (ty c.args.toks.now) c.args.at) c.in_default.is c.in_ok-ty.ensures)

pub returns-in_default-the : goal.returns-in_default-the
returns-in_default-the c = case_no_value c.args.toks.now c.args.at c.in-Some.value c.in-Some.ty (subst (Longest (ty c.args.toks.now) c.args.at) c.in-Some.is
    c.in_ok-ty.ensures) c.in_default-the.ensures.value

pub returns-in_default-the-2 : goal.returns-in_default-the-2
returns-in_default-the-2 c = case_no_comma c.args.toks.now c.args.at c.in-Some.value c.in-Some.ty (subst (Longest (ty c.args.toks.now) c.args.at) c.in-Some.is
    c.in_ok-ty.ensures) c.in-Some-the.comma c.in-Some-the.ensures.value c.in_default-the-2.ensures.value

pub returns-in_default-target : goal.returns-in_default-target
returns-in_default-target c = case_to c.args.toks.now c.args.at c.in-Some.value c.in-Some.ty (subst (Longest (ty c.args.toks.now) c.args.at) c.in-Some.is
    c.in_ok-ty.ensures) c.in-Some-the.comma c.in-Some-the.ensures.value c.in-Some-the-2.label c.in-Some-the-2.ensures.value None c.in_default-target.ensures

pub returns : goal.returns
returns c = case_to c.args.toks.now c.args.at c.in-Some.value c.in-Some.ty (subst (Longest (ty c.args.toks.now) c.args.at) c.in-Some.is c.in_ok-ty.ensures)
    c.in-Some-the.comma c.in-Some-the.ensures.value c.in-Some-the-2.label c.in-Some-the-2.ensures.value (Some (
      c.in-Some-target.to,
      c.in-Some-target.next,
    )) c.in-Some-target.ensures
