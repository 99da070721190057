use Rattle.std.proofs.Common.{ap, subst, ◌∙◌}
use Rattle.rule_terms.specs.declared.term.NewTerm.TheOpen.{NewTerm-F as new}
use Rattle.rule_terms.specs.declared.term.NewTerm.TheViews.{roll-NewTerm}
use Rattle.rule_says.specs.Saying.{IsWord}
use Rattle.facts.specs.Facts.{function}
use Rattle.aa_control.proofs.Kept.{of_inner, of_outer}
use Rattle.aa_control.proofs.Instrs.{inner_is_body}
use Rattle.aa_control.proofs.keeping.of_call.Goals as goal

pub word-requires : goal.word-requires
word-requires c = c.requires.numbering.positions.all (function c.in-Some.f.0) (inner_is_body c.args.m.now c.args.op.now c.in-Some.f.0 c.in-Some.ensures.some)

pub returns-in-Some : goal.returns-in-Some
returns-in-Some c kind same says =
    of_inner c.args.m.now c.args.ps.now c.requires.numbering kind c.args.op.now c.args.bit same c.word.result c.in-Some.f.0 c.in-Some.ensures.some
    (subst (λ w. IsWord c.args.ps.now w c.word.result (function c.in-Some.f.0)) c.one.ensures c.word.ensures)

pub returns-in-None : goal.returns-in-None
returns-in-None c kind same says =
    of_outer c.args.m.now c.args.ps.now c.requires.numbering kind c.args.op.now c.args.bit same c.bits.result c.args.promised c.in-None.ensures.none says
    (c.bits.ensures ∙ ap (λ w. roll-NewTerm (new.Const w)) c.one_if.ensures)
