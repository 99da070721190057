use Rattle.std.proofs.Common.{◌≡◌}
use Rattle.std.proofs.lemmas.Result.{IfOk-weaker}
use Rattle.rule_terms.specs.declared.term.NewTerm.TheOpen.{NewTerm-F as made}
use Rattle.rule_terms.specs.declared.term.NewTerm.TheViews.{roll-NewTerm}
use Rattle.rule_says.specs.Saying.{Says}
use Rattle.aa_passing.specs.Returned.{AsksLasting, SpeaksRungs}
use Rattle.aa_passing.proofs.Back.{lasting_says}
use Rattle.aa_passing.proofs.rets.lasting.Goals as goal

pub returns : goal.returns
returns c =
    IfOk-weaker c.both-2.result (λ t. t ≡ roll-NewTerm (made.And c.operand-term.result c.in_ok-classes.classes))
    (λ t. Says c.args.m.now c.args.ps.now c.args.asked t (AsksLasting c.args.m.now c.args.w.now) (SpeaksRungs c.args.w.now c.args.asked))
    (λ t e. lasting_says c.args.m.now c.args.ps.now c.args.w.now c.args.asked t c.operand-term.result c.in_ok-own.own c.in_ok-unknown.unknown
    c.in_ok-classes.classes e c.in_ok-classes.ensures c.operand-term.ensures c.in_ok-own.ensures c.in_ok-unknown.ensures) c.both-2.ensures
