use Rattle.std.proofs.Common.{◌≡◌}
use Rattle.std.proofs.lemmas.Result.{IfOk-weaker}
use Rattle.rule_terms.specs.declared.term.NewTerm.TheOpen.{NewTerm-F as made}
use Rattle.rule_terms.specs.declared.term.NewTerm.TheViews.{roll-NewTerm}
use Rattle.rule_says.specs.Saying.{Says}
use Rattle.aa_passing.specs.Entered.{AsksReached, SpeaksReached}
use Rattle.aa_passing.proofs.Passed.{unaligned_says, aligned_says}
use Rattle.aa_passing.proofs.entries.reached.Goals as goal

pub returns-in_default : goal.returns-in_default
returns-in_default c = unaligned_says c.args.m.now c.args.ps.now c.args.op.now c.args.at c.args.align c.args.asked c.argument-term.result
    c.in_default.ensures.none c.argument-term.ensures

pub returns : goal.returns
returns c =
    IfOk-weaker c.both.result (λ t. t ≡ roll-NewTerm (made.And c.argument-term.result c.in_ok-aligned.aligned))
    (λ t. Says c.args.m.now c.args.ps.now c.args.asked t (AsksReached c.args.m.now c.args.op.now c.args.at c.args.align)
    (SpeaksReached c.args.op.now c.args.at c.args.align c.args.asked))
    (λ t e. aligned_says c.args.m.now c.args.ps.now c.args.op.now c.args.at c.args.align c.args.asked c.in-Some.k t c.argument-term.result
    c.in_ok-aligned.aligned c.in-Some.ensures.some e c.argument-term.ensures c.in_ok-aligned.ensures) c.both.ensures
