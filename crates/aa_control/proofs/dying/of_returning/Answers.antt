use Rattle.std.proofs.Common.{◌≡◌, ◌^◌, refl, sym}
use Rattle.std.proofs.lemmas.Result.{IfOk-weaker}
use Rattle.facts.specs.Kinds.{NoReturn}
use Rattle.facts.specs.Promises.{CallSpeaks}
use Rattle.rule_terms.specs.declared.term.NewTerm.TheOpen.{NewTerm-F as new}
use Rattle.rule_terms.specs.declared.term.NewTerm.TheViews.{roll-NewTerm}
use Rattle.rule_says.specs.Saying.{Says}
use Rattle.aa_control.specs.Asked.{AsksCall}
use Rattle.aa_control.proofs.Died.{returning}
use Rattle.aa_control.proofs.dying.of_returning.Goals as goal

pub returns : goal.returns
returns c =
    IfOk-weaker c.spread.result (λ t. t ≡ roll-NewTerm (new.Spread 1 1 c.of_call-term.result))
    (λ t. Says c.args.m.now c.args.ps.now (2 ^ 0) t (AsksCall c.args.m.now NoReturn c.args.op.now) (CallSpeaks c.args.m.now NoReturn c.args.op.now))
    (λ t e. returning c.args.m.now c.args.ps.now c.args.op.now t c.of_call-term.result e
    (c.of_call-term.ensures NoReturn refl (sym c.promises-promised.ensures))) c.spread.ensures
