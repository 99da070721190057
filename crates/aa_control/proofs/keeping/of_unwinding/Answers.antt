use Rattle.std.proofs.Common.{◌≡◌, ◌^◌, refl, sym, ap, ◌∙◌}
use Rattle.std.proofs.lemmas.Result.{IfOk-weaker}
use Rattle.facts.specs.Kinds.{NoUnwind}
use Rattle.facts.specs.Promises.{CallSpeaks}
use Rattle.rule_terms.specs.declared.term.NewTerm.TheOpen.{NewTerm-F as new}
use Rattle.rule_terms.specs.declared.term.NewTerm.TheViews.{roll-NewTerm}
use Rattle.rule_says.specs.Saying.{Says}
use Rattle.aa_control.specs.Asked.{AsksKeeps}
use Rattle.aa_control.proofs.Kept.{uncaught, caught}
use Rattle.aa_control.proofs.keeping.of_unwinding.Goals as goal

pub returns-then-is_caught : goal.returns-then-is_caught
returns-then-is_caught c =
    IfOk-weaker c.either.result (λ t. t ≡ roll-NewTerm (new.Or c.bits.result c.of_call-term.result))
    (λ t. Says c.args.m.now c.args.ps.now (2 ^ 0) t (AsksKeeps c.args.m.now NoUnwind c.args.op.now) (CallSpeaks c.args.m.now NoUnwind c.args.op.now))
    (λ t e. caught c.args.m.now c.args.ps.now c.args.op.now c.requires.call t c.of_call-term.result (sym c.is_caught.ensures ∙ c.if-is_caught.true)
    (e ∙ ap (λ b. roll-NewTerm (new.Or b c.of_call-term.result)) (c.bits.ensures ∙ ap (λ w. roll-NewTerm (new.Const w)) c.one.ensures))
    (c.of_call-term.ensures NoUnwind refl (sym c.promises-promised.ensures)))
    c.either.ensures

pub returns : goal.returns
returns c =
    uncaught c.args.m.now c.args.ps.now c.args.op.now c.requires.call c.of_call-term.result (sym c.is_caught.ensures ∙ c.if-is_caught.false)
    (c.of_call-term.ensures NoUnwind refl (sym c.promises-promised.ensures))
