use Rattle.std.proofs.Common.{◌≡◌, ap, ◌∙◌}
use Rattle.std.proofs.lemmas.Result.{IfOk-weaker}
use Rattle.lattice_words.specs.declared.value.TheConstants.{ALL_USES}
use Rattle.facts.specs.Uses.{ParamUsed}
use Rattle.rule_terms.specs.declared.term.NewTerm.TheOpen.{NewTerm-F as new}
use Rattle.rule_terms.specs.declared.term.NewTerm.TheViews.{roll-NewTerm}
use Rattle.rule_says.specs.Saying.{Says}
use Rattle.aa_capture.specs.Asked.{AsksEach, SpeaksEach}
use Rattle.aa_capture.proofs.Words.{ParamSpeaks, param_says}
use Rattle.aa_capture.proofs.permitting.param_uses.Goals as goal

pub returns : goal.returns
returns c =
    IfOk-weaker c.both.result (λ t. t ≡ roll-NewTerm (new.And c.in_ok-own.own c.in_ok-after.after))
    (λ t. Says c.args.m.now c.args.ps.now ALL_USES t (AsksEach (λ kind held. ParamUsed c.args.m.now held kind c.args.instr.now c.args.p.now))
    (SpeaksEach (ParamSpeaks c.args.m.now c.args.ps.now c.requires.numbering c.args.instr.now c.args.p.now)))
    (λ t e. param_says c.args.m.now c.args.ps.now c.requires.numbering c.args.instr.now c.args.p.now c.word.result c.word-2.result
    c.in_ok-call_result_uses.field-0 c.in_ok-own.own c.in_ok-kept.kept c.in_ok-after.after t c.word.ensures c.word-2.ensures
    c.in_ok-call_result_uses.ensures (c.in_ok-own.ensures ∙ ap (λ b. roll-NewTerm (new.Or c.word.result b)) c.bits.ensures) c.in_ok-kept.ensures
    c.in_ok-after.ensures e) c.both.ensures
