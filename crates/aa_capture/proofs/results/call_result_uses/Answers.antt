use Rattle.std.proofs.Common.{◌≡◌, sym, ap, ◌∙◌}
use Rattle.std.proofs.lemmas.Result.{IfOk-weaker}
use Rattle.lattice_words.specs.declared.value.TheConstants.{ALL_USES}
use Rattle.facts.specs.Uses.{CallResultUsed, ResultUseSpeaks}
use Rattle.rule_terms.specs.declared.term.NewTerm.TheOpen.{NewTerm-F as new}
use Rattle.rule_terms.specs.declared.term.NewTerm.TheViews.{roll-NewTerm}
use Rattle.rule_says.specs.Saying.{Says}
use Rattle.aa_capture.specs.Asked.{AsksEach, SpeaksEach}
use Rattle.aa_capture.proofs.Words.{pointer_result_says, plain_result_says}
use Rattle.aa_capture.proofs.results.call_result_uses.Goals as goal

pub returns-then-is_pointer : goal.returns-then-is_pointer
returns-then-is_pointer c =
    pointer_result_says c.args.m.now c.args.ps.now c.requires.numbering c.args.instr.now c.result_uses-result.result
    (sym c.is_pointer.ensures ∙ c.if-is_pointer.true) (c.result_uses-result.ensures c.args.m.now c.requires.numbering)

pub returns : goal.returns
returns c =
    IfOk-weaker c.either.result (λ t. t ≡ roll-NewTerm (new.Or c.bits.result c.result_uses-result.result))
    (λ t. Says c.args.m.now c.args.ps.now ALL_USES t (AsksEach (λ kind held. CallResultUsed c.args.m.now held kind c.args.instr.now))
    (SpeaksEach (λ kind. ResultUseSpeaks kind c.args.instr.now)))
    (λ t e. plain_result_says c.args.m.now c.args.ps.now c.requires.numbering c.args.instr.now t c.result_uses-result.result
    (sym c.is_pointer.ensures ∙ c.if-is_pointer.false) (e ∙ ap (λ b. roll-NewTerm (new.Or b c.result_uses-result.result)) c.bits.ensures)
    (c.result_uses-result.ensures c.args.m.now c.requires.numbering)) c.either.ensures
