use Rattle.std.proofs.Common.{◌≡◌, ◌⊎◌, sym, ap, ◌∙◌}
use Rattle.std.proofs.lemmas.Result.{IfOk-weaker}
use Rattle.lattice_words.specs.declared.value.TheConstants.{ALL_USES}
use Rattle.facts.specs.Kinds.{NotReturned}
use Rattle.facts.specs.Facts.{used_so}
use Rattle.facts.specs.Uses.{ParamUsed, PassedUsed, PassedUseSpeaks, ResultUseSpeaks}
use Rattle.rule_says.specs.Saying.{Says}
use Rattle.aa_memory.specs.Accesses.{number_of}
use Rattle.aa_capture.specs.Asked.{AsksEach, SpeaksEach}
use Rattle.aa_capture.proofs.Words.{each_given, each_none, each_iff}
use Rattle.aa_capture.proofs.Rows.{outer_passed, outer_silent, inner_passed, inner_speaks, past_passed, past_silent, param_there, body_within}
use Rattle.aa_memory.proofs.Instrs.{inner_is_body}
use Rattle.aa_capture.proofs.permitting.passed.Goals as goal

pub returns-in_default : goal.returns-in_default
returns-in_default c =
    let none = c.requires.passing.body ∙ ap number_of c.in_default.is in
    each_given c.args.m.now c.args.ps.now c.bits.result c.arg_uses.result (λ kind held. PassedUsed c.args.m.now held kind c.args.instr.now c.args.at)
    (SpeaksEach (λ kind. PassedUseSpeaks c.args.m.now kind c.args.instr.now c.args.at)) c.bits.ensures
    (λ held kind.
    let row = c.arg_uses.ensures kind in
    let same = outer_passed c.args.m.now c.args.instr.now c.args.at held kind none in
    ((λ h. same.0 (row.0 h)), λ h. row.1 (same.1 h)))
    (λ y s. outer_silent c.args.m.now c.args.instr.now c.args.at s.0 y none s.1)

pub func-requires : goal.func-requires
func-requires c = body_within c.args.m.now c.in-Some.g.0
    (inner_is_body c.args.m.now c.args.instr.now.op c.in-Some.g.0 (c.requires.passing.body ∙ ap number_of c.in-Some.is))

pub returns-in-Some-get : goal.returns-in-Some-get
returns-in-Some-get c =
    let inner = c.requires.passing.body ∙ ap number_of c.in-Some.is in
    let param = param_there c.args.m.now c.in-Some.g.0 c.args.at c.func.result.now c.func.ensures ∙ sym c.in-Some-get.ensures.value in
    IfOk-weaker c.param_uses.result
    (λ t. Says c.args.m.now c.args.ps.now ALL_USES t (AsksEach (λ kind held. ParamUsed c.args.m.now held kind c.args.instr.now c.in-Some-get.p.now))
    (SpeaksEach (λ kind y. (y ≡ used_so kind c.in-Some-get.p.now.value.0) ⊎ ((y ≡ used_so NotReturned c.in-Some-get.p.now.value.0) ⊎
    ResultUseSpeaks kind c.args.instr.now y))))
    (λ t. Says c.args.m.now c.args.ps.now ALL_USES t (AsksEach (λ kind held. PassedUsed c.args.m.now held kind c.args.instr.now c.args.at))
    (SpeaksEach (λ kind. PassedUseSpeaks c.args.m.now kind c.args.instr.now c.args.at)))
    (λ t says. each_iff c.args.m.now c.args.ps.now t (λ kind held. ParamUsed c.args.m.now held kind c.args.instr.now c.in-Some-get.p.now)
    (λ kind held. PassedUsed c.args.m.now held kind c.args.instr.now c.args.at)
    (SpeaksEach (λ kind y. (y ≡ used_so kind c.in-Some-get.p.now.value.0) ⊎ ((y ≡ used_so NotReturned c.in-Some-get.p.now.value.0) ⊎
    ResultUseSpeaks kind c.args.instr.now y)))
    (SpeaksEach (λ kind. PassedUseSpeaks c.args.m.now kind c.args.instr.now c.args.at)) says
    (λ held kind. inner_passed c.args.m.now c.args.instr.now c.args.at held kind c.in-Some.g.0 c.in-Some-get.p.now inner param)
    (λ y. (
      (λ s. (s.0, (inner_speaks c.args.m.now c.args.instr.now c.args.at s.0 y c.in-Some.g.0 c.in-Some-get.p.now inner param).0 s.1)),
      λ s. (s.0, (inner_speaks c.args.m.now c.args.instr.now c.args.at s.0 y c.in-Some.g.0 c.in-Some-get.p.now inner param).1 s.1),
    ))) c.param_uses.ensures

pub returns-in-None : goal.returns-in-None
returns-in-None c =
    let inner = c.requires.passing.body ∙ ap number_of c.in-Some.is in
    let past = param_there c.args.m.now c.in-Some.g.0 c.args.at c.func.result.now c.func.ensures ∙ sym c.in-None.ensures.value in
    each_none c.args.m.now c.args.ps.now c.bits-in-None.result (λ kind held. PassedUsed c.args.m.now held kind c.args.instr.now c.args.at)
    (SpeaksEach (λ kind. PassedUseSpeaks c.args.m.now kind c.args.instr.now c.args.at)) c.bits-in-None.ensures
    (λ held kind. past_passed c.args.m.now c.args.instr.now c.args.at held kind c.in-Some.g.0 inner past)
    (λ y s. past_silent c.args.m.now c.args.instr.now c.args.at s.0 y c.in-Some.g.0 inner past s.1)
