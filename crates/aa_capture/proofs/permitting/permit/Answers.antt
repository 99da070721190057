use Rattle.std.proofs.Common.{sym, ◌∙◌}
use Rattle.std.proofs.lemmas.Result.{IfOk-weaker}
use Rattle.lattice_words.specs.declared.value.TheConstants.{ALL_USES}
use Rattle.facts.specs.Uses.{ResultUsed, CallUses, Permits, ResultUseSpeaks, CallUseSpeaks, PermitSpeaks}
use Rattle.rule_says.specs.Saying.{Says}
use Rattle.aa_capture.specs.Asked.{AsksEach, SpeaksEach}
use Rattle.aa_capture.proofs.Words.{each_given, each_iff}
use Rattle.aa_capture.proofs.Rows.{call_permits, call_permit_speaks, over_permits, over_permit_speaks, row_permits, row_silent}
use Rattle.aa_capture.proofs.permitting.permit.Goals as goal

pub returns-then-is_call : goal.returns-then-is_call
returns-then-is_call c =
    let is = sym c.is_call.ensures ∙ c.if-is_call.true in
    IfOk-weaker c.call_uses.result
    (λ t. Says c.args.m.now c.args.ps.now ALL_USES t (AsksEach (λ kind held. CallUses c.args.m.now held kind c.args.instr.now c.args.n))
    (SpeaksEach (λ kind. CallUseSpeaks c.args.m.now kind c.args.instr.now c.args.n)))
    (λ t. Says c.args.m.now c.args.ps.now ALL_USES t (AsksEach (λ kind held. Permits c.args.m.now held kind c.args.instr.now c.args.instr.now.op c.args.n))
    (SpeaksEach (λ kind. PermitSpeaks c.args.m.now kind c.args.instr.now c.args.instr.now.op c.args.n)))
    (λ t says. each_iff c.args.m.now c.args.ps.now t (λ kind held. CallUses c.args.m.now held kind c.args.instr.now c.args.n)
    (λ kind held. Permits c.args.m.now held kind c.args.instr.now c.args.instr.now.op c.args.n)
    (SpeaksEach (λ kind. CallUseSpeaks c.args.m.now kind c.args.instr.now c.args.n))
    (SpeaksEach (λ kind. PermitSpeaks c.args.m.now kind c.args.instr.now c.args.instr.now.op c.args.n)) says
    (λ held kind. call_permits c.args.m.now c.args.instr.now held kind c.args.instr.now.op c.args.n is)
    (λ y. (
      (λ s. (s.0, (call_permit_speaks c.args.m.now c.args.instr.now s.0 c.args.instr.now.op c.args.n y is).0 s.1)),
      λ s. (s.0, (call_permit_speaks c.args.m.now c.args.instr.now s.0 c.args.instr.now.op c.args.n y is).1 s.1),
    ))) c.call_uses.ensures

pub returns-then-goes_over : goal.returns-then-goes_over
returns-then-goes_over c =
    let is = sym c.goes_over.ensures ∙ c.if-goes_over.true in
    each_iff c.args.m.now c.args.ps.now c.result_uses.result (λ kind held. ResultUsed held kind c.args.instr.now)
    (λ kind held. Permits c.args.m.now held kind c.args.instr.now c.args.instr.now.op c.args.n) (SpeaksEach (λ kind. ResultUseSpeaks kind c.args.instr.now))
    (SpeaksEach (λ kind. PermitSpeaks c.args.m.now kind c.args.instr.now c.args.instr.now.op c.args.n))
    (c.result_uses.ensures c.args.m.now c.requires.numbering)
    (λ held kind. over_permits c.args.m.now c.args.instr.now held kind c.args.instr.now.op c.args.n is)
    (λ y. (
      (λ s. (s.0, (over_permit_speaks c.args.m.now c.args.instr.now s.0 c.args.instr.now.op c.args.n y is).0 s.1)),
      λ s. (s.0, (over_permit_speaks c.args.m.now c.args.instr.now s.0 c.args.instr.now.op c.args.n y is).1 s.1),
    ))

pub returns : goal.returns
returns c =
    let no_call = sym c.is_call.ensures ∙ c.if-is_call.false in
    let stays = sym c.goes_over.ensures ∙ c.if-goes_over.false in
    each_given c.args.m.now c.args.ps.now c.bits.result c.row.result (λ kind held. Permits c.args.m.now held kind c.args.instr.now c.args.instr.now.op c.args.n)
    (SpeaksEach (λ kind. PermitSpeaks c.args.m.now kind c.args.instr.now c.args.instr.now.op c.args.n)) c.bits.ensures
    (λ held kind.
    let row = c.row.ensures kind in
    let same = row_permits c.args.m.now c.args.instr.now held kind c.args.instr.now.op c.args.n no_call stays in
    ((λ h. same.0 (row.0 h)), λ h. row.1 (same.1 h)))
    (λ y s. row_silent c.args.m.now c.args.instr.now s.0 c.args.instr.now.op c.args.n y no_call stays s.1)
