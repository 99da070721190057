use Rattle.std.proofs.Common.{refl, sym, ◌∙◌}
use Rattle.std.proofs.lemmas.Result.{on_ok_weaker}
use Rattle.facts.specs.Kinds.{NoUnwind}
use Rattle.aa_control.proofs.Instrs.{no_callee, call_concerned, resume_concerned, resume_fails, resume_no_call, others_keep, others_free}
use Rattle.aa_control.proofs.Kept.{kept, unconcerned, never}
use Rattle.aa_control.proofs.keeping.keep_nounwind.Goals as goal

pub returns-then-is_call : goal.returns-then-is_call
returns-then-is_call c =
    on_ok_weaker c.keep.result (λ w. kept c.args.m.now c.args.ps.now c.requires.numbering NoUnwind c.args.k.0 c.args.op.now c.args.s.now c.keep.new.s 0
    c.in_ok-term.term w.0 refl c.requires.long
    (call_concerned c.args.op.now (sym c.is_call.ensures ∙ c.if-is_call.true)) c.in_ok-term.ensures w.1 w.2) c.keep.ensures

pub returns-then-is_resume : goal.returns-then-is_resume
returns-then-is_resume c =
    let is = sym c.is_resume.ensures ∙ c.if-is_resume.true in
    on_ok_weaker c.keep-then-is_resume.result (λ w. kept c.args.m.now c.args.ps.now c.requires.numbering NoUnwind c.args.k.0 c.args.op.now c.args.s.now
    c.keep-then-is_resume.new.s 0 c.bits.result w.0 refl c.requires.long
    (resume_concerned c.args.op.now is)
    (never c.args.m.now c.args.ps.now NoUnwind c.args.op.now 0 c.bits.result c.bits.ensures (λ held. resume_fails c.args.m.now held c.args.op.now is)
    (λ y. no_callee c.args.m.now NoUnwind c.args.op.now (resume_no_call c.args.op.now is) y)) w.1 w.2) c.keep-then-is_resume.ensures

pub returns : goal.returns
returns c =
    let none = sym c.is_call.ensures ∙ c.if-is_call.false in
    let not_resume = sym c.is_resume.ensures ∙ c.if-is_resume.false in
    unconcerned c.args.m.now c.args.ps.now c.requires.numbering NoUnwind c.args.k.0 c.args.op.now c.args.s.now
    (λ held. others_keep c.args.m.now held c.args.op.now none not_resume)
    (others_free c.args.op.now none not_resume)
