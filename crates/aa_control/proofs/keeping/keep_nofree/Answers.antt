use Rattle.std.proofs.Common.{◌^◌, refl, sym, ◌∙◌}
use Rattle.std.proofs.lemmas.Result.{on_ok_weaker}
use Rattle.std.proofs.lemmas.Bool.{both_ways}
use Rattle.facts.specs.Kinds.{NoFree}
use Rattle.ir_module.specs.Calls.{is_call}
use Rattle.facts.specs.Promises.{CallSpeaks}
use Rattle.aa_control.specs.Asked.{AsksCall, AsksKeeps}
use Rattle.rule_says.proofs.Terms.{says_iff}
use Rattle.aa_control.proofs.Instrs.{no_call_frees}
use Rattle.aa_control.proofs.Kept.{kept, unconcerned}
use Rattle.aa_control.proofs.keeping.keep_nofree.Goals as goal

pub keep-requires-clause-over : goal.keep-requires-clause-over
keep-requires-clause-over c = (c.of_call-term.ensures NoFree refl (sym c.promises-promised.ensures)).over

pub returns-then-is_call : goal.returns-then-is_call
returns-then-is_call c =
    let is = sym c.is_call.ensures ∙ c.if-is_call.true in
    on_ok_weaker c.keep.result (λ w. kept c.args.m.now c.args.ps.now c.requires.numbering NoFree c.args.k.0 c.args.op.now c.args.s.now c.keep.new.s 2
    c.of_call-term.result w.0 refl c.requires.long
    is (says_iff c.args.m.now c.args.ps.now (2 ^ 2) c.of_call-term.result (AsksCall c.args.m.now NoFree c.args.op.now)
    (AsksKeeps c.args.m.now NoFree c.args.op.now)
    (CallSpeaks c.args.m.now NoFree c.args.op.now) (CallSpeaks c.args.m.now NoFree c.args.op.now)
    (c.of_call-term.ensures NoFree refl (sym c.promises-promised.ensures))
    (λ held b set. ((λ h call. h), λ h. h is)) (λ y. ((λ v. v), λ v. v))) w.1 w.2) c.keep.ensures

pub returns : goal.returns
returns c =
    let none = sym c.is_call.ensures ∙ c.if-is_call.false in
    unconcerned c.args.m.now c.args.ps.now c.requires.numbering NoFree c.args.k.0 c.args.op.now c.args.s.now
    (λ held. no_call_frees c.args.m.now held c.args.op.now none)
    (λ concerned. both_ways (is_call c.args.op.now) none concerned)
