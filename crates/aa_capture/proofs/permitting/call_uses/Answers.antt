use Rattle.std.proofs.Common.{arith, ◌≡◌, ◌-◌, suc, IfOk, sym, subst}
use Rattle.lattice_words.specs.declared.value.TheConstants.{ALL_USES}
use Rattle.facts.specs.Uses.{CallUses, CallUseSpeaks}
use Rattle.rule_says.specs.Saying.{Says}
use Rattle.aa_capture.specs.Asked.{AsksEach, SpeaksEach}
use Rattle.aa_capture.proofs.Words.{each_none}
use Rattle.aa_capture.proofs.permitting.call_uses.Goals as goal

pub returns-then-n-eq0 : goal.returns-then-n-eq0
returns-then-n-eq0 c = subst (λ n. Says c.args.m.now c.args.ps.now ALL_USES c.bits.result
    (AsksEach (λ kind held. CallUses c.args.m.now held kind c.args.instr.now n)) (SpeaksEach (λ kind. CallUseSpeaks c.args.m.now kind c.args.instr.now n)))
    (sym c.if-n-eq0.true)
    (each_none c.args.m.now c.args.ps.now c.bits.result (λ kind held. CallUses c.args.m.now held kind c.args.instr.now 0)
    (SpeaksEach (λ kind. CallUseSpeaks c.args.m.now kind c.args.instr.now 0)) c.bits.ensures (λ held kind h. h) (λ y s. s.1))

pub returns : goal.returns
returns c =
    let some = c.if-n-eq0.false in
    let e : suc (c.args.n - 1) ≡ c.args.n = omega (arith, some) in
    subst (λ n. IfOk c.passed.result (λ t. Says c.args.m.now c.args.ps.now ALL_USES t
    (AsksEach (λ kind held. CallUses c.args.m.now held kind c.args.instr.now n)) (SpeaksEach (λ kind. CallUseSpeaks c.args.m.now kind c.args.instr.now n))))
    e c.passed.ensures
