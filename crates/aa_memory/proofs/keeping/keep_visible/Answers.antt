use Rattle.std.proofs.Common.{arith, ◌≡◌, ◌^◌, true, sym, subst, ◌∙◌}
use Rattle.std.proofs.lemmas.Result.{on_ok_weaker}
use Rattle.facts.specs.Kinds.{NoAccess, Inaccessible}
use Rattle.facts.specs.Memory.{IsVisible}
use Rattle.facts.specs.Promises.{call_has, CallSpeaks}
use Rattle.rule_says.specs.Saying.{Says}
use Rattle.aa_memory.specs.Accesses.{access_of}
use Rattle.aa_memory.proofs.Called.{call_says, volatile_says, volatile_met, visible_call_met}
use Rattle.aa_memory.proofs.Kept.{kept}
use Rattle.aa_memory.proofs.keeping.keep_visible.Goals as goal

pub returns-then-is_volatile : goal.returns-then-is_volatile
returns-then-is_volatile c =
    let is = sym c.is_volatile.ensures ∙ c.if-is_volatile.true in
    on_ok_weaker c.keep.result (λ w. volatile_met c.args.m.now c.args.ps.now (access_of c.args.a) c.args.k.0 c.args.op.now c.args.s.now c.keep.new.s is
    (kept c.args.m.now c.args.ps.now c.requires.numbering (NoAccess (access_of c.args.a) Inaccessible) c.args.k.0
    (λ held. IsVisible c.args.m.now held (access_of c.args.a) c.args.op.now)
    (CallSpeaks c.args.m.now (NoAccess (access_of c.args.a) Inaccessible) c.args.op.now)
    c.args.s.now c.keep.new.s c.access_bit-bit.result c.bits.result w.0 (sym c.access_bit-bit.ensures.bit) c.requires.long
    (volatile_says c.args.m.now c.args.ps.now (access_of c.args.a) c.args.k.0 c.args.op.now (2 ^ c.access_bit-bit.result) c.bits.result is c.bits.ensures)
    w.1 w.2)) c.keep.ensures

pub keep-requires-then-is_call-clause-over : goal.keep-requires-then-is_call-clause-over
keep-requires-then-is_call-clause-over c =
    let near = c.access_bit-bit.ensures.small in
    (call_says c.args.m.now c.args.ps.now c.one.result c.requires.numbering (NoAccess (access_of c.args.a) Inaccessible) c.args.op.now c.callee-called.result
    c.callee-called.ensures c.access_bit-bit.result c.in_ok-term.term (sym c.access_bit-bit.ensures.bit) (omega (arith, near)) c.in_ok-term.ensures).over

pub returns-then-is_call : goal.returns-then-is_call
returns-then-is_call c =
    let near = c.access_bit-bit.ensures.small in
    let says = call_says c.args.m.now c.args.ps.now c.one.result c.requires.numbering (NoAccess (access_of c.args.a) Inaccessible) c.args.op.now
    c.callee-called.result c.callee-called.ensures c.access_bit-bit.result c.in_ok-term.term (sym c.access_bit-bit.ensures.bit) (omega (arith, near))
    c.in_ok-term.ensures in
    on_ok_weaker c.keep-then-is_call.result (λ w. visible_call_met c.args.m.now c.args.ps.now (access_of c.args.a) c.args.k.0 c.args.op.now c.args.s.now
    c.keep-then-is_call.new.s (sym c.is_volatile.ensures ∙ c.if-is_volatile.false) (sym c.is_call.ensures ∙ c.if-is_call.true)
    (kept c.args.m.now c.args.ps.now c.requires.numbering (NoAccess (access_of c.args.a) Inaccessible) c.args.k.0
    (λ held. call_has c.args.m.now held (NoAccess (access_of c.args.a) Inaccessible) c.args.op.now ≡ true)
    (CallSpeaks c.args.m.now (NoAccess (access_of c.args.a) Inaccessible) c.args.op.now)
    c.args.s.now c.keep-then-is_call.new.s c.access_bit-bit.result c.in_ok-term.term w.0 (sym c.access_bit-bit.ensures.bit) c.requires.long
    (subst (λ n. Says c.args.m.now c.args.ps.now n c.in_ok-term.term
    (λ held b. call_has c.args.m.now held (NoAccess (access_of c.args.a) Inaccessible) c.args.op.now ≡ true)
    (CallSpeaks c.args.m.now (NoAccess (access_of c.args.a) Inaccessible) c.args.op.now)) c.one.ensures says) w.1 w.2)) c.keep-then-is_call.ensures
