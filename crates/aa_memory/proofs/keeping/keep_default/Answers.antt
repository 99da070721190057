use Rattle.std.proofs.Common.{arith, ◌≡◌, ◌⊎◌, true, sym, subst}
use Rattle.std.proofs.lemmas.Result.{on_ok_weaker}
use Rattle.facts.specs.Kinds.{NoAccess, Default, Argmem}
use Rattle.facts.specs.Promises.{call_has, CallSpeaks}
use Rattle.rule_says.specs.Saying.{Says}
use Rattle.aa_memory.specs.Accesses.{access_of, off}
use Rattle.aa_memory.proofs.Called.{callee_found, default_says}
use Rattle.aa_memory.proofs.Kept.{kept}
use Rattle.aa_memory.proofs.keeping.keep_default.Goals as goal

pub of_callee-requires-clause-found : goal.of_callee-requires-clause-found
of_callee-requires-clause-found c = callee_found c.args.m.now c.args.ps.now 0 c.requires.numbering (NoAccess (access_of c.args.a) Default) c.args.op.now
    c.callee-called.result c.callee-called.ensures

pub keep-requires-clause-over : goal.keep-requires-clause-over
keep-requires-clause-over c =
    let near = c.access_bit-default.ensures.small in
    (default_says c.args.m.now c.args.ps.now c.one.result c.requires.numbering (access_of c.args.a) c.args.op.now c.callee-called.result
    c.callee-called.ensures c.access_bit-default.result c.in_ok-term.term (sym c.access_bit-default.ensures.bit) (omega (arith, near))
    c.in_ok-term.ensures).over

pub returns : goal.returns
returns c =
    let near = c.access_bit-default.ensures.small in
    let says = default_says c.args.m.now c.args.ps.now c.one.result c.requires.numbering (access_of c.args.a) c.args.op.now c.callee-called.result
    c.callee-called.ensures c.access_bit-default.result c.in_ok-term.term (sym c.access_bit-default.ensures.bit) (omega (arith, near))
    c.in_ok-term.ensures in
    on_ok_weaker c.keep.result (λ w. kept c.args.m.now c.args.ps.now c.requires.numbering (off c.args.a c.args.class) c.args.k.0
    (λ held. call_has c.args.m.now held (NoAccess (access_of c.args.a) Default) c.args.op.now ≡ true)
    (λ y. CallSpeaks c.args.m.now (NoAccess (access_of c.args.a) Default) c.args.op.now y ⊎
    CallSpeaks c.args.m.now (NoAccess (access_of c.args.a) Argmem) c.args.op.now y)
    c.args.s.now c.keep.new.s c.off_bit-bit.result c.in_ok-term.term w.0 (sym c.off_bit-bit.ensures.bit) c.requires.long
    (subst (λ n. Says c.args.m.now c.args.ps.now n c.in_ok-term.term
    (λ held b. call_has c.args.m.now held (NoAccess (access_of c.args.a) Default) c.args.op.now ≡ true)
    (λ y. CallSpeaks c.args.m.now (NoAccess (access_of c.args.a) Default) c.args.op.now y ⊎
    CallSpeaks c.args.m.now (NoAccess (access_of c.args.a) Argmem) c.args.op.now y)) c.one.ensures says) w.1 w.2) c.keep.ensures
