use Rattle.std.proofs.Common.{arith, ◌≡◌, ◌⊎◌, true, sym, subst, ◌∙◌}
use Rattle.std.proofs.lemmas.Result.{on_ok_weaker}
use Rattle.facts.specs.Kinds.{NoAccess, Argmem}
use Rattle.facts.specs.Memory.{IsNotTo, ToSpeaks}
use Rattle.rule_says.specs.Saying.{Says}
use Rattle.aa_memory.specs.Accesses.{access_of, class_of, off, callee_has, CalleeSpeaks}
use Rattle.aa_memory.proofs.Called.{arg_says, pointer_met, plain_met}
use Rattle.aa_memory.proofs.Kept.{kept}
use Rattle.aa_memory.proofs.keeping.keep_arg.Goals as goal

pub keep-requires-clause-over : goal.keep-requires-clause-over
keep-requires-clause-over c =
    let near = c.access_bit-argmem.ensures.small in
    (arg_says c.args.m.now c.args.ps.now c.requires.numbering c.args.a c.args.class c.args.k.0 c.args.callee c.args.w.now c.one-to.result
    c.access_bit-argmem.result c.in_ok-called.called c.in_ok-apart.apart c.in_ok-term.term (sym c.access_bit-argmem.ensures.bit) (omega (arith, near))
    c.in_ok-called.ensures c.in_ok-apart.ensures c.in_ok-term.ensures).over

pub returns-then-is_pointer : goal.returns-then-is_pointer
returns-then-is_pointer c =
    let near = c.access_bit-argmem.ensures.small in
    let says = arg_says c.args.m.now c.args.ps.now c.requires.numbering c.args.a c.args.class c.args.k.0 c.args.callee c.args.w.now c.one-to.result
    c.access_bit-argmem.result c.in_ok-called.called c.in_ok-apart.apart c.in_ok-term.term (sym c.access_bit-argmem.ensures.bit) (omega (arith, near))
    c.in_ok-called.ensures c.in_ok-apart.ensures c.in_ok-term.ensures in
    on_ok_weaker c.keep.result (λ w. pointer_met c.args.m.now c.args.ps.now c.requires.numbering c.args.a c.args.class c.args.k.0 c.args.callee c.args.w.now
    c.args.s.now c.keep.new.s (sym c.is_pointer.ensures ∙ c.if-is_pointer.true)
    (kept c.args.m.now c.args.ps.now c.requires.numbering (off c.args.a c.args.class) c.args.k.0
    (λ held. (callee_has held (NoAccess (access_of c.args.a) Argmem) c.args.callee ≡ true) ⊎ IsNotTo c.args.m.now held (class_of c.args.class) c.args.w.now)
    (λ y. CalleeSpeaks (NoAccess (access_of c.args.a) Argmem) c.args.callee y ⊎ ToSpeaks (class_of c.args.class) c.args.w.now y)
    c.args.s.now c.keep.new.s c.off_bit-bit.result c.in_ok-term.term w.0 (sym c.off_bit-bit.ensures.bit) c.requires.long
    (subst (λ n. Says c.args.m.now c.args.ps.now n c.in_ok-term.term
    (λ held b. (callee_has held (NoAccess (access_of c.args.a) Argmem) c.args.callee ≡ true) ⊎ IsNotTo c.args.m.now held (class_of c.args.class) c.args.w.now)
    (λ y. CalleeSpeaks (NoAccess (access_of c.args.a) Argmem) c.args.callee y ⊎ ToSpeaks (class_of c.args.class) c.args.w.now y))
    c.one-to.ensures says) w.1 w.2)) c.keep.ensures

pub returns : goal.returns
returns c = plain_met c.args.m.now c.args.ps.now c.requires.numbering c.args.a c.args.class c.args.k.0 c.args.callee c.args.w.now c.args.s.now
    (sym c.is_pointer.ensures ∙ c.if-is_pointer.false)
