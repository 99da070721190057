use Rattle.std.proofs.Common.{sym, subst}
use Rattle.std.proofs.lemmas.Result.{on_ok_weaker}
use Rattle.facts.specs.Memory.{IsNotTo, ToSpeaks}
use Rattle.rule_says.specs.Saying.{Says}
use Rattle.aa_memory.specs.Accesses.{class_of, off}
use Rattle.aa_memory.proofs.Kept.{kept}
use Rattle.aa_memory.proofs.keeping.keep_address.Goals as goal

pub returns : goal.returns
returns c =
    on_ok_weaker c.keep.result (λ w. kept c.args.m.now c.args.ps.now c.requires.numbering (off c.args.a c.args.class) c.args.k.0
    (λ held. IsNotTo c.args.m.now held (class_of c.args.class) c.args.w.now) (ToSpeaks (class_of c.args.class) c.args.w.now)
    c.args.s.now c.keep.new.s c.off_bit-bit.result c.in_ok-term.term w.0 (sym c.off_bit-bit.ensures.bit) c.requires.long
    (subst (λ n. Says c.args.m.now c.args.ps.now n c.in_ok-term.term (λ held b. IsNotTo c.args.m.now held (class_of c.args.class) c.args.w.now)
    (ToSpeaks (class_of c.args.class) c.args.w.now)) c.one.ensures c.in_ok-term.ensures) w.1 w.2) c.keep.ensures
