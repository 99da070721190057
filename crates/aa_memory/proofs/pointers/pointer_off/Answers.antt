use Rattle.std.proofs.lemmas.Result.{IfOk-weaker}
use Rattle.facts.specs.Memory.{IsNotTo, ToSpeaks}
use Rattle.rule_says.specs.Saying.{Says}
use Rattle.aa_memory.specs.Accesses.{class_of}
use Rattle.aa_memory.specs.Asked.{IsValueOff}
use Rattle.aa_memory.proofs.Told.{value_says}
use Rattle.aa_memory.proofs.pointers.pointer_off.Goals as goal

pub returns-in-Value : goal.returns-in-Value
returns-in-Value c =
    IfOk-weaker c.value_off.result (λ t. IsValueOff c.args.ps.now t c.in-Value.v.0 c.args.class)
    (λ t. Says c.args.m.now c.args.ps.now c.args.to t (λ held bit. IsNotTo c.args.m.now held (class_of c.args.class) c.args.w.now)
    (ToSpeaks (class_of c.args.class) c.args.w.now))
    (λ t off. value_says c.args.m.now c.args.ps.now c.args.to c.requires.numbering c.args.w.now c.args.class c.in-Value.v t
    c.in-Value.is off) c.value_off.ensures
