use Rattle.std.proofs.Common.{arith, refl, sym, Some, subst}
use Rattle.std.proofs.lemmas.Result.{IfOk-weaker}
use Rattle.lattice_words.specs.declared.function.TheConstants.{NORETURN, NOUNWIND}
use Rattle.lattice_words.specs.declared.value.TheConstants.{ALL_USES}
use Rattle.facts.specs.Kinds.{NoReturn, NoUnwind}
use Rattle.facts.specs.DeadEdges.{WaySpeaks}
use Rattle.rule_says.specs.Saying.{Says}
use Rattle.aa_memory.specs.Asked.{IsOfCallee}
use Rattle.aa_memory.proofs.Called.{call_says}
use Rattle.aa_capture.specs.Arms.{AsksUnused}
use Rattle.aa_capture.proofs.arms.unused.Goals as goal

pub returns-in-Normal : goal.returns-in-Normal
returns-in-Normal c =
    IfOk-weaker c.of_callee.result (λ term. IsOfCallee c.args.ps.now term NORETURN ALL_USES c.callee-called.result.promised c.callee-called.result.body)
    (λ term. Says c.args.m.now c.args.ps.now ALL_USES term (AsksUnused c.args.m.now c.args.t.now c.args.way)
    (WaySpeaks c.args.m.now c.args.way (Some c.args.t.now)))
    (λ term test. subst (λ way. Says c.args.m.now c.args.ps.now ALL_USES term (AsksUnused c.args.m.now c.args.t.now way)
    (WaySpeaks c.args.m.now way (Some c.args.t.now))) (sym c.in-Normal.is)
    (call_says c.args.m.now c.args.ps.now ALL_USES c.requires NoReturn c.args.t.now.op c.callee-called.result
    (record { body = c.callee-called.ensures.body; promised = c.callee-called.ensures.promised }) NORETURN term refl (omega arith) test))
    c.of_callee.ensures

pub returns-in-Unwind : goal.returns-in-Unwind
returns-in-Unwind c =
    IfOk-weaker c.of_callee-in-Unwind.result
    (λ term. IsOfCallee c.args.ps.now term NOUNWIND ALL_USES c.callee-called-in-Unwind.result.promised c.callee-called-in-Unwind.result.body)
    (λ term. Says c.args.m.now c.args.ps.now ALL_USES term (AsksUnused c.args.m.now c.args.t.now c.args.way)
    (WaySpeaks c.args.m.now c.args.way (Some c.args.t.now)))
    (λ term test. subst (λ way. Says c.args.m.now c.args.ps.now ALL_USES term (AsksUnused c.args.m.now c.args.t.now way)
    (WaySpeaks c.args.m.now way (Some c.args.t.now))) (sym c.in-Unwind.is)
    (call_says c.args.m.now c.args.ps.now ALL_USES c.requires NoUnwind c.args.t.now.op c.callee-called-in-Unwind.result
    (record { body = c.callee-called-in-Unwind.ensures.body; promised = c.callee-called-in-Unwind.ensures.promised }) NOUNWIND term refl (omega arith) test))
    c.of_callee-in-Unwind.ensures
