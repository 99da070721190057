use Rattle.std.proofs.Common.{◌^◌, Some, refl, sym, ◌∙◌}
use Rattle.std.proofs.lemmas.Result.{IfOk-weaker}
use Rattle.facts.specs.Kinds.{NoUnwind, NoReturn}
use Rattle.facts.specs.Promises.{CallSpeaks}
use Rattle.facts.specs.DeadEdges.{WaySpeaks}
use Rattle.rule_says.specs.Saying.{Says}
use Rattle.aa_control.specs.Asked.{AsksCall}
use Rattle.aa_control.specs.Coming.{AsksNever}
use Rattle.aa_control.proofs.Died.{never_normal, never_unwind}
use Rattle.aa_control.proofs.dying.never.Goals as goal

pub returns-then-is_normal : goal.returns-then-is_normal
returns-then-is_normal c =
    IfOk-weaker c.of_returning.result
    (λ t. Says c.args.m.now c.args.ps.now (2 ^ 0) t (AsksCall c.args.m.now NoReturn c.args.instr.now.op) (CallSpeaks c.args.m.now NoReturn c.args.instr.now.op))
    (λ t. Says c.args.m.now c.args.ps.now (2 ^ 0) t (AsksNever c.args.m.now c.args.instr.now c.args.way)
    (WaySpeaks c.args.m.now c.args.way (Some c.args.instr.now)))
    (λ t says. never_normal c.args.m.now c.args.ps.now c.args.instr.now c.args.way t (sym c.is_normal.ensures ∙ c.if-is_normal.true) says)
    c.of_returning.ensures

pub returns-then-is_unwind : goal.returns-then-is_unwind
returns-then-is_unwind c =
    never_unwind c.args.m.now c.args.ps.now c.args.instr.now c.args.way c.of_call.result (sym c.is_unwind.ensures ∙ c.if-is_unwind.true)
    (c.of_call.ensures NoUnwind refl (sym c.promises-promised.ensures))
