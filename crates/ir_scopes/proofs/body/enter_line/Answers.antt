use Rattle.std.proofs.Common.{sym, ap, subst, ◌∙◌, nat_eq}
use Rattle.std.specs.HashSet.{contains}
use Rattle.ir_scopes.specs.Results.{gives_result}
use Rattle.ir_scopes.specs.Slots as spec
use Rattle.ir_scopes.specs.Enters.{Enters}
use Rattle.ir_scopes.proofs.Entering.{enters_none, on_ok}
use Rattle.ir_scopes.proofs.body.enter_line.Goals as goal

pub returns-in-Opaque : goal.returns-in-Opaque
returns-in-Opaque c = λ before knows. subst (λ l. Enters c.args.ids.now before (spec.line_slots c.args.ids.now (contains nat_eq c.args.voids.now) l)
    c.args.scope.now c.args.scope.now) (sym c.in-Opaque.is)
    (enters_none c.args.ids.now before c.args.scope.now knows)

pub returns-in-Instr : goal.returns-in-Instr
returns-in-Instr c = on_ok c.enter_result.result (λ h before knows. subst (λ ss. Enters c.args.ids.now before ss c.args.scope.now c.enter_result.new.scope)
    (ap (λ g. spec.result_slots g c.in-Instr.result)
    (c.gives_result.ensures ∙ ap (gives_result c.args.ids.now (contains nat_eq c.args.voids.now)) c.get.ensures) ∙ ap
    (spec.line_slots c.args.ids.now (contains nat_eq c.args.voids.now)) (sym c.in-Instr.is)) (h before knows)) c.enter_result.ensures
