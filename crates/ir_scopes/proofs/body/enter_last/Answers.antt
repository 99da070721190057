use Rattle.std.proofs.Common.{sym, ap, subst, ◌∙◌, nat_eq, not}
use Rattle.std.specs.HashSet.{contains}
use Rattle.ir_scopes.specs.Results.{is_void}
use Rattle.ir_scopes.specs.Slots as spec
use Rattle.ir_scopes.specs.Enters.{Enters}
use Rattle.ir_scopes.proofs.Entering.{enters_none, on_ok}
use Rattle.ir_scopes.proofs.body.enter_last.Goals as goal

pub returns-in-Term : goal.returns-in-Term
returns-in-Term c = λ before knows. subst (λ l. Enters c.args.ids.now before (spec.last_slots c.args.ids.now (contains nat_eq c.args.voids.now) l)
    c.args.scope.now c.args.scope.now) (sym c.in-Term.is)
    (enters_none c.args.ids.now before c.args.scope.now knows)

pub returns-in-Invoke : goal.returns-in-Invoke
returns-in-Invoke c = on_ok c.enter_result.result (λ h before knows. subst (λ ss. Enters c.args.ids.now before ss c.args.scope.now c.enter_result.new.scope)
    (ap (λ g. spec.result_slots (not g) c.in-Invoke.result)
    (c.is_void-gives.ensures ∙ ap (λ x. is_void c.args.ids.now (contains nat_eq c.args.voids.now) x.called.callee.result) c.get.ensures) ∙ ap
    (spec.last_slots c.args.ids.now (contains nat_eq c.args.voids.now)) (sym c.in-Invoke.is)) (h before knows)) c.enter_result.ensures
