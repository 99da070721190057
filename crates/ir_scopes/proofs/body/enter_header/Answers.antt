use Rattle.std.proofs.Common.{sym, ap, subst, ◌∙◌}
use Rattle.ir_scopes.specs.Slots as spec
use Rattle.ir_scopes.specs.Enters.{Enters}
use Rattle.ir_scopes.proofs.Entering.{on_ok}
use Rattle.ir_scopes.proofs.body.enter_header.Goals as goal

pub returns-in-Listed : goal.returns-in-Listed
returns-in-Listed c = on_ok c.enter_params.result (λ h before knows. subst (λ ss. Enters c.args.ids.now before ss c.args.scope.now c.enter_params.new.scope)
    (ap spec.listed_slots c.as_slice.ensures ∙ ap spec.param_slots (sym c.in-Listed.is)) (h before knows)) c.enter_params.ensures
