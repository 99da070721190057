use Rattle.std.proofs.Common.{sym, ap, subst, ◌∙◌}
use Rattle.ir_scopes.specs.Slots as spec
use Rattle.ir_scopes.specs.Enters.{Enters}
use Rattle.ir_scopes.proofs.Entering.{enters_none}
use Rattle.ir_scopes.proofs.top.enter_entity.Goals as goal

pub returns-in_ok-enter : goal.returns-in_ok-enter
returns-in_ok-enter c = λ before knows. subst (λ ss. Enters c.args.ids.now before ss c.args.scope.now c.enter.new.self)
    (sym (c.defined.ensures ∙ ap spec.defined_slots c.in-Some.is)) (c.in_ok-enter.ensures before knows)

pub returns-in_default : goal.returns-in_default
returns-in_default c = λ before knows. subst (λ ss. Enters c.args.ids.now before ss c.args.scope.now c.args.scope.now)
    (sym (c.defined.ensures ∙ ap spec.defined_slots c.in_default.is)) (enters_none c.args.ids.now before c.args.scope.now knows)
