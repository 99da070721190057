use Rattle.std.proofs.Common.{sym, ap, subst, nat_eq}
use Rattle.std.specs.HashSet.{contains}
use Rattle.std.specs.Option.{option_copied}
use Rattle.ir_scopes.specs.Slots as spec
use Rattle.ir_scopes.specs.Enters.{Enters}
use Rattle.ir_scopes.proofs.Entering.{enters_none, on_ok}
use Rattle.ir_scopes.proofs.body.enter_optional.Goals as goal

pub returns-in-Some : goal.returns-in-Some
returns-in-Some c = on_ok c.enter_body.result (λ h before knows. subst (λ ss. Enters c.args.ids.now before ss c.args.scope.now c.enter_body.new.scope)
    (ap (λ o. spec.optional_slots c.args.ids.now (contains nat_eq c.args.voids.now) (option_copied o)) (sym c.in-Some.is)) (h before knows))
    c.enter_body.ensures

pub returns-in-None : goal.returns-in-None
returns-in-None c = λ before knows. subst (λ ss. Enters c.args.ids.now before ss c.args.scope.now c.args.scope.now)
    (ap (λ o. spec.optional_slots c.args.ids.now (contains nat_eq c.args.voids.now) (option_copied o)) (sym c.in-None.is))
    (enters_none c.args.ids.now before c.args.scope.now knows)
