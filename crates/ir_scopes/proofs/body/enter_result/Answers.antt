use Rattle.std.proofs.Common.{sym, subst}
use Rattle.ir_scopes.specs.Slots as spec
use Rattle.ir_scopes.specs.Enters.{Enters}
use Rattle.ir_scopes.proofs.body.enter_result.Goals as goal

pub returns-in_ok-enter : goal.returns-in_ok-enter
returns-in_ok-enter c = λ before knows. subst (λ g. Enters c.args.ids.now before (spec.result_slots g c.args.written) c.args.scope.now c.enter.new.self)
    (sym c.if-gives.true) (c.in_ok-enter.ensures before knows)
