use Rattle.std.proofs.Common.{subst, arith, take_all}
use Rattle.ir_scopes.specs.declared.slot.Kind.TheVariants as kind
use Rattle.ir_scopes.specs.Slots as spec
use Rattle.ir_scopes.specs.Enters.{Enters}
use Rattle.ir_scopes.proofs.Entering.{enters_none, enters_next}
use Rattle.ir_scopes.proofs.body.enter_params.Goals as goal

pub loop-param-init : goal.loop-param-init
loop-param-init c = λ before knows. enters_none c.args.ids.now before c.args.scope.now knows

pub loop-param-preserved : goal.loop-param-preserved
loop-param-preserved c = λ before knows. enters_next (λ p. spec.slot kind.Value p.name) c.args.params.now c.loop-param.param-index c.param-item.result
    c.args.ids.now before
    c.args.scope.now c.loop-param.scope c.enter.new.self c.loop-param-test.true c.param-item.is (c.loop-param.invariant before knows) c.in_ok-enter.ensures

pub returns : goal.returns
returns c = λ before knows. subst (λ ps. Enters c.args.ids.now before (spec.listed_slots ps) c.args.scope.now c.loop-param.scope)
    (take_all c.loop-param.param-index c.args.params.now (omega arith)) (c.loop-param.invariant before knows)
