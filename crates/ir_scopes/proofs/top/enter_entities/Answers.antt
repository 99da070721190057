use Rattle.std.proofs.Common.{subst, arith, take_all}
use Rattle.std.specs.List.{flat_map}
use Rattle.ir_scopes.specs.Slots as spec
use Rattle.ir_scopes.specs.Enters.{Enters}
use Rattle.ir_scopes.proofs.Entering.{enters_none, enters_more}
use Rattle.ir_scopes.proofs.top.enter_entities.Goals as goal

pub loop-entity-init : goal.loop-entity-init
loop-entity-init c = λ before knows. enters_none c.args.ids.now before c.args.scope.now knows

pub loop-entity-preserved : goal.loop-entity-preserved
loop-entity-preserved c = λ before knows. enters_more (spec.entity_slots c.args.space) c.args.entities.now c.loop-entity.entity-index c.entity-item.result
    c.args.ids.now before
    c.args.scope.now c.loop-entity.scope c.enter_entity.new.scope c.loop-entity-test.true c.entity-item.is (c.loop-entity.invariant before knows)
    c.in_ok-enter_entity.ensures

pub returns : goal.returns
returns c = λ before knows. subst (λ xs. Enters c.args.ids.now before (flat_map (spec.entity_slots c.args.space) xs) c.args.scope.now c.loop-entity.scope)
    (take_all c.loop-entity.entity-index c.args.entities.now (omega arith)) (c.loop-entity.invariant before knows)
