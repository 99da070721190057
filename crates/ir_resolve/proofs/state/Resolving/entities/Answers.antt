use Rattle.ir_resolve.specs.Building.{setting_of}
use Rattle.ir_resolve.proofs.Adding.{adds_none, adds_next, adds_whole}
use Rattle.ir_resolve.proofs.state.Resolving.entities.Goals as goal

pub loop-entity-init : goal.loop-entity-init
loop-entity-init c = adds_none (setting_of c.args.desk.now) c.args.self.now c.requires.ready

pub loop-entity-preserved : goal.loop-entity-preserved
loop-entity-preserved c = adds_next (setting_of c.args.desk.now) c.args.entities.now c.loop-entity.entity-index c.entity-item.result c.args.self.now
    c.loop-entity.self c.entity.new.self c.loop-entity-test.true c.entity-item.is c.loop-entity.invariant c.in_ok-entity.ensures

pub returns : goal.returns
returns c = adds_whole (setting_of c.args.desk.now) c.args.entities.now c.loop-entity.entity-index c.args.self.now c.loop-entity.self c.loop-entity-test.false
    c.loop-entity.invariant
