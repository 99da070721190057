use Rattle.ir_instrs.specs.Reading.{reading}
use Rattle.ir_instrs.specs.Operands as spec
use Rattle.ir_instrs.proofs.Making.{makes_none, makes_more, makes_all}
use Rattle.ir_instrs.proofs.ops.tvalues.Goals as goal

pub loop-x-init : goal.loop-x-init
loop-x-init c = makes_none (reading c.args.src.now) (spec.tvalue (reading c.args.src.now)) (spec.tvalue_uses (reading c.args.src.now))
    c.args.notes.now c.new-values.result c.new-values.ensures c.requires.below

pub loop-x-preserved : goal.loop-x-preserved
loop-x-preserved c = makes_more (reading c.args.src.now) (spec.tvalue (reading c.args.src.now)) (spec.tvalue_uses (reading c.args.src.now)) c.args.list.now
    c.loop-x.x-index c.x-item.result c.args.notes.now c.loop-x.notes c.tvalue.new.notes c.loop-x.values c.push.new.self c.in_ok-made.made
    c.loop-x-test.true c.x-item.is c.loop-x.invariant c.in_ok-made.ensures.value c.in_ok-made.ensures.takes c.in_ok-push.ensures.ok

pub returns-clause-value : goal.returns-clause-value
returns-clause-value c = (makes_all (reading c.args.src.now) (spec.tvalue (reading c.args.src.now)) (spec.tvalue_uses (reading c.args.src.now))
    c.args.list.now c.loop-x.x-index c.args.notes.now c.loop-x.notes c.loop-x.values
    c.loop-x-test.false c.loop-x.invariant).are

pub returns-clause-takes : goal.returns-clause-takes
returns-clause-takes c = (makes_all (reading c.args.src.now) (spec.tvalue (reading c.args.src.now)) (spec.tvalue_uses (reading c.args.src.now))
    c.args.list.now c.loop-x.x-index c.args.notes.now c.loop-x.notes c.loop-x.values
    c.loop-x-test.false c.loop-x.invariant).takes
