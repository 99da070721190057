use Rattle.ir_instrs.specs.Reading.{reading}
use Rattle.ir_instrs.specs.Ops as spec
use Rattle.ir_instrs.proofs.Making.{makes_none, makes_more, makes_all}
use Rattle.ir_instrs.proofs.ops.arms_of.Goals as goal

pub loop-arm-init : goal.loop-arm-init
loop-arm-init c = makes_none (reading c.args.src.now) (spec.arm_of (reading c.args.src.now) c.args.ty) (spec.arm_uses c.args.ty) c.args.notes.now
    c.new-arms.result c.new-arms.ensures c.requires.below

pub loop-arm-preserved : goal.loop-arm-preserved
loop-arm-preserved c = makes_more (reading c.args.src.now) (spec.arm_of (reading c.args.src.now) c.args.ty) (spec.arm_uses c.args.ty) c.args.list.now
    c.loop-arm.arm-index c.arm-item.result c.args.notes.now c.loop-arm.notes c.arm_of.new.notes c.loop-arm.arms c.push.new.self c.in_ok-made.made
    c.loop-arm-test.true c.arm-item.is c.loop-arm.invariant c.in_ok-made.ensures.value c.in_ok-made.ensures.takes c.in_ok-push.ensures.ok

pub returns-clause-value : goal.returns-clause-value
returns-clause-value c = (makes_all (reading c.args.src.now) (spec.arm_of (reading c.args.src.now) c.args.ty) (spec.arm_uses c.args.ty)
    c.args.list.now c.loop-arm.arm-index c.args.notes.now c.loop-arm.notes c.loop-arm.arms
    c.loop-arm-test.false c.loop-arm.invariant).are

pub returns-clause-takes : goal.returns-clause-takes
returns-clause-takes c = (makes_all (reading c.args.src.now) (spec.arm_of (reading c.args.src.now) c.args.ty) (spec.arm_uses c.args.ty)
    c.args.list.now c.loop-arm.arm-index c.args.notes.now c.loop-arm.notes c.loop-arm.arms
    c.loop-arm-test.false c.loop-arm.invariant).takes
