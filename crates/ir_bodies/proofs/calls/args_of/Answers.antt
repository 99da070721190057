use Rattle.ir_instrs.specs.Reading.{reading}
use Rattle.ir_bodies.specs.Calls as spec
use Rattle.ir_instrs.proofs.Making.{makes_none, makes_more, makes_all}
use Rattle.ir_bodies.proofs.calls.args_of.Goals as goal

pub loop-arg-init : goal.loop-arg-init
loop-arg-init c = makes_none (reading c.args.src.now) (spec.arg (reading c.args.src.now)) (spec.arg_uses (reading c.args.src.now)) c.args.notes.now
    c.new-args.result c.new-args.ensures c.requires.below

pub loop-arg-preserved : goal.loop-arg-preserved
loop-arg-preserved c = makes_more (reading c.args.src.now) (spec.arg (reading c.args.src.now)) (spec.arg_uses (reading c.args.src.now)) c.args.list.now
    c.loop-arg.arg-index c.arg-item.result c.args.notes.now c.loop-arg.notes c.arg_of.new.notes c.loop-arg.args c.push.new.self c.in_ok-made.made
    c.loop-arg-test.true c.arg-item.is c.loop-arg.invariant c.in_ok-made.ensures.value c.in_ok-made.ensures.takes c.in_ok-push.ensures.ok

pub returns-clause-value : goal.returns-clause-value
returns-clause-value c = (makes_all (reading c.args.src.now) (spec.arg (reading c.args.src.now)) (spec.arg_uses (reading c.args.src.now))
    c.args.list.now c.loop-arg.arg-index c.args.notes.now c.loop-arg.notes c.loop-arg.args
    c.loop-arg-test.false c.loop-arg.invariant).are

pub returns-clause-takes : goal.returns-clause-takes
returns-clause-takes c = (makes_all (reading c.args.src.now) (spec.arg (reading c.args.src.now)) (spec.arg_uses (reading c.args.src.now))
    c.args.list.now c.loop-arg.arg-index c.args.notes.now c.loop-arg.notes c.loop-arg.args
    c.loop-arg-test.false c.loop-arg.invariant).takes
