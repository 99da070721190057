use Rattle.ir_instrs.specs.Reading.{reading}
use Rattle.ir_instrs.specs.Terms as spec
use Rattle.ir_instrs.proofs.Making.{makes_none, makes_more, makes_all}
use Rattle.ir_instrs.proofs.terms.cases_of.Goals as goal

pub loop-case-init : goal.loop-case-init
loop-case-init c = makes_none (reading c.args.src.now) (spec.case_of (reading c.args.src.now)) (spec.case_uses (reading c.args.src.now))
    c.args.notes.now c.new-cases.result c.new-cases.ensures c.requires.below

pub loop-case-preserved : goal.loop-case-preserved
loop-case-preserved c = makes_more (reading c.args.src.now) (spec.case_of (reading c.args.src.now)) (spec.case_uses (reading c.args.src.now)) c.args.list.now
    c.loop-case.case-index c.case-item.result c.args.notes.now c.loop-case.notes c.case_of.new.notes c.loop-case.cases c.push.new.self c.in_ok-made.made
    c.loop-case-test.true c.case-item.is c.loop-case.invariant c.in_ok-made.ensures.value c.in_ok-made.ensures.takes c.in_ok-push.ensures.ok

pub returns-clause-value : goal.returns-clause-value
returns-clause-value c = (makes_all (reading c.args.src.now) (spec.case_of (reading c.args.src.now)) (spec.case_uses (reading c.args.src.now))
    c.args.list.now c.loop-case.case-index c.args.notes.now c.loop-case.notes c.loop-case.cases
    c.loop-case-test.false c.loop-case.invariant).are

pub returns-clause-takes : goal.returns-clause-takes
returns-clause-takes c = (makes_all (reading c.args.src.now) (spec.case_of (reading c.args.src.now)) (spec.case_uses (reading c.args.src.now))
    c.args.list.now c.loop-case.case-index c.args.notes.now c.loop-case.notes c.loop-case.cases
    c.loop-case-test.false c.loop-case.invariant).takes
