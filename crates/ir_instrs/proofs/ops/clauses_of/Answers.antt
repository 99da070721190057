use Rattle.std.proofs.Common.{◌∙◌}
use Rattle.ir_instrs.specs.Reading.{reading}
use Rattle.ir_instrs.specs.Ops as spec
use Rattle.ir_instrs.proofs.Making.{makes_none, makes_more, makes_all}
use Rattle.ir_instrs.proofs.ops.clauses_of.Goals as goal

pub loop-clause-init : goal.loop-clause-init
loop-clause-init c = makes_none (reading c.args.src.now) (spec.clause_of (reading c.args.src.now)) (spec.clause_uses (reading c.args.src.now))
    c.args.notes.now c.new-clauses.result.items c.new-clauses.ensures.items c.requires.below

pub loop-clause-preserved : goal.loop-clause-preserved
loop-clause-preserved c =
    makes_more (reading c.args.src.now) (spec.clause_of (reading c.args.src.now)) (spec.clause_uses (reading c.args.src.now)) c.args.list.now
    c.loop-clause.clause-index c.clause-item.result c.args.notes.now c.loop-clause.notes c.clause_of.new.notes c.loop-clause.clauses.items
    c.push.new.self.items c.in_ok-made.made
    c.loop-clause-test.true c.clause-item.is c.loop-clause.invariant c.in_ok-made.ensures.value c.in_ok-made.ensures.takes c.in_ok-push.ensures.items

pub returns-clause-value : goal.returns-clause-value
returns-clause-value c = c.from_vec.ensures ∙ (makes_all (reading c.args.src.now) (spec.clause_of (reading c.args.src.now)) (spec.clause_uses
    (reading c.args.src.now)) c.args.list.now c.loop-clause.clause-index c.args.notes.now c.loop-clause.notes c.loop-clause.clauses.items
    c.loop-clause-test.false c.loop-clause.invariant).are

pub returns-clause-takes : goal.returns-clause-takes
returns-clause-takes c = (makes_all (reading c.args.src.now) (spec.clause_of (reading c.args.src.now)) (spec.clause_uses (reading c.args.src.now))
    c.args.list.now c.loop-clause.clause-index c.args.notes.now c.loop-clause.notes c.loop-clause.clauses.items
    c.loop-clause-test.false c.loop-clause.invariant).takes
