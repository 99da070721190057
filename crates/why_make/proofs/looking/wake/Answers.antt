use Rattle.dep_graph.specs.Graph.{row_at}
use Rattle.std.proofs.Common.{arith}
use Rattle.why_make.proofs.Marking.{woken_none, woken_inside, woken_next, woken_all}
use Rattle.why_make.proofs.looking.wake.Goals as goal

pub loop-d-init : goal.loop-d-init
loop-d-init c = woken_none (row_at c.args.g.now c.args.p.0).dependents c.args.marks.now

pub set-requires : goal.set-requires
set-requires c = woken_inside (row_at c.args.g.now c.args.p.0).dependents c.of-d-items.result.now c.loop-d.d-index _ c.args.marks.now c.loop-d.marks
    c.of-d-items.ensures c.loop-d-test.true c.requires.within c.loop-d.invariant

pub loop-d-preserved : goal.loop-d-preserved
loop-d-preserved c = woken_next (row_at c.args.g.now c.args.p.0).dependents c.of-d-items.result.now c.loop-d.d-index _ c.args.marks.now c.loop-d.marks
    c.set.new.self c.of-d-items.ensures c.loop-d-test.true c.requires.within c.loop-d.invariant c.set.ensures

pub returns : goal.returns
returns c = woken_all (row_at c.args.g.now c.args.p.0).dependents c.of-d-items.result.now c.loop-d.d-index c.args.marks.now c.loop-d.marks c.of-d-items.ensures
    (omega arith) (omega arith) c.loop-d.invariant
