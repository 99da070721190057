use Rattle.std.proofs.Common.{arith}
use Rattle.attrib.proofs.Fit.{fit_none, fit_more}
use Rattle.attrib.proofs.offsets.stand_within.Goals as goal

pub loop-insertion-init : goal.loop-insertion-init
loop-insertion-init c = fit_none c.args.size 0

pub loop-insertion-preserved : goal.loop-insertion-preserved
loop-insertion-preserved c =
    fit_more c.args.insertions.now c.loop-insertion.insertion-index c.loop-insertion.invariant c.loop-insertion-test.true c.insertion-item.is (omega arith)
    (omega arith)
