use Rattle.std.proofs.Common.{◌<◌, arith}
use Rattle.workers.proofs.Knowing.{visits_more}
use Rattle.workers.proofs.worker.Worker.scan.Goals as goal

pub loop-p-preserved : goal.loop-p-preserved
loop-p-preserved g c =
    let turns = c.args.shift.now.turns in
    let left : c.loop-p.self.taken < turns = omega (arith, c.loop-p.invariant.1, c.if-self-shift.false) in
    visits_more c.args.shift.now.words.now c.args.self.now c.loop-p.self c.visit.new.self turns c.loop-p.p c.visit.result left
    c.loop-p.invariant.0 c.visit.ensures.taken c.visit.ensures.counted c.visit.ensures.known c.loop-p.invariant.2
