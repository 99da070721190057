use Rattle.std.proofs.Common.{◌≤◌}
use Rattle.workers.specs.Workers.{HasTaken}
use Rattle.workers.proofs.worker.Worker.rob_pools.Given as goal

abbrev pub invariant-loop-from : goal.invariant-loop-from
invariant-loop-from g l = HasTaken l.shift.words.now l.fn.self l.self × (l.self.taken ≤ l.shift.turns)
