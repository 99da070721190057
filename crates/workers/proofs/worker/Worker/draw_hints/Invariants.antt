use Rattle.std.proofs.Common.{◌≤◌}
use Rattle.workers.specs.Workers.{HasTaken}
use Rattle.workers.proofs.worker.Worker.draw_hints.Given as goal

abbrev pub invariant-drawing : goal.invariant-drawing
invariant-drawing g l = HasTaken l.shift.words.now l.fn.self l.self × (l.self.taken ≤ l.shift.turns)
