use Rattle.std.proofs.Common.{◌≡◌, ◌≤◌, ℕ, ◌<◌, Contains}
use Rattle.word_rule.specs.Views.{position}
use Rattle.word_rule.specs.Belongs.{core_of}
use Rattle.workers.specs.Workers.{HasTaken}
use Rattle.workers.proofs.worker.Worker.scan.Given as goal

abbrev pub invariant-loop-p : goal.invariant-loop-p
invariant-loop-p g l = HasTaken l.shift.words.now l.fn.self l.self × (l.self.taken ≤ l.shift.turns) × (l.self.taken ≡ l.fn.self.taken → (q : ℕ) → q < l.p →
    Contains (core_of l.self.seat).known (position q))
