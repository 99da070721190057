use Rattle.std.proofs.Common.{◌≡◌, length}
use Rattle.fix_core.specs.Machine.{owing}
use Rattle.word_rule.specs.Views.{owed_in}
use Rattle.word_rule.specs.Belongs.{core_of, IsSameSeat}
use Rattle.workers.specs.Workers.{count_in, IsPoolOf, HasTold}
use Rattle.workers.proofs.worker.Worker.tell_all.Given as goal

abbrev pub invariant-loop-d : goal.invariant-loop-d
invariant-loop-d l = IsSameSeat l.fn.self.seat l.self.seat × ((core_of l.self.seat).mode ≡ owing (owed_in (core_of l.self.seat).mode)) ×
    ((core_of l.self.seat).took ≡ (core_of l.fn.self.seat).took) × IsPoolOf (count_in l.words) l.self.own × HasTold l.fn.self l.self

abbrev pub decreases-loop-d : goal.decreases-loop-d
decreases-loop-d l = length (owed_in (core_of l.self.seat).mode)
