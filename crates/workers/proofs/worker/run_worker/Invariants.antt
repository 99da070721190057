use Rattle.std.proofs.Common.{◌≡◌, ◌≤◌, ◌-◌, ◌+◌, ◌⊎◌}
use Rattle.word_rule.specs.Belongs.{core_of, IsSameSeat}
use Rattle.workers.specs.Workers.{budget_in, IsWorkerOf}
use Rattle.workers.proofs.worker.run_worker.Given as goal

abbrev pub invariant-running : goal.invariant-running
invariant-running g l = record {
  worker : IsWorkerOf l.words l.worker;
  same : IsSameSeat l.fn.worker.seat l.worker.seat;
  took : (core_of l.worker.seat).took ≡ (core_of l.fn.worker.seat).took + l.worker.taken;
  turns : l.worker.taken ≤ l.turns;
  few : (l.worker.taken ≡ 0) ⊎ ((core_of l.worker.seat).took ≤ budget_in l.words);
}

abbrev pub decreases-running : goal.decreases-running
decreases-running g l = l.turns - l.worker.taken
