use Rattle.std.proofs.Common.{◌≡◌, ◌-◌, length, take}
use Rattle.fix_core.specs.Machine.{run_of}
use Rattle.fix_core.specs.Runs.{CanRun}
use Rattle.fix_core.proofs.running.run.Given as goal

abbrev pub invariant-loop-event : goal.invariant-loop-event
invariant-loop-event l = record {
  is : l.state ≡ run_of l.s l.g l.start (take l.event-index l.events);
  can : CanRun l.s l.state (length l.events - l.event-index);
  seats : length l.state.seats ≡ length l.start.seats;
}
