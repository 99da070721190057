use Rattle.std.proofs.Common.{ℕ, ◌<◌, get_or}
use Rattle.fix_core.specs.declared.event.CoreEvent.{CoreEvent}
use Rattle.fix_core.specs.Machine.{IsEvent}
use Rattle.fixpoint_rows.proofs.machine.are_events.Given as goal

abbrev pub invariant-loop-event : goal.invariant-loop-event
invariant-loop-event l = (k : ℕ) (d : CoreEvent) → k < l.event-index → IsEvent l.count 2 (get_or l.events k d)
