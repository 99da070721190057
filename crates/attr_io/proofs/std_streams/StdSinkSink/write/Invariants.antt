-- Interrupted writes add no byte, and each counts as a fault.
use Rattle.std.proofs.Common.{◌-◌, ◌^◌, ◌≤◌}
use Rattle.std.specs.Io.KnownBytes.{Keeps}
use Rattle.attr_io.proofs.std_streams.StdSinkSink.write.Given as goal

abbrev pub invariant-loop-self : goal.invariant-loop-self
invariant-loop-self g l = record {
  kept : Keeps (g.W.Write.contents l.initial.self.writer) (g.W.Write.contents l.self.writer);
  count : l.initial.self.faults ≤ l.self.faults;
}

abbrev pub decreases-loop-self : goal.decreases-loop-self
decreases-loop-self g l = 2 ^ 64 - 1 - l.self.faults
