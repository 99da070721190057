-- The sink holds the text up to the place that was reached.
use Rattle.std.proofs.Common.{◌-◌, ◌≤◌, length, take}
use Rattle.attr_io.specs.Outside.{NeverFell, Wrote}
use Rattle.attr_io.proofs.transfer.write_all.Given as goal

abbrev pub invariant-loop-at : goal.invariant-loop-at
invariant-loop-at g l = record {
  within : l.at ≤ length l.bytes;
  written : Wrote (g.O.Sink.stream l.initial.sink) (g.O.Sink.stream l.sink) (take l.at l.bytes);
  count : NeverFell (g.O.Sink.stream l.initial.sink) (g.O.Sink.stream l.sink);
}

abbrev pub decreases-loop-at : goal.decreases-loop-at
decreases-loop-at g l = length l.bytes - l.at
