-- The bytes so far are what the source gave, and one more than the limit ends the loop.
use Rattle.std.proofs.Common.{◌≡◌, ◌+◌, ◌-◌, ◌≤◌, length, vec_len}
use Rattle.attr_io.specs.Outside.{Gave, NeverFell}
use Rattle.attr_io.proofs.transfer.read_all.Given as goal

abbrev pub invariant-loop-buffer : goal.invariant-loop-buffer
invariant-loop-buffer g l = record {
  buffer : length l.buffer ≡ 65536;
  within : vec_len l.bytes ≤ l.limit + 1;
  given : Gave (g.S.Source.stream l.initial.source) (g.S.Source.stream l.source) l.bytes.items;
  count : NeverFell (g.S.Source.stream l.initial.source) (g.S.Source.stream l.source);
}

abbrev pub decreases-loop-buffer : goal.decreases-loop-buffer
decreases-loop-buffer g l = l.limit + 1 - vec_len l.bytes
