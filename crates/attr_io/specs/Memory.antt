-- Sources and sinks in memory, as contracts see them.
use Rattle.std.specs.Prelude.{ℕ, ◌+◌, ◌≡◌, Some, None, List, ◌++◌, Contains, length, take, drop}
use Rattle.attr_io.specs.Outside.{Stream, count_up}
use Rattle.attr_io.specs.declared.outside.ReadGot.{ReadGot}
use Rattle.attr_io.specs.declared.outside.ReadGot.TheVariants as read
use Rattle.attr_io.specs.declared.outside.WriteGot.{WriteGot}
use Rattle.attr_io.specs.declared.outside.WriteGot.TheVariants as write

-- a source in memory: the bytes that are left, the most that one call gives, the numbers of the calls
-- that fail, counted from 1, and how many calls were made and how many failed, up to 2^64 - 1
pub record SourceState : Type 0 where
  pub remaining : List ℕ
  pub piece_limit : ℕ
  pub failing : List ℕ
  pub calls : ℕ
  pub fault_count : ℕ

-- a sink in memory: the bytes that it holds and how many it can hold; the rest as at a source
pub record SinkState : Type 0 where
  pub content : List ℕ
  pub room_limit : ℕ
  pub failing : List ℕ
  pub calls : ℕ
  pub fault_count : ℕ

-- a source in memory tells the bytes that are left
abbrev pub source_stream : SourceState → Stream
source_stream s = record { bytes = Some s.remaining; faults = s.fault_count }

-- a sink in memory tells the bytes that it holds
abbrev pub sink_stream : SinkState → Stream
sink_stream s = record { bytes = Some s.content; faults = s.fault_count }

-- these bytes are told, and there was no fault
abbrev pub told : List ℕ → Stream
told bytes = record { bytes = Some bytes; faults = 0 }

-- no byte is told, and there was no fault
abbrev pub untold : Stream
untold = record { bytes = None; faults = 0 }

-- the next read is one of those that fail
abbrev pub ReadIsToFail : SourceState → Type 0
ReadIsToFail s = Contains s.failing (s.calls + 1)

-- the next write is one of those that fail
abbrev pub WriteIsToFail : SinkState → Type 0
WriteIsToFail s = Contains s.failing (s.calls + 1)

-- the sink holds as many bytes as it can
abbrev pub IsFull : SinkState → Type 0
IsFull s = length s.content ≡ s.room_limit

-- the source after a read that answered so
abbrev pub after_read : SourceState → ReadGot → SourceState
after_read s (read.Took n) = record s { remaining = drop n s.remaining; calls = count_up s.calls }
after_read s read.End = record s { calls = count_up s.calls }
after_read s read.Failed = record s { calls = count_up s.calls; fault_count = count_up s.fault_count }

-- the sink after a write of this piece that answered so
abbrev pub after_write : SinkState → List ℕ → WriteGot → SinkState
after_write s piece (write.Took n) = record s { content = s.content ++ take n piece; calls = count_up s.calls }
after_write s piece write.Failed = record s { calls = count_up s.calls; fault_count = count_up s.fault_count }
