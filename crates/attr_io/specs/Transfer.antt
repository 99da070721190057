-- Whole texts read from a source and written to a sink.
use Rattle.std.specs.Prelude.{ℕ, ◌≡◌, ◌<◌, ◌≤◌, List, length, take, Option, Some, None}
use Rattle.std.specs.Io.KnownBytes.{IsAtEnd}
use Rattle.attr_io.specs.Outside.{Stream, Gave, Wrote}

-- these bytes are all that the source had left, where it tells, and none is left
abbrev pub IsWhole : Stream → Stream → List ℕ → Type 0
IsWhole old new bytes = Gave old new bytes × IsAtEnd new.bytes

-- the source gave at most so many bytes
abbrev pub GaveAtMost : Stream → Stream → ℕ → Type 0
GaveAtMost old new limit = (bytes : List ℕ) × Gave old new bytes × (length bytes ≤ limit)

-- the source gave just so many bytes
abbrev pub GaveExactly : Stream → Stream → ℕ → Type 0
GaveExactly old new count = (bytes : List ℕ) × Gave old new bytes × (length bytes ≡ count)

-- the bytes are told, and they are at most so many
abbrev pub AreAtMost : Option (List ℕ) → ℕ → Type 0
AreAtMost None limit = ⊥
AreAtMost (Some bytes) limit = length bytes ≤ limit

-- the bytes are told, and they are more than so many
abbrev pub AreMoreThan : Option (List ℕ) → ℕ → Type 0
AreMoreThan None limit = ⊥
AreMoreThan (Some bytes) limit = limit < length bytes

-- the sink holds some bytes of the front of the text besides, where it tells, and lacks others
abbrev pub WrotePart : Stream → Stream → List ℕ → Type 0
WrotePart old new text = (n : ℕ) × (n < length text) × Wrote old new (take n text)
