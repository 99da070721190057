-- What a read or a write may answer, and what it then did.
use Rattle.std.specs.Prelude.{◌≡◌, ℕ, ◌+◌, ◌-◌, ◌^◌, ◌<◌, ◌≤◌, ◌⊎◌, min, List, length, take, Option}
use Rattle.std.specs.Io.KnownBytes.{Appends, Consumes, IsAtEnd, Keeps}
use Rattle.attr_io.specs.declared.outside.ReadGot.{ReadGot}
use Rattle.attr_io.specs.declared.outside.ReadGot.TheVariants as read
use Rattle.attr_io.specs.declared.outside.WriteGot.{WriteGot}
use Rattle.attr_io.specs.declared.outside.WriteGot.TheVariants as write

-- what clauses see of a source or a sink: the bytes that it has left or holds, where it tells them, and how many faults
-- there were
pub record Stream : Type 0 where
  pub bytes : Option (List ℕ)
  pub faults : ℕ

-- the count of faults rose: it is greater than before, or it stands at its greatest value, where it can rise no more
abbrev pub Rose : Stream → Stream → Type 0
Rose old new = (old.faults < new.faults) ⊎ (2 ^ 64 - 1 ≤ new.faults)

-- the count of faults did not fall
abbrev pub NeverFell : Stream → Stream → Type 0
NeverFell old new = old.faults ≤ new.faults

-- one more, for a count that stops at its greatest value
abbrev pub count_up : ℕ → ℕ
count_up n = min (n + 1) (2 ^ 64 - 1)

-- the source gave these bytes, which it had left before all others
abbrev pub Gave : Stream → Stream → List ℕ → Type 0
Gave old new bytes = Consumes old.bytes new.bytes bytes

-- the sink holds these bytes behind what it held
abbrev pub Wrote : Stream → Stream → List ℕ → Type 0
Wrote old new bytes = Appends old.bytes new.bytes bytes

-- of the bytes that a source had left, where they are told, a read moved the first n to the front of
-- the buffer at Took(n), found and left none at End, and kept all at Failed
abbrev pub HasRead : Stream → Stream → ReadGot → List ℕ → Type 0
HasRead old new (read.Took n) buf = (0 < n) × (n ≤ length buf) × Gave old new (take n buf)
HasRead old new read.End buf = Keeps old.bytes new.bytes × IsAtEnd new.bytes
HasRead old new read.Failed buf = Keeps old.bytes new.bytes

-- to the bytes that a sink held, where they are told, a write added the first n of the piece at
-- Took(n), and nothing at Failed
abbrev pub HasWritten : Stream → Stream → WriteGot → List ℕ → Type 0
HasWritten old new (write.Took n) piece = (0 < n) × (n ≤ length piece) × Wrote old new (take n piece)
HasWritten old new write.Failed piece = Keeps old.bytes new.bytes

-- how many bytes a read took
abbrev pub taken : ReadGot → ℕ
taken (read.Took n) = n
taken read.End = 0
taken read.Failed = 0

-- how many bytes a write took
abbrev pub written : WriteGot → ℕ
written (write.Took n) = n
written write.Failed = 0
