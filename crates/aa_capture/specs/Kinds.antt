-- The facts of uses, by which a few of them are named.
use Rattle.std.specs.Prelude.{Bool}
use Rattle.facts.specs.Kinds.{Read, Write, UseFact, CapturedByReturnAlone, NotReturned, NotThrough}

-- the fact is among those that these four tell: not captured but maybe returned, not returned, not read through, not written through
abbrev pub is_among : Bool → Bool → Bool → Bool → UseFact → Bool
is_among captured returned read written CapturedByReturnAlone = captured
is_among captured returned read written NotReturned = returned
is_among captured returned read written (NotThrough Read) = read
is_among captured returned read written (NotThrough Write) = written
