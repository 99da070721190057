-- Values and bytes (LangRef, "Undefined Values", "Poison Values", "Pointer Aliasing Rules"): when two are the same, how
-- marks are put on, and how a value lies in memory byte by byte.
use Rattle.std.specs.Prelude.{ℕ, zero, suc, ◌+◌, ◌-◌, ◌*◌, ◌/◌, ◌%◌, ◌^◌, ◌==◌, ◌&&◌, ◌||◌, ◌++◌, nat_le, Bool, true, false, if◌then◌else◌, List, [], ◌∷◌}
use Rattle.std.specs.Prelude.{slice_get, None}
use Rattle.std.specs.List.{list_any, list_all}
use Rattle.std.specs.Option.{unwrap_or}
use Rattle.ir_machine.specs.declared.choice.Datum.{Datum}
use Rattle.ir_machine.specs.declared.choice.Datum.TheVariants as datum
use Rattle.ir_machine.specs.declared.choice.Mark.{Mark}
use Rattle.ir_machine.specs.declared.choice.Value.{Value}
use Rattle.ir_machine.specs.declared.choice.Byte.{Byte}
use Rattle.ir_machine.specs.declared.choice.Byte.TheVariants as byte

-- ---- values

-- a value without origins
abbrev pub plain : Datum → Value
plain d = record { datum = d; origins = [] }

-- another value with the origins of this one
abbrev pub carried : Value → Datum → Value
carried x d = record { datum = d; origins = x.origins }

-- the value with one more mark, behind those that it has
abbrev pub marked : Mark → Value → Value
marked mark x = record { datum = x.datum; origins = x.origins ++ (mark ∷ []) }

-- the datum is poison
abbrev pub is_poison : Datum → Bool
is_poison datum.Poison = true
is_poison _ = false

-- the datum is undef
abbrev pub is_undef : Datum → Bool
is_undef datum.Undef = true
is_undef _ = false

-- the datum is null
abbrev pub is_null : Datum → Bool
is_null datum.Null = true
is_null _ = false

-- two data are equal
abbrev pub is_same_datum : Datum → Datum → Bool
is_same_datum (datum.Int a) (datum.Int b) = a == b
is_same_datum (datum.Ptr a at) (datum.Ptr b there) = (a == b) && (at == there)
is_same_datum datum.Null datum.Null = true
is_same_datum datum.Undef datum.Undef = true
is_same_datum datum.Poison datum.Poison = true
is_same_datum datum.Pair datum.Pair = true
is_same_datum _ _ = false

-- origins are compared as lists
abbrev pub are_same_marks : List Mark → List Mark → Bool
are_same_marks [] [] = true
are_same_marks (a ∷ as') (b ∷ bs) = (a.call == b.call) && (a.param == b.param) && are_same_marks as' bs
are_same_marks _ _ = false

-- two values are equal: their data and their origins
abbrev pub is_same_value : Value → Value → Bool
is_same_value x y = is_same_datum x.datum y.datum && are_same_marks x.origins y.origins

-- ---- bytes

-- n bytes from this place on
abbrev pub bytes_from : (ℕ → Byte) → ℕ → ℕ → List Byte
bytes_from bytes at zero = []
bytes_from bytes at (suc n) = bytes at ∷ bytes_from bytes (at + 1) n

-- these bytes stand from `start` on, the old ones elsewhere
abbrev pub overlaid : ℕ → List Byte → (ℕ → Byte) → ℕ → Byte
overlaid start new old at = unwrap_or (if nat_le start at then slice_get new (at - start) else None) (old at)

-- byte number k of a value in memory: an integer lies little endian and is extended by zeros, null is zeros, and a pointer
-- is its fragments; a pair is never stored
abbrev pub stored_byte : Value → Datum → ℕ → Byte
stored_byte x (datum.Int bits) k = byte.Number ((bits / (256 ^ k)) % 256)
stored_byte x (datum.Ptr block offset) k = byte.Fragment k x
stored_byte x datum.Null k = byte.Number 0
stored_byte x datum.Undef k = byte.Undef
stored_byte x datum.Poison k = byte.Poison
stored_byte x datum.Pair k = byte.Poison

-- the n bytes of a value in memory
abbrev pub stored : ℕ → Value → List Byte
stored n x = bytes_from (stored_byte x x.datum) 0 n

-- the byte is poison
abbrev pub is_poison_byte : Byte → Bool
is_poison_byte byte.Poison = true
is_poison_byte _ = false

-- the byte is undef
abbrev pub is_undef_byte : Byte → Bool
is_undef_byte byte.Undef = true
is_undef_byte _ = false

-- the byte is a fragment of a pointer
abbrev pub is_fragment : Byte → Bool
is_fragment (byte.Fragment k x) = true
is_fragment _ = false

-- the byte is the number 0
abbrev pub is_zero_byte : Byte → Bool
is_zero_byte (byte.Number n) = n == 0
is_zero_byte _ = false

-- the number that a byte is
abbrev pub number_of : Byte → ℕ
number_of (byte.Number n) = n
number_of _ = 0

-- the number that bytes mean, the lowest first
abbrev pub little_endian : List Byte → ℕ
little_endian [] = 0
little_endian (b ∷ bytes) = number_of b + 256 * little_endian bytes

-- An integer of this width from its bytes: poison if one is poison, else undef if one is undef or a fragment of a pointer,
-- else the number without the bits above its width.
abbrev pub loaded_int : ℕ → List Byte → Value
loaded_int width bytes =
    if list_any is_poison_byte bytes then plain datum.Poison
    else (if list_any is_undef_byte bytes || list_any is_fragment bytes then plain datum.Undef
    else plain (datum.Int (little_endian bytes % (2 ^ width))))

-- the bytes are the fragments of this value in order, from number k on
abbrev pub are_fragments : Value → ℕ → List Byte → Bool
are_fragments x k [] = true
are_fragments x k (byte.Fragment j y ∷ bytes) = (j == k) && is_same_value x y && are_fragments x (k + 1) bytes
are_fragments x k (b ∷ bytes) = false

-- the pointer whose fragments the bytes are, poison if they are those of no pointer
abbrev pub whole_pointer : List Byte → Value
whole_pointer (byte.Fragment k x ∷ bytes) = if are_fragments x 0 (byte.Fragment k x ∷ bytes) then x else plain datum.Poison
whole_pointer _ = plain datum.Poison

-- A pointer from its eight bytes: poison if one is poison, else undef if one is undef, else null if all are zero, else
-- the pointer whose eight fragments they are, in order; poison if they are none.
abbrev pub loaded_ptr : List Byte → Value
loaded_ptr bytes =
    if list_any is_poison_byte bytes then plain datum.Poison
    else (if list_any is_undef_byte bytes then plain datum.Undef
    else (if list_all is_zero_byte bytes then plain datum.Null
    else whole_pointer bytes))
