-- What the digits of a literal write.
use Rattle.std.specs.Prelude.{◌≡◌, ℕ, ◌-◌, ◌^◌, ◌%◌, Bool, true, ◌&&◌, if◌then◌else◌, ◌==◌, nat_lt, nat_le, List, length, slice_index, drop, Option, None, Some}
use Rattle.std.specs.List.{list_all}
use Rattle.std.specs.Char.{is_ascii_digit}
use Rattle.std.specs.Str.Parse.{digits_value}
use Rattle.ir_token.specs.Bytes.{Bytes}

-- `-` stands before the digits
abbrev pub is_negative : Bytes → Bool
is_negative z = slice_index z 0 == 45

-- the digits
abbrev pub digits_of : Bytes → Bytes
digits_of z = if is_negative z then drop 1 z else z

abbrev pub are_digits : Bytes → Bool
are_digits z = nat_lt 0 (length z) && list_all is_ascii_digit z

-- these bytes are an integer: digits, with or without `-` before them
abbrev pub is_int : Bytes → Bool
is_int z = are_digits (digits_of z)

-- the number without its sign
abbrev pub magnitude : Bytes → ℕ
magnitude z = digits_value 10 (digits_of z)

-- a number with this sign and magnitude is at least -2^(w-1) and below 2^w
abbrev pub fits : Bool → ℕ → ℕ → Bool
fits negative size w = if negative then nat_le size (2 ^ (w - 1)) else nat_lt size (2 ^ w)

-- that number modulo 2^w
abbrev pub bits : Bool → ℕ → ℕ → ℕ
bits negative size w = if negative then (2 ^ w - size) % 2 ^ w else size

-- its bits at a width, where it fits
abbrev pub fitted : Bool → ℕ → ℕ → Option ℕ
fitted negative size w = if fits negative size w then Some (bits negative size w) else None

-- the bits of a literal at a width, where it is one and fits
abbrev pub literal_of : ℕ → Bytes → Option ℕ
literal_of w z = if is_int z then fitted (is_negative z) (magnitude z) w else None

-- a number, where it is below 2^64
abbrev pub below_64 : ℕ → Option ℕ
below_64 n = if nat_lt n (2 ^ 64) then Some n else None

-- the number without its sign, where it is one and below 2^64
abbrev pub size_of : Bytes → Option ℕ
size_of z = if is_int z then below_64 (magnitude z) else None

-- the number that a literal writes, where it is one, at least 0 and below 2^64
abbrev pub number_of : Bytes → Option ℕ
number_of z = if is_int z then (if is_negative z && nat_lt 0 (magnitude z) then None else below_64 (magnitude z)) else None

abbrev pub or_number : ℕ → Option ℕ → ℕ
or_number other None = other
or_number other (Some n) = n

-- the bytes of an alignment; a literal that is no u64 counts as 0
abbrev pub align_of : Bytes → ℕ
align_of z = or_number 0 (number_of z)

-- the count of an array; a literal that is no u64 counts as 2^64 - 1
abbrev pub count_of : Bytes → ℕ
count_of z = or_number (2 ^ 64 - 1) (number_of z)
