-- Names, and what a string is read as.
use Rattle.std.specs.Prelude.{ℕ, zero, suc, ◌+◌, ◌-◌, ◌*◌, Bool, true, false, not, ◌&&◌, ◌||◌, if◌then◌else◌, ◌==◌, nat_lt, List, [], ◌∷◌, length, slice_index}
use Rattle.std.specs.Prelude.{slice_range, take, drop}
use Rattle.std.specs.List.{list_all}
use Rattle.std.specs.Char.{is_digit, digit_value, is_ascii_digit}
use Rattle.std.specs.Str.Parse.{digits_value}
use Rattle.ir_token.specs.declared.token.Kind.{Kind}
use Rattle.ir_token.specs.declared.token.Kind.TheVariants.{Global, Local, Comdat, Label, Group}
use Rattle.ir_token.specs.declared.TheConstants.{MAX_DIGITS}

-- a name: a number, or bytes
pub data Name : Type 0 where
  Number : (value : ℕ) → Name
  Bytes : (bytes : List ℕ) → Name

-- two hexadecimal digits are at the front
abbrev pub begins_hex : List ℕ → Bool
begins_hex z = is_digit (slice_index z 0) 16 && is_digit (slice_index z 1) 16

-- the byte that they write
abbrev pub hex_byte : List ℕ → ℕ
hex_byte z = digit_value (slice_index z 0) * 16 + digit_value (slice_index z 1)

-- the bytes inside a string as they are read, from the left: `\\` is a backslash, `\xx` the byte with the hexadecimal digits xx,
-- and every other byte is itself; this many bytes at the front belong to an escape that is read already
abbrev pub unescaped_after : ℕ → List ℕ → List ℕ
unescaped_after done [] = []
unescaped_after (suc done) (c ∷ z) = unescaped_after done z
unescaped_after zero (c ∷ z) =
    if c == 92 then (if slice_index z 0 == 92 then 92 ∷ unescaped_after 1 z
    else (if begins_hex z then hex_byte z ∷ unescaped_after 2 z else c ∷ unescaped_after 0 z))
    else c ∷ unescaped_after 0 z

abbrev pub unescaped : List ℕ → List ℕ
unescaped z = unescaped_after 0 z

-- bytes that begin with a double quote are those of a string
abbrev pub is_quoted : List ℕ → Bool
is_quoted z = slice_index z 0 == 34

-- the bytes of a name as they are read: what is inside its quotes, or the bytes themselves
abbrev pub bytes_of : List ℕ → List ℕ
bytes_of z = if is_quoted z then unescaped (take (length z - 2) (drop 1 z)) else z

-- the name that bytes write: digits write a number, and all others bytes
abbrev pub name_of : List ℕ → Name
name_of z = if list_all is_ascii_digit z then Number (digits_value 10 z) else Bytes (bytes_of z)

-- one byte or more, none of them zero
abbrev pub is_proper : List ℕ → Bool
is_proper z = nat_lt 0 (length z) && list_all (λ c. nat_lt 0 c) z

-- the bytes write a name: digits are at most nine, and a string reads as one byte or more, none of them zero
abbrev pub writes_name : List ℕ → Bool
writes_name z = if list_all is_ascii_digit z then not (nat_lt MAX_DIGITS (length z)) else (not (is_quoted z) || is_proper (bytes_of z))

-- the bytes that write the name of a token: those behind its first byte, and of a Label those before its colon
abbrev pub name_bytes : List ℕ → Kind → ℕ → ℕ → List ℕ
name_bytes b Label i e = slice_range b i (e - 1)
name_bytes b _ i e = slice_range b (i + 1) e

-- the name of a token, where its kind has one
abbrev pub name_at : List ℕ → Kind → ℕ → ℕ → Name
name_at b k i e = name_of (name_bytes b k i e)

-- the kinds whose tokens have a name
abbrev pub has_name : Kind → Bool
has_name Global = true
has_name Local = true
has_name Comdat = true
has_name Group = true
has_name Label = true
has_name _ = false

-- the bytes of the token write a name, where its kind has one
abbrev pub bears_name : List ℕ → Kind → ℕ → ℕ → Bool
bears_name b k i e = not (has_name k) || writes_name (name_bytes b k i e)

-- the name that bytes write: read as a string's where they are quoted, and else themselves
abbrev pub read : Bool → List ℕ → List ℕ
read quoted z = if quoted then unescaped z else z
