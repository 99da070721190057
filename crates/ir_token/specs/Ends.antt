-- Where the longest text of each kind ends. The scanner finds tokens by these ends; what a token is stands in Texts.
use Rattle.std.specs.Prelude.{◌≡◌, ℕ, ◌+◌, ◌<◌, ◌≤◌, Bool, true, false, ◌&&◌, ◌||◌, if◌then◌else◌, ◌==◌, nat_lt, List, [], ◌∷◌, length, slice_index, drop}
use Rattle.std.specs.Prelude.{codes, Option, None, Some}
use Rattle.std.specs.List.{prefix_len}
use Rattle.std.specs.Char.{is_ascii_digit}
use Rattle.ir_token.specs.declared.token.Kind.{Kind}
use Rattle.ir_token.specs.declared.token.Kind.TheVariants.{Word, Global, Local, Comdat, Label, Int, Str, CStr, Group, Meta, Punct, Dots, Opaque}
use Rattle.ir_token.specs.declared.found.Found.{Found}
use Rattle.ir_token.specs.declared.found.Found.TheVariants.{Token, Bad, Open}
use Rattle.ir_token.specs.Bytes.{Bytes, is_blank, begins_word, is_word, is_label, is_meta, is_punct, is_inside}
use Rattle.ir_token.specs.Texts.{closes_at, order, is_prefix, IsToken, IsOpen, IsBad}

-- the first place from i on whose byte is not of the class
abbrev pub past : (ℕ → Bool) → Bytes → ℕ → ℕ
past class b i = i + prefix_len class (drop i b)

-- where the string at i ends, and i where none is
abbrev pub string_end : Bytes → ℕ → ℕ
string_end b i = if slice_index b i == 34 && slice_index b (past is_inside b (i + 1)) == 34 then past is_inside b (i + 1) + 1 else i

-- where the name at i ends, and i where none is
abbrev pub name_end : Bytes → ℕ → ℕ
name_end b i = if is_ascii_digit (slice_index b i) then past is_ascii_digit b i else (if is_label (slice_index b i) then past is_label b i else string_end b i)

-- where the bytes of a Meta behind its `!` end, and i where none are
abbrev pub meta_end : Bytes → ℕ → ℕ
meta_end b i = if is_ascii_digit (slice_index b i) then past is_ascii_digit b i else past is_meta b i

-- the bytes from i on spell this word
abbrev pub spells : List ℕ → Bytes → ℕ → Bool
spells [] b i = true
spells (c ∷ word) b i = slice_index b i == c && spells word b (i + 1)

-- where the closed part at i ends
abbrev pub closed_end : Bytes → ℕ → Option ℕ
closed_end b i = if slice_index b i == 40 || slice_index b i == 123 then closes_at 1 false (i + 1) (drop (i + 1) b) else None

-- where the `=` of metadata at i would stand, behind a Meta and blanks
abbrev pub metadata_equals : Bytes → ℕ → ℕ
metadata_equals b i = past is_blank b (meta_end b (i + 1))

-- metadata begins at i
abbrev pub begins_metadata : Bytes → ℕ → Bool
begins_metadata b i = (slice_index b i == 33 && nat_lt (i + 1) (meta_end b (i + 1))) && slice_index b (metadata_equals b i) == 61

-- where metadata ends whose second `!` is to stand at i
abbrev pub metadata_end : Bytes → ℕ → Option ℕ
metadata_end b i = if slice_index b i == 33 then closed_end b (past is_meta b (i + 1)) else None

-- the place behind `distinct` and blanks at i, and i where there is none
abbrev pub past_distinct : Bytes → ℕ → ℕ
past_distinct b i = if spells (codes "distinct") b i then past is_blank b (i + 8) else i

-- a debug record begins at i
abbrev pub begins_record : Bytes → ℕ → Bool
begins_record b i = spells (codes "#dbg_") b i

-- where the `=` of a comdat at i would stand, behind a Comdat and blanks
abbrev pub comdat_equals : Bytes → ℕ → ℕ
comdat_equals b i = past is_blank b (name_end b (i + 1))

-- where the Word of a comdat would stand whose `comdat` is at i
abbrev pub choice_at : Bytes → ℕ → ℕ
choice_at b i = past is_blank b (i + 6)

-- `comdat`, one blank or more and a letter or `_` stand at i
abbrev pub begins_choice : Bytes → ℕ → Bool
begins_choice b i = (spells (codes "comdat") b i && is_blank (slice_index b (i + 6))) && begins_word (slice_index b (choice_at b i))

-- a comdat begins at i
abbrev pub begins_comdat : Bytes → ℕ → Bool
begins_comdat b i =
    ((slice_index b i == 36 && nat_lt (i + 1) (name_end b (i + 1))) && slice_index b (comdat_equals b i) == 61)
    && begins_choice b (past is_blank b (comdat_equals b i + 1))

-- an Opaque begins at i
abbrev pub begins_opaque : Bytes → ℕ → Bool
begins_opaque b i = begins_metadata b i || (begins_record b i || begins_comdat b i)

-- where metadata ends that begins at i
abbrev pub end_of_metadata : Bytes → ℕ → Option ℕ
end_of_metadata b i = metadata_end b (past_distinct b (past is_blank b (metadata_equals b i + 1)))

-- where a debug record ends that begins at i
abbrev pub end_of_record : Bytes → ℕ → Option ℕ
end_of_record b i = closed_end b (past is_word b (i + 5))

-- where a comdat ends that begins at i
abbrev pub end_of_comdat : Bytes → ℕ → ℕ
end_of_comdat b i = past is_word b (choice_at b (past is_blank b (comdat_equals b i + 1)))

-- where the Opaque ends that begins at i
abbrev pub opaque_end : Bytes → ℕ → Option ℕ
opaque_end b i = if begins_metadata b i then end_of_metadata b i else (if begins_record b i then end_of_record b i else Some (end_of_comdat b i))

-- the place, or i where there is none
abbrev pub place_or : ℕ → Option ℕ → ℕ
place_or i None = i
place_or i (Some e) = e

-- e, but i where nothing stands between the byte at i and e
abbrev pub prefixed : ℕ → ℕ → ℕ
prefixed i e = if nat_lt (i + 1) e then e else i

-- the place behind the colon at e, where something stands between i and it, and i else
abbrev pub with_colon : Bytes → ℕ → ℕ → ℕ
with_colon b i e = if nat_lt i e && slice_index b e == 58 then e + 1 else i

-- the bytes with which a text of the kind can begin
abbrev pub begins : Kind → ℕ → Bool
begins Opaque c = (c == 33 || c == 36) || c == 35
begins Label c = is_label c || c == 34
begins Global c = c == 64
begins Local c = c == 37
begins Comdat c = c == 36
begins Str c = c == 34
begins CStr c = c == 99
begins Group c = c == 35
begins Meta c = c == 33
begins Int c = is_ascii_digit c || c == 45
begins Word c = begins_word c
begins Dots c = c == 46
begins Punct c = is_punct c

-- where a text of the kind ends that begins with such a byte, and i where none does
abbrev pub end_at : Bytes → ℕ → Kind → ℕ
end_at b i Opaque = if begins_opaque b i then place_or i (opaque_end b i) else i
end_at b i Label = with_colon b i (if slice_index b i == 34 then string_end b i else past is_label b i)
end_at b i Global = prefixed i (name_end b (i + 1))
end_at b i Local = prefixed i (name_end b (i + 1))
end_at b i Comdat = prefixed i (name_end b (i + 1))
end_at b i Str = string_end b i
end_at b i CStr = prefixed i (string_end b (i + 1))
end_at b i Group = prefixed i (past is_ascii_digit b (i + 1))
end_at b i Meta = prefixed i (meta_end b (i + 1))
end_at b i Int = if slice_index b i == 45 then prefixed i (past is_ascii_digit b (i + 1)) else past is_ascii_digit b i
end_at b i Word = past is_word b i
end_at b i Dots = if slice_index b (i + 1) == 46 && slice_index b (i + 2) == 46 then i + 3 else i
end_at b i Punct = i + 1

abbrev pub text_end : Bytes → ℕ → Kind → ℕ
text_end b i k = if begins k (slice_index b i) then end_at b i k else i

abbrev pub is_unclosed : Bytes → ℕ → Bool
is_unclosed b i = slice_index b i == 34 && string_end b i == i

-- a string that is not closed begins at i or behind the byte at i
abbrev pub lacks_quote : Bytes → ℕ → Bool
lacks_quote b i = is_unclosed b i || (is_prefix (slice_index b i) && is_unclosed b (i + 1))

-- e is the greatest of the ends at i, and k the first kind with this end
pub record IsLongestEnd (b : Bytes) (i : ℕ) (k : Kind) (e : ℕ) : Type 0 where
  pub is_one : (i < e) × (e ≡ text_end b i k)
  pub longest : (j : Kind) → text_end b i j ≤ e
  pub first : (j : Kind) → e ≡ text_end b i j → order k ≤ order j

pub record IsTokenEnd (b : Bytes) (i : ℕ) (k : Kind) (e : ℕ) : Type 0 where
  pub within : e ≤ length b
  pub unread : begins_opaque b i ≡ true → (k ≡ Opaque) × (opaque_end b i ≡ Some e)
  pub longest : begins_opaque b i ≡ false → IsLongestEnd b i k e × (lacks_quote b i ≡ false)

pub record IsOpenEnd (b : Bytes) (i : ℕ) : Type 0 where
  pub within : i < length b
  pub unread : begins_opaque b i ≡ false
  pub unclosed : lacks_quote b i ≡ true

pub record IsBadEnd (b : Bytes) (i : ℕ) : Type 0 where
  pub within : i < length b
  pub unread : begins_opaque b i ≡ true → opaque_end b i ≡ None
  pub none : begins_opaque b i ≡ false → ((k : Kind) → text_end b i k ≤ i) × (lacks_quote b i ≡ false)

-- what was found at i, by the ends there: the longest text, whatever name it bears
abbrev pub StandsByEnds : Bytes → ℕ → Found → Type 0
StandsByEnds b i (Token k e) = IsTokenEnd b i k e
StandsByEnds b i Bad = IsBadEnd b i
StandsByEnds b i Open = IsOpenEnd b i

-- what was found at i
abbrev pub Stands : Bytes → ℕ → Found → Type 0
Stands b i (Token k e) = IsToken b i k e
Stands b i Bad = IsBad b i
Stands b i Open = IsOpen b i
