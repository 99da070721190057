-- What the profile of the language leaves out, by the token at which it is refused.
use Rattle.std.specs.Prelude.{◌≡◌, ℕ, ◌+◌, Bool, true, false, not, ◌&&◌, ◌||◌, ◌⊎◌, ◌==◌, nat_lt, if◌then◌else◌, List, [], ◌∷◌, map, length, slice_index}
use Rattle.std.specs.Prelude.{slice_range, drop}
use Rattle.std.specs.List.{list_any, list_all}
use Rattle.std.specs.Str.{bytes_eq}
use Rattle.std.specs.Str.Parse.{digits_value}
use Rattle.std.specs.Char.{is_ascii_digit}
use Rattle.ir_token.specs.declared.token.Kind.{Kind}
use Rattle.ir_token.specs.declared.token.Kind.TheVariants.{Word, Global, Int, Punct}
use Rattle.ir_token.specs.declared.words.TheConstants.{LEFT_WORDS, LEFT_NAMES, KEPT_NAMES}
use Rattle.ir_token.specs.Bytes.{Bytes, is_blank, ends_comment}
use Rattle.ir_token.specs.Texts.{IsToken}
use Rattle.ir_token.specs.Names.{Name, name_at}
use Rattle.ir_token.specs.Names.Name.{Number, Bytes as Spelled}

-- how many bytes at the front are blanks and comments; a comment goes from `;` to before a line feed or carriage return, and one may be open
abbrev pub gap_len : Bool → Bytes → ℕ
gap_len open_comment [] = 0
gap_len true (c ∷ z) = 1 + gap_len (not (ends_comment c)) z
gap_len false (c ∷ z) = if c == 59 then 1 + gap_len true z else (if is_blank c then 1 + gap_len false z else 0)

-- the first place from i on that is in no blank and no comment
abbrev pub past_gap : Bytes → ℕ → ℕ
past_gap b i = i + gap_len false (drop i b)

abbrev pub is_among : List Bytes → Bytes → Bool
is_among words w = list_any (λ word. bytes_eq word w) words

abbrev pub begins_with : Bytes → Bytes → Bool
begins_with w [] = true
begins_with [] (c ∷ front) = false
begins_with (x ∷ w) (c ∷ front) = x == c && begins_with w front

-- the words that are left out, in rows by their letter
unfoldable pub left_rows : List (List Bytes)
left_rows = map (λ row. map (λ word. word.now) row.now) LEFT_WORDS.now

-- a word of one of the rows
unfoldable pub is_in_rows : Bytes → Bool
is_in_rows w = list_any (λ row. is_among row w) left_rows

-- the type of integers of a width that is 0 or above 64
abbrev pub is_left_width : Bytes → Bool
is_left_width w = (slice_index w 0 == 105 && nat_lt 1 (length w))
    && (list_all is_ascii_digit (drop 1 w) && (digits_value 10 (drop 1 w) == 0 || nat_lt 64 (digits_value 10 (drop 1 w))))

-- a word that is left out
abbrev pub is_left_word : Bytes → Bool
is_left_word w = is_in_rows w || is_left_width w

-- the bytes of a global name that is left out
abbrev pub are_left : Bytes → Bool
are_left w = list_any (begins_with w) (map (λ front. front.now) LEFT_NAMES.now) && not (is_among (map (λ kept. kept.now) KEPT_NAMES.now) w)

-- a global name that is left out, which is no number
abbrev pub is_left_name : Name → Bool
is_left_name (Number value) = false
is_left_name (Spelled bytes) = are_left bytes

-- a `<` whose next token is an integer begins the type of a vector
abbrev pub BeginsVector : Bytes → ℕ → Kind → ℕ → Type 0
BeginsVector b i k e = (k ≡ Punct) × (slice_index b i ≡ 60) × ((to : ℕ) × IsToken b (past_gap b e) Int to)

-- this token is left out
abbrev pub IsLeft : Bytes → ℕ → Kind → ℕ → Type 0
IsLeft b i k e =
    ((k ≡ Word) × (is_left_word (slice_range b i e) ≡ true))
    ⊎ (((k ≡ Global) × (is_left_name (name_at b Global i e) ≡ true)) ⊎ BeginsVector b i k e)
