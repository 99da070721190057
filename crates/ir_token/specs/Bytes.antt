-- Bytes of a text, their classes, and runs of one class. A place is an index into the whole text; a byte past its end
-- reads as 0, which is in no class that a token can begin with.
use Rattle.std.specs.Prelude.{◌≡◌, ℕ, ◌+◌, ◌<◌, ◌≤◌, Bool, true, not, ◌||◌, ◌==◌, List, [], ◌∷◌, slice_index}
use Rattle.std.specs.Char.{is_ascii_alphabetic, is_ascii_alphanumeric}

abbrev pub Bytes : Type 0
Bytes = List ℕ

-- space, tab, carriage return, line feed
abbrev pub is_blank : ℕ → Bool
is_blank c = ((c == 32 || c == 9) || c == 13) || c == 10

-- what a Word may begin with: a letter or `_`
abbrev pub begins_word : ℕ → Bool
begins_word c = is_ascii_alphabetic c || c == 95

-- what a Word may go on with: letters, digits, `_` and `.`
abbrev pub is_word : ℕ → Bool
is_word c = (is_ascii_alphanumeric c || c == 95) || c == 46

-- the bytes of a Label before its colon, and of a name: letters, digits, `$`, `.`, `_` and `-`
abbrev pub is_label : ℕ → Bool
is_label c = (((is_ascii_alphanumeric c || c == 95) || c == 46) || c == 36) || c == 45

-- the bytes of a Meta after its `!`: those of a label, and the backslash
abbrev pub is_meta : ℕ → Bool
is_meta c = is_label c || c == 92

-- `( ) [ ] { } < > , =`
abbrev pub is_punct : ℕ → Bool
is_punct c = ((((c == 40 || c == 41) || (c == 91 || c == 93)) || (c == 123 || c == 125)) || (c == 60 || c == 62)) || (c == 44 || c == 61)

-- every byte but the double quote, which ends a string
abbrev pub is_inside : ℕ → Bool
is_inside c = not (c == 34)

-- the bytes that end a comment: line feed and carriage return
abbrev pub ends_comment : ℕ → Bool
ends_comment c = c == 10 || c == 13

-- every byte from i to before e is of the class
pub record IsRun (class : ℕ → Bool) (b : Bytes) (i e : ℕ) : Type 0 where
  pub forward : i ≤ e
  pub each : (j : ℕ) → i ≤ j → j < e → class (slice_index b j) ≡ true

-- the bytes from i on spell this word
abbrev pub Spells : List ℕ → Bytes → ℕ → Type 0
Spells [] b i = Unit {0}
Spells (c ∷ word) b i = (slice_index b i ≡ c) × Spells word b (i + 1)
