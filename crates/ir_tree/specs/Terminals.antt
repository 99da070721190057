-- What each token is to the grammar.
use Rattle.std.specs.Prelude.{ℕ, ◌-◌, Bool, ◌&&◌, if◌then◌else◌, ◌==◌, nat_lt, List, [], ◌∷◌, map, length, slice_index, slice_index_or, slice_range, drop}
use Rattle.std.specs.Borrow.{Bor}
use Rattle.std.specs.List.{list_all}
use Rattle.std.specs.Str.{bytes_eq}
use Rattle.std.specs.Char.{is_ascii_digit, is_ascii_lowercase}
use Rattle.ir_token.specs.Bytes.{Bytes}
use Rattle.ir_token.specs.declared.token.Kind.{Kind}
use Rattle.ir_token.specs.declared.token.Kind.TheVariants as kind
use Rattle.ir_token.specs.declared.token.Token.{Token}
use Rattle.ir_tree.specs.declared.terminal.Terminal.{Terminal}
use Rattle.ir_tree.specs.declared.terminal.Terminal.TheVariants as k
use Rattle.ir_tree.specs.declared.words.TheConstants.{WORDS}

-- what a row has for this word; a word that it lacks is an attribute's
abbrev pub found : List (Bytes × Terminal) → Bytes → Terminal
found [] w = k.Word
found (x ∷ row) w = if bytes_eq x.0 w then x.1 else found row w

-- a word as a table has it
abbrev pub entry : Bor (List ℕ) × Terminal → Bytes × Terminal
entry x = (x.0.now, x.1)

abbrev pub entries : List (Bor (List ℕ) × Terminal) → List (Bytes × Terminal)
entries row = map entry row

-- the words of the grammar, a row for each letter
unfoldable pub rows : List (List (Bytes × Terminal))
rows = map (λ row. map (λ x. (x.0.now, x.1)) row.now) WORDS.now

-- the row of a letter
unfoldable pub row_of : ℕ → List (Bytes × Terminal)
row_of letter = if is_ascii_lowercase letter then slice_index_or rows (letter - 97) [] else []

-- `i` and digits
abbrev pub is_int_type : Bytes → Bool
is_int_type w = slice_index w 0 == 105 && (nat_lt 1 (length w) && list_all is_ascii_digit (drop 1 w))

-- three bytes or more, of which the last two are `cc`
abbrev pub is_cc_name : Bytes → Bool
is_cc_name w = nat_lt 2 (length w) && (slice_index w (length w - 2) == 99 && slice_index w (length w - 1) == 99)

abbrev pub of_word : Bytes → Terminal
of_word w = if is_int_type w then k.IntType else (if is_cc_name w then k.CcWord else found (row_of (slice_index w 0)) w)

abbrev pub of_mark : ℕ → Terminal
of_mark c = if c == 40 then k.LeftParen else
    (if c == 41 then k.RightParen else
    (if c == 91 then k.LeftBracket else
    (if c == 93 then k.RightBracket else
    (if c == 123 then k.LeftBrace else
    (if c == 125 then k.RightBrace else (if c == 60 then k.Less else (if c == 62 then k.Greater else (if c == 44 then k.Comma else k.Equals))))))))

-- what a token of a kind is, whose bytes are these
abbrev pub of_kind : Kind → Bytes → Terminal
of_kind kind.Word w = of_word w
of_kind kind.Global w = k.Global
of_kind kind.Local w = k.Local
of_kind kind.Comdat w = k.Comdat
of_kind kind.Label w = k.Label
of_kind kind.Int w = k.Int
of_kind kind.Str w = k.Str
of_kind kind.CStr w = k.CStr
of_kind kind.Group w = k.Group
of_kind kind.Meta w = k.Meta
of_kind kind.Punct w = of_mark (slice_index w 0)
of_kind kind.Dots w = k.Dots
of_kind kind.Opaque w = k.Opaque

abbrev pub terminal : Bytes → Token → Terminal
terminal b t = of_kind t.kind (slice_range b t.span.from t.span.to)

abbrev pub terminals : Bytes → List Token → List Terminal
terminals b ts = map (terminal b) ts
