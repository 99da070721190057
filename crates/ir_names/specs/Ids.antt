-- The names of a text, and a number for each of them.
use Rattle.std.specs.Prelude.{ℕ, ◌+◌, ◌*◌, Bool, false, if◌then◌else◌, List, map, Option, None, Some, decimal}
use Rattle.std.specs.List.{position_from}
use Rattle.std.specs.Option.{unwrap_or}
use Rattle.std.specs.Str.{bytes_eq}
use Rattle.ir_token.specs.declared.token.Token.{Token}
use Rattle.ir_token.specs.Texts.{IsToken}
use Rattle.ir_token.specs.Names.{Name, has_name, name_at, name_bytes}
use Rattle.ir_token.specs.Names.Name.{Number, Bytes as Spelled}

-- the token is one of this text
abbrev pub IsTokenOf : List ℕ → Token → Type 0
IsTokenOf b t = IsToken b t.span.from t.kind t.span.to

-- the bytes that write the name of a token, its quotes among them
abbrev pub written : List ℕ → Token → List ℕ
written b t = name_bytes b t.kind t.span.from t.span.to

-- the name of a token, where its kind has one
abbrev pub name : List ℕ → Token → Option Name
name b t = if has_name t.kind then Some (name_at b t.kind t.span.from t.span.to) else None

-- the names of a text, in its order
abbrev pub names : List ℕ → List Token → List (Option Name)
names b ts = map (name b) ts

-- the token's name is these bytes
abbrev pub reads_as : List ℕ → Option Name → Bool
reads_as w (Some (Spelled v)) = bytes_eq w v
reads_as w (Some (Number n)) = false
reads_as w None = false

-- the place of the first token whose name is these bytes
abbrev pub first_place : List ℕ → List (Option Name) → Option ℕ
first_place w xs = position_from (reads_as w) 0 xs

-- the number of a name that is a number: every even number is one of these
abbrev pub numeral : ℕ → ℕ
numeral n = n * 2

-- the number of a name that is bytes: it goes by the place at which they are written first, and is odd
abbrev pub spelled : Option ℕ → ℕ
spelled place = unwrap_or place 0 * 2 + 1

-- the number of a name of a text; 0 stands where there is none
abbrev pub id_of : List (Option Name) → Option Name → ℕ
id_of xs None = 0
id_of xs (Some (Number n)) = numeral n
id_of xs (Some (Spelled w)) = spelled (first_place w xs)

-- the numbers of the names of a text, one for each token
abbrev pub name_ids : List ℕ → List Token → List ℕ
name_ids b ts = map (id_of (names b ts)) (names b ts)

-- the bytes of a name: a number is written in digits, with no zero in front
abbrev pub name_text : Name → List ℕ
name_text (Number n) = decimal n
name_text (Spelled w) = w
