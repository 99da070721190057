-- A text with words put in: what each insertion spells, and where it stands.
use Rattle.std.specs.Prelude.{◌≡◌, ℕ, zero, suc, ◌+◌, Bool, ◌||◌, ◌==◌, if◌then◌else◌, Option, Some, None, List, [], ◌∷◌, ◌++◌, filter, slice_get, codes}
use Rattle.std.specs.List.{flat_map, list_any}
use Rattle.std.specs.List.Sorted.{IsNonDecreasingBy}
use Rattle.std.specs.Char.{is_ascii_alphanumeric}
use Rattle.attr_ids.specs.declared.insertion.Insertion.{Insertion}
use Rattle.attr_ids.specs.declared.insertion.Place.{Place}
use Rattle.attr_ids.specs.declared.insertion.Place.TheVariants as place

-- a letter, a digit or one of _ . $ - : would be read as part of a word that stands right before it
abbrev pub joins_a_word : ℕ → Bool
joins_a_word byte = is_ascii_alphanumeric byte || list_any (λ mark. byte == mark) (codes "_.$-:")

-- one blank where the byte that follows would join the words before it, and nothing elsewhere
abbrev pub parting : Option ℕ → List ℕ
parting None = []
parting (Some byte) = if joins_a_word byte then codes " " else []

-- a letter, a digit or one of _ . $ - " would be read as part of a word that stands right behind it
abbrev pub joins_from_before : ℕ → Bool
joins_from_before byte = is_ascii_alphanumeric byte || list_any (λ mark. byte == mark) (codes "_.$-\"")

-- one blank where the byte before would join the words behind it, and nothing elsewhere
abbrev pub parting_from : Option ℕ → List ℕ
parting_from None = []
parting_from (Some byte) = if joins_from_before byte then codes " " else []

-- words that stand before something: a blank goes behind them, and one before them where they need it
abbrev pub spelled_before : List ℕ → Option ℕ → List ℕ
spelled_before words before = parting_from before ++ words ++ codes " "

-- words that stand behind something: a blank goes before them, and one more where they need it
abbrev pub spelled_behind : List ℕ → Option ℕ → List ℕ
spelled_behind words next = codes " " ++ words ++ parting next

-- words at a place: on what is returned they stand before the type, on all else behind the place
abbrev pub spelled_at : Place → List ℕ → Option ℕ → Option ℕ → List ℕ
spelled_at place.Function words before next = spelled_behind words next
spelled_at place.Return words before next = spelled_before words before
spelled_at place.Parameter words before next = spelled_behind words next
spelled_at place.Call words before next = spelled_behind words next
spelled_at place.CallReturn words before next = spelled_before words before
spelled_at place.Argument words before next = spelled_behind words next

-- the bytes that one insertion puts in between two bytes of the text, if it has them
abbrev pub spelled : Insertion → Option ℕ → Option ℕ → List ℕ
spelled insertion before next = spelled_at insertion.place insertion.words before next

-- the byte of a text before an offset, none at its start
abbrev pub byte_before : List ℕ → ℕ → Option ℕ
byte_before text zero = None
byte_before text (suc offset) = slice_get text offset

-- the bytes that one insertion puts into a text, by the bytes on either side of its offset
abbrev pub spelled_in : List ℕ → Insertion → List ℕ
spelled_in text insertion = spelled insertion (byte_before text insertion.at) (slice_get text insertion.at)

-- the insertions that stand at an offset, in their order
abbrev pub standing_at : ℕ → List Insertion → List Insertion
standing_at offset insertions = filter (λ insertion. insertion.at == offset) insertions

-- the bytes that are put into a text at an offset
abbrev pub put : List ℕ → List Insertion → ℕ → List ℕ
put text insertions offset = flat_map (λ insertion. spelled_in text insertion) (standing_at offset insertions)

-- the bytes of a text from an offset on, each after what is put in at its offset
abbrev pub woven_from : List ℕ → List Insertion → ℕ → List ℕ → List ℕ
woven_from text insertions offset [] = put text insertions offset
woven_from text insertions offset (byte ∷ rest) = put text insertions offset ++ byte ∷ woven_from text insertions (offset + 1) rest

-- out is the text with the words of each insertion put in at its offset
abbrev pub Woven : List ℕ → List Insertion → List ℕ → Type 0
Woven text insertions out = out ≡ woven_from text insertions 0 text

-- the offsets never fall from one insertion to a later one
abbrev pub OffsetsRise : List Insertion → Type 0
OffsetsRise insertions = IsNonDecreasingBy (λ insertion. insertion.at) insertions
