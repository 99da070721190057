-- The kinds of token: which stretches of a text are of each kind, in the order in which of two of one length the first is taken.
use Rattle.std.specs.Prelude.{◌≡◌, ℕ, ◌+◌, ◌<◌, ◌≤◌, Bool, true, false, not, ◌||◌, ◌⊎◌, ◌==◌, if◌then◌else◌, [], ◌∷◌, length, slice_index, drop, codes, Option}
use Rattle.std.specs.Prelude.{None, Some}
use Rattle.std.specs.Char.{is_ascii_digit}
use Rattle.ir_token.specs.declared.token.Kind.{Kind}
use Rattle.ir_token.specs.declared.token.Kind.TheVariants.{Word, Global, Local, Comdat, Label, Int, Str, CStr, Group, Meta, Punct, Dots, Opaque}
use Rattle.ir_token.specs.Bytes.{Bytes, is_blank, begins_word, is_word, is_label, is_meta, is_punct, is_inside, IsRun, Spells}
use Rattle.ir_token.specs.Names.{bears_name}
use Rattle.ir_token.specs.Nesting.{then_open}

-- a double quote, the bytes up to the next one, and that one
abbrev pub IsString : Bytes → ℕ → ℕ → Type 0
IsString b i e = (quote : ℕ) × ((slice_index b i ≡ 34) × IsRun is_inside b (i + 1) quote × (slice_index b quote ≡ 34) × (e ≡ quote + 1))

-- one or more bytes of the class
abbrev pub IsSome : (ℕ → Bool) → Bytes → ℕ → ℕ → Type 0
IsSome class b i e = (i < e) × IsRun class b i e

-- digits; or a byte of a label that is no digit, and bytes of a label; or a string
abbrev pub IsName : Bytes → ℕ → ℕ → Type 0
IsName b i e = IsSome is_ascii_digit b i e ⊎ (((is_ascii_digit (slice_index b i) ≡ false) × IsSome is_label b i e) ⊎ IsString b i e)

-- this byte, and a name
abbrev pub IsNamed : ℕ → Bytes → ℕ → ℕ → Type 0
IsNamed sigil b i e = (slice_index b i ≡ sigil) × IsName b (i + 1) e

-- `!`, and digits alone or a byte that is no digit and further bytes of a Meta
abbrev pub IsMeta : Bytes → ℕ → ℕ → Type 0
IsMeta b i e = (slice_index b i ≡ 33) × (IsSome is_ascii_digit b (i + 1) e ⊎ ((is_ascii_digit (slice_index b (i + 1)) ≡ false) × IsSome is_meta b (i + 1) e))

-- where a closed part ends whose bytes from `at` on are these, so many brackets and perhaps a string being open; `;` or `/` leaves it no end
abbrev pub closes_at : ℕ → Bool → ℕ → Bytes → Option ℕ
closes_at depth open_string at [] = None
closes_at depth true at (c ∷ z) = closes_at depth (not (c == 34)) (at + 1) z
closes_at depth false at (c ∷ z) =
    if c == 34 then closes_at depth true (at + 1) z
    else (if c == 59 || c == 47 then None
    else (if then_open depth c == 0 then Some (at + 1)
    else closes_at (then_open depth c) false (at + 1) z))

-- a `(` or `{`, and all that follows to the first place at which as many brackets have closed as have opened
abbrev pub IsClosed : Bytes → ℕ → ℕ → Type 0
IsClosed b i e = ((slice_index b i ≡ 40) ⊎ (slice_index b i ≡ 123)) × (closes_at 1 false (i + 1) (drop (i + 1) b) ≡ Some e)

-- the beginning of metadata: a Meta, blanks and `=`
pub record BeginsMetadata (b : Bytes) (i e : ℕ) : Type 0 where
  pub name_end : ℕ
  pub equals : ℕ
  pub name : IsMeta b i name_end
  pub blanks : IsRun is_blank b name_end equals
  pub sign : slice_index b equals ≡ 61
  pub ends : e ≡ equals + 1

-- `distinct` and blanks, or nothing
abbrev pub IsDistinct : Bytes → ℕ → ℕ → Type 0
IsDistinct b i e = (Spells (codes "distinct") b i × IsRun is_blank b (i + 8) e) ⊎ (e ≡ i)

-- the rest of metadata: blanks, `distinct` and blanks or nothing, `!`, bytes of a Meta or nothing, and a closed part
pub record EndsMetadata (b : Bytes) (i e : ℕ) : Type 0 where
  pub word : ℕ
  pub mark : ℕ
  pub bracket : ℕ
  pub blanks : IsRun is_blank b i word
  pub distinct : IsDistinct b word mark
  pub sign : slice_index b mark ≡ 33
  pub name : IsRun is_meta b (mark + 1) bracket
  pub part : IsClosed b bracket e

-- the rest of a debug record, behind `#dbg_`: bytes of a Word or nothing, and a closed part
abbrev pub EndsRecord : Bytes → ℕ → ℕ → Type 0
EndsRecord b i e = (bracket : ℕ) × (IsRun is_word b i bracket × IsClosed b bracket e)

-- a comdat: a Comdat, blanks, `=`, blanks, `comdat`, one blank or more, and a Word up to where it ends
pub record IsComdat (b : Bytes) (i e : ℕ) : Type 0 where
  pub name_end : ℕ
  pub equals : ℕ
  pub word : ℕ
  pub choice : ℕ
  pub name : IsNamed 36 b i name_end
  pub blanks : IsRun is_blank b name_end equals
  pub sign : slice_index b equals ≡ 61
  pub further : IsRun is_blank b (equals + 1) word
  pub spelled : Spells (codes "comdat") b word
  pub apart : IsSome is_blank b (word + 6) choice
  pub letter : begins_word (slice_index b choice) ≡ true
  pub chosen : IsRun is_word b choice e
  pub ends : is_word (slice_index b e) ≡ false

-- an Opaque begins here: metadata, a debug record, or a comdat
abbrev pub BeginsOpaque : Bytes → ℕ → Type 0
BeginsOpaque b i = ((rest : ℕ) × BeginsMetadata b i rest) ⊎ (Spells (codes "#dbg_") b i ⊎ ((e : ℕ) × IsComdat b i e))

-- the bytes from i to before e are an Opaque
abbrev pub IsOpaque : Bytes → ℕ → ℕ → Type 0
IsOpaque b i e = ((rest : ℕ) × (BeginsMetadata b i rest × EndsMetadata b rest e)) ⊎ ((Spells (codes "#dbg_") b i × EndsRecord b (i + 5) e) ⊎ IsComdat b i e)

-- the bytes from i to before e are a text of the kind
abbrev pub IsText : Kind → Bytes → ℕ → ℕ → Type 0
IsText Opaque b i e = IsOpaque b i e
IsText Label b i e = (colon : ℕ) × ((IsSome is_label b i colon ⊎ IsString b i colon) × (slice_index b colon ≡ 58) × (e ≡ colon + 1))
IsText Global b i e = IsNamed 64 b i e
IsText Local b i e = IsNamed 37 b i e
IsText Comdat b i e = IsNamed 36 b i e
IsText Str b i e = IsString b i e
IsText CStr b i e = (slice_index b i ≡ 99) × IsString b (i + 1) e
IsText Group b i e = (slice_index b i ≡ 35) × IsSome is_ascii_digit b (i + 1) e
IsText Meta b i e = IsMeta b i e
IsText Int b i e = IsSome is_ascii_digit b i e ⊎ ((slice_index b i ≡ 45) × IsSome is_ascii_digit b (i + 1) e)
IsText Word b i e = (begins_word (slice_index b i) ≡ true) × IsSome is_word b i e
IsText Dots b i e = Spells (codes "...") b i × (e ≡ i + 3)
IsText Punct b i e = (is_punct (slice_index b i) ≡ true) × (e ≡ i + 1)

-- the place of a kind in this order
abbrev pub order : Kind → ℕ
order Opaque = 0
order Label = 1
order Global = 2
order Local = 3
order Comdat = 4
order Str = 5
order CStr = 6
order Group = 7
order Meta = 8
order Int = 9
order Word = 10
order Dots = 11
order Punct = 12

-- a double quote at i with no other behind it
abbrev pub IsUnclosed : Bytes → ℕ → Type 0
IsUnclosed b i = (slice_index b i ≡ 34) × IsRun is_inside b (i + 1) (length b)

-- what may stand before a string: `@`, `%`, `$` and `c`
abbrev pub is_prefix : ℕ → Bool
is_prefix c = ((c == 64 || c == 37) || c == 36) || c == 99

-- a string that is not closed begins at i, or behind the one byte before it that is at i
abbrev pub LacksQuote : Bytes → ℕ → Type 0
LacksQuote b i = IsUnclosed b i ⊎ ((is_prefix (slice_index b i) ≡ true) × IsUnclosed b (i + 1))

-- the text at i of kind k, which ends before e, is the longest of any kind, and of kinds with texts of that length the first;
-- but where an Opaque begins, it comes before all others
pub record IsLongest (b : Bytes) (i : ℕ) (k : Kind) (e : ℕ) : Type 0 where
  pub within : e ≤ length b
  pub text : IsText k b i e
  pub unread : BeginsOpaque b i → k ≡ Opaque
  pub closed : LacksQuote b i → k ≡ Opaque
  pub longest : (k ≡ Opaque → ⊥) → (j : Kind) (f : ℕ) → f ≤ length b → IsText j b i f → f ≤ e
  pub first : (j : Kind) → IsText j b i e → order k ≤ order j

-- the token at i is of kind k and ends before e: the longest text, which bears a name where its kind has one
pub record IsToken (b : Bytes) (i : ℕ) (k : Kind) (e : ℕ) : Type 0 where
  pub longest : IsLongest b i k e
  pub named : bears_name b k i e ≡ true

-- no string closes at i, and no Opaque begins there
pub record IsOpen (b : Bytes) (i : ℕ) : Type 0 where
  pub within : i < length b
  pub unread : BeginsOpaque b i → ⊥
  pub unclosed : LacksQuote b i

-- no text of any kind begins at i, nor a string that is not closed
pub record BeginsNone (b : Bytes) (i : ℕ) : Type 0 where
  pub none : (k : Kind) (e : ℕ) → e ≤ length b → IsText k b i e → ⊥
  pub closed : LacksQuote b i → ⊥

-- an Opaque begins at i, and it has no end
abbrev pub LacksEnd : Bytes → ℕ → Type 0
LacksEnd b i = BeginsOpaque b i × ((e : ℕ) → e ≤ length b → IsOpaque b i e → ⊥)

-- the longest text at i bears no name
abbrev pub LacksName : Bytes → ℕ → Type 0
LacksName b i = (k : Kind) × ((e : ℕ) × (IsLongest b i k e × (bears_name b k i e ≡ false)))

-- no token can be taken at i, and it is no string that lacks its end
pub record IsBad (b : Bytes) (i : ℕ) : Type 0 where
  pub within : i < length b
  pub cause : BeginsNone b i ⊎ (LacksEnd b i ⊎ LacksName b i)
