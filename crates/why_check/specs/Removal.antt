-- A ranked removal: a list of entries, each of which takes facts away that the words before it do not give.
use Rattle.std.specs.Prelude.{◌≡◌, ◌≢◌, ℕ, ◌<◌, List, [], ◌∷◌, length, take, slice_index, slice_index_or, slice_set, bit_and, bit_xor}
use Rattle.rule_terms.specs.System.{System, value_in}
use Rattle.rule_terms.specs.Greatest.{IsSelfSupporting}
use Rattle.why_check.specs.declared.entry.Entry.{Entry}

-- over these words the entry may be removed: it has facts, the word of its position has them all, and what
-- the position's mask and terms leave over the words has none of them
pub record IsRemovable (s : System) (words : List ℕ) (entry : Entry) : Type 0 where
  pub position : entry.p.0 < length s.masks
  pub some : entry.bits ≢ 0
  pub present : bit_and (slice_index words entry.p.0) entry.bits ≡ entry.bits
  pub absent : bit_and (value_in s entry.p.0 words) entry.bits ≡ 0

-- the words once an entry's facts are taken away: each of its bits was set, and is turned off
abbrev pub after_entry : List ℕ → Entry → List ℕ
after_entry words entry = slice_set words entry.p.0 (bit_xor (slice_index words entry.p.0) entry.bits)

-- the words once the facts of all entries are taken away, one entry after another
unfoldable pub words_after : List ℕ → List Entry → List ℕ
words_after words [] = words
words_after words (entry ∷ rest) = words_after (after_entry words entry) rest

-- the words that are left of the masks
abbrev pub words_left : System → List Entry → List ℕ
words_left s entries = words_after s.masks entries

-- the entry number k may be removed over the words that the entries before it leave
abbrev pub IsRemovableAt : System → List Entry → ℕ → Type 0
IsRemovableAt s entries k = (d : Entry) → IsRemovable s (words_left s (take k entries)) (slice_index_or entries k d)

-- each entry of the list may be removed in its turn
abbrev pub IsRemoval : System → List Entry → Type 0
IsRemoval s entries = (k : ℕ) → k < length entries → IsRemovableAt s entries k

-- no fact of an entry stands in a list of words that supports itself
abbrev pub NoneIsSupported : System → List Entry → Type 0
NoneIsSupported s entries = (words : List ℕ) → IsSelfSupporting s words → (k : ℕ) (d : Entry) → k < length entries →
    bit_and (slice_index words (slice_index_or entries k d).p.0) (slice_index_or entries k d).bits ≡ 0
