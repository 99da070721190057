-- The list of entries that sweeps make: each visits the positions by rising number, over the words present.
use Rattle.std.specs.Prelude.{◌≡◌, ℕ, zero, suc, ◌+◌, ◌==◌, if◌then◌else◌, List, [], ◌∷◌, ◌++◌, length, slice_index, bit_and, bit_xor}
use Rattle.rule_terms.specs.System.{System, value_in}
use Rattle.why_check.specs.declared.entry.Entry.{Entry}
use Rattle.why_check.specs.Removal.{after_entry}
use Rattle.why_make.specs.declared.course.Course.{Course}

-- the facts of a position's word that its mask and terms do not leave over the words
abbrev pub lost_of : System → List ℕ → ℕ → ℕ
lost_of s words p = bit_xor (slice_index words p) (bit_and (slice_index words p) (value_in s p words))

-- the entry that takes them away
abbrev pub entry_at : System → List ℕ → ℕ → Entry
entry_at s words p = record { p = record { 0 = p }; bits = lost_of s words p }

-- the course once a position was visited: nothing changes where it loses nothing
abbrev pub visited : System → Course → ℕ → Course
visited s c p = if lost_of s c.words p == 0 then c
    else record { words = after_entry c.words (entry_at s c.words p); entries = c.entries ++ entry_at s c.words p ∷ [] }

-- the course once the first n positions were visited, by rising number
unfoldable pub swept : System → Course → ℕ → Course
swept s c zero = c
swept s c (suc n) = visited s (swept s c n) n

-- the course at first: the masks, and no entry
abbrev pub opening : System → Course
opening s = record { words = s.masks; entries = [] }

-- the course after n sweeps
unfoldable pub sweeps : System → ℕ → Course
sweeps s zero = opening s
sweeps s (suc n) = swept s (sweeps s n) (length s.masks)

-- the entries of so many sweeps that one sweep more finds nothing
abbrev pub IsListOfSweeps : System → List Entry → Type 0
IsListOfSweeps s entries = (n : ℕ) × (entries ≡ (sweeps s n).entries) × (sweeps s (suc n) ≡ sweeps s n)
