-- Lists that lie in one run, each in a place of its own.
use Rattle.std.specs.Prelude.{◌≡◌, ◌≢◌, ◌+◌, ◌<◌, ◌≤◌, ◌⊎◌, max, ℕ, List, ◌++◌, take, drop, length, slice_get, Some}
use Rattle.row_lists.specs.declared.layout.Row.{Row}

-- the list that lies at this place of a run
abbrev pub listed : {X : Type 0} → List X → Row → List X
listed xs row = take row.len (drop row.from xs)

-- a list is no longer than its room, and its room ends before the run does
abbrev pub IsWithin : ℕ → Row → Type 0
IsWithin end row = (row.len ≤ row.room) × (row.from + row.room ≤ end)

-- the room of one list ends before that of the other begins, unless one of them has no room at all
abbrev pub AreApart : Row → Row → Type 0
AreApart a b = 0 < a.room → 0 < b.room → (a.from + a.room ≤ b.from) ⊎ (b.from + b.room ≤ a.from)

-- each list lies within a run of this length, and no two of them share an entry
pub record IsLaid (end : ℕ) (rows : List Row) : Type 0 where
  pub within : (k : ℕ) (row : Row) → slice_get rows k ≡ Some row → IsWithin end row
  pub apart : (j k : ℕ) (a b : Row) → j ≢ k → slice_get rows j ≡ Some a → slice_get rows k ≡ Some b → AreApart a b

-- so many lists without entries
pub record AreEmpty (count : ℕ) (rows : List Row) : Type 0 where
  pub count_is : length rows ≡ count
  pub none : (k : ℕ) (row : Row) → slice_get rows k ≡ Some row → row.len ≡ 0

-- where a list may go that gets room for one entry more: it stays, or, where its room ends with the run, it gets
-- the next entry of the run, or it moves to the end of the run
abbrev pub GoesTo : ℕ → Row → Row → Type 0
GoesTo end row new = (new ≡ row) ⊎ (((row.from + row.room ≡ end) × (new.from ≡ row.from) × (row.room ≤ new.room)) ⊎ (new.from ≡ end))

-- the place of a list with room for one entry more, in a run of this length
pub record IsGrown (end : ℕ) (row new : Row) : Type 0 where
  pub same_len : new.len ≡ row.len
  pub free : new.len < new.room
  pub goes : GoesTo end row new

-- the run is as it was, with more entries behind it
pub record Extends {X : Type 0} (old new : List X) : Type 0 where
  pub more : List X
  pub is : new ≡ old ++ more

-- the run reaches up to the end of the list's new place, which holds the same list
pub record IsLengthened {X : Type 0} (old new : List X) (row to : Row) : Type 0 where
  pub extends : Extends old new
  pub reaches : length new ≡ max (length old) (to.from + to.room)
  pub same : listed new to ≡ listed old row
