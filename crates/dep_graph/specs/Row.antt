-- The dependents of one position, and what each reads of it.
use Rattle.std.specs.Prelude.{ℕ, List, map}
use Rattle.attr_ids.specs.declared.ids.PosId.{PosId}
use Rattle.row_lists.specs.EdgeRow.{EdgeRow}

-- the positions whose terms name one position, and beside each the bits that it reads of it
pub record Row : Type 0 where
  pub dependents : List PosId
  pub reads : List ℕ

-- a list of positions and words as such a row
abbrev pub row_of : EdgeRow → Row
row_of row = record { dependents = row.positions; reads = row.bits }

-- lists of positions and words as such rows
abbrev pub shown : List EdgeRow → List Row
shown rows = map row_of rows
