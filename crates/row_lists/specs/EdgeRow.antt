-- Positions in a list, and beside each a word.
use Rattle.std.specs.Prelude.{ℕ, List, [], ◌∷◌, ◌++◌, take, slice_index_or}
use Rattle.attr_ids.specs.declared.ids.PosId.{PosId}

pub record EdgeRow : Type 0 where
  pub positions : List PosId
  pub bits : List ℕ

abbrev pub empty_row : EdgeRow
empty_row = record { positions = []; bits = [] }

-- list number `at`, or one without entries
abbrev pub row_at : List EdgeRow → ℕ → EdgeRow
row_at rows at = slice_index_or rows at empty_row

-- one more position at the end, and its word beside it
abbrev pub with_edge : EdgeRow → PosId → ℕ → EdgeRow
with_edge row position bits = record { positions = row.positions ++ position ∷ []; bits = row.bits ++ bits ∷ [] }

-- the first so many positions, and their words
abbrev pub cut_to : ℕ → EdgeRow → EdgeRow
cut_to count row = record { positions = take count row.positions; bits = take count row.bits }

-- the list with these words beside its positions
abbrev pub with_bits : EdgeRow → List ℕ → EdgeRow
with_bits row bits = record row { bits = bits }
