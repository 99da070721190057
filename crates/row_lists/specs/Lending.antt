-- How a change through the words that are lent comes back.
use Rattle.std.specs.Prelude.{ℕ, List, length, slice_set}
use Rattle.std.specs.List.{refill}
use Rattle.std.specs.Borrow.{Lends, MutBor, Fml, Array, u64}
use Rattle.row_lists.specs.EdgeRow.{EdgeRow, row_at, with_bits}
use Rattle.row_lists.specs.contracts.edge_rows.EdgeRows.{the_row}

-- the lists end with the words of list number `at` as they were last written through r, as many as before
abbrev pub LendsBits : MutBor (List EdgeRow) → ℕ → MutBor (List ℕ) → Fml
LendsBits rows at r = Lends the_row (Array u64 0) rows r
    (λ bits. slice_set rows.now at (with_bits (row_at rows.now at) (refill (length (row_at rows.now at).bits) (row_at rows.now at).bits bits)))
