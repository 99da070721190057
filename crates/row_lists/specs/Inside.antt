-- What lists in two runs are.
use Rattle.std.specs.Prelude.{ℕ, List}
use Rattle.attr_ids.specs.declared.ids.PosId.{PosId}
use Rattle.row_lists.specs.declared.layout.Row.{Row}
use Rattle.row_lists.specs.EdgeRow.{EdgeRow}
use Rattle.row_lists.specs.Lists.{listed}

-- the list that lies at this place of both runs
abbrev pub edges_at : List PosId → List ℕ → Row → EdgeRow
edges_at positions bits row = record { positions = listed positions row; bits = listed bits row }
