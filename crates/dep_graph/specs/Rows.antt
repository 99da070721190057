-- How the rows of a graph are filled.
use Rattle.std.specs.Prelude.{ℕ, zero, suc, ◌==◌, if◌then◌else◌, List, [], ◌∷◌, ◌++◌}
use Rattle.attr_ids.specs.declared.ids.PosId.{PosId}
use Rattle.dep_graph.specs.Graph.{empty_row}
use Rattle.dep_graph.specs.Row.{Row}

-- the row with one more dependent
abbrev pub added : Row → PosId → ℕ → Row
added row d bits = record { dependents = row.dependents ++ d ∷ []; reads = row.reads ++ bits ∷ [] }

-- the row of the position q after d was entered for each of these inputs that is q
unfoldable pub entered : List PosId → (ℕ → ℕ) → PosId → Row → ℕ → Row
entered [] reads d row q = row
entered (p ∷ ps) reads d row q = entered ps reads d (if p.0 == q then added row d (reads q) else row) q

-- the row of q with those of the first so many positions as dependents that name it
unfoldable pub row_below : (ℕ → List PosId) → (ℕ → ℕ → ℕ) → ℕ → ℕ → Row
row_below inputs reads zero q = empty_row
row_below inputs reads (suc d) q = entered (inputs d) (reads d) (record { 0 = d }) (row_below inputs reads d q) q
