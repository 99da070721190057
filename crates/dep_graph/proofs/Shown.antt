-- What a graph's lists show of lists of positions and words.
use Rattle.std.proofs.Common.{◌≡◌, ℕ, zero, suc, List, [], ◌∷◌, length, replicate, set, refl, ap, sym, ◌∙◌}
use Rattle.std.proofs.lemmas.List.{length-map}
use Rattle.attr_ids.specs.declared.ids.PosId.{PosId}
use Rattle.row_lists.specs.EdgeRow.{EdgeRow, with_edge, row_at as edges_at, empty_row as empty_edges}
use Rattle.dep_graph.specs.Row.{Row, row_of, shown}
use Rattle.dep_graph.specs.Graph.{empty_row, row_at}
use Rattle.dep_graph.specs.Rows.{added}

-- as many rows as lists
pub length-shown : (rows : List EdgeRow) → length (shown rows) ≡ length rows
length-shown rows = length-map rows row_of

-- each row shows the list of its number
pub shown_at : (rows : List EdgeRow) (q : ℕ) → row_at (shown rows) q ≡ row_of (edges_at rows q)
shown_at [] q = refl
shown_at (row ∷ rows) zero = refl
shown_at (row ∷ rows) (suc q) = shown_at rows q

-- one list that is written is one row that is written
pub shown-set : (rows : List EdgeRow) (at : ℕ) (row : EdgeRow) → shown (set rows at row) ≡ set (shown rows) at (row_of row)
shown-set [] at row = refl
shown-set (x ∷ rows) zero row = refl
shown-set (x ∷ rows) (suc at) row =
    let rest = shown-set rows at row in
    λ i. row_of x ∷ rest i

-- empty lists show empty rows
pub shown-empty : (n : ℕ) → shown (replicate n empty_edges) ≡ replicate n empty_row
shown-empty zero = refl
shown-empty (suc n) =
    let rest = shown-empty n in
    λ i. empty_row ∷ rest i

-- one more position in a list is one more dependent in its row
pub shown_more : (rows : List EdgeRow) (at : ℕ) (d : PosId) (bits : ℕ) →
    shown (set rows at (with_edge (edges_at rows at) d bits)) ≡ set (shown rows) at (added (row_at (shown rows) at) d bits)
shown_more rows at d bits =
    shown-set rows at (with_edge (edges_at rows at) d bits) ∙ ap (λ (row : Row). set (shown rows) at (added row d bits)) (sym (shown_at rows at))
