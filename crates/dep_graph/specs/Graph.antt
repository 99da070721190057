-- Which positions a position's word is read by, as the inverse of the inputs.
use Rattle.std.specs.Prelude.{◌≡◌, ℕ, zero, suc, ◌+◌, ◌*◌, ◌<◌, ◌≤◌, ◌↔◌, List, [], length, slice_get, slice_index, slice_index_or, Some, Contains, AllPairs}
use Rattle.std.specs.Prelude.{count_ones, sum_by, zip}
use Rattle.attr_ids.specs.declared.ids.PosId.{PosId}
use Rattle.rule_terms.specs.System.{System, inputs_of}
use Rattle.rule_terms.specs.Reads.{reads_by}
use Rattle.dep_graph.specs.Row.{Row}
use Rattle.dep_graph.specs.declared.invert.TheConstants.{EDGE_LIMIT}

-- the row of a position that no term names
abbrev pub empty_row : Row
empty_row = record { dependents = []; reads = [] }

-- what the graph has at a position
abbrev pub row_at : List Row → ℕ → Row
row_at rows q = slice_index_or rows q empty_row

-- The row of the position q, where `inputs` gives the inputs of each of so many positions, and `reads` the
-- bits that the one position reads of the other.
pub record IsRow (inputs : ℕ → List PosId) (reads : ℕ → ℕ → ℕ) (count : ℕ) (q : PosId) (row : Row) : Type 0 where
  pub dependents : (d : PosId) → Contains row.dependents d ↔ ((d.0 < count) × Contains (inputs d.0) q)
  pub rising : AllPairs (λ d e. d.0 < e.0) row.dependents
  pub long : length row.reads ≡ length row.dependents
  pub bits : (j : ℕ) (d : PosId) → slice_get row.dependents j ≡ Some d → slice_index row.reads j ≡ reads d.0 q.0

-- how many edges a graph has
abbrev pub edge_count : List Row → ℕ
edge_count rows = sum_by (λ row. length row.dependents) rows

-- the graph has a row for each position of the system, and its edges are within the limit
pub record IsGraphOf (s : System) (graph : List Row) : Type 0 where
  pub long : length graph ≡ length s.masks
  pub rows : (q : PosId) → q.0 < length s.masks → IsRow (inputs_of s) (reads_by s) (length s.masks) q (row_at graph q.0)
  pub few : edge_count graph ≤ EDGE_LIMIT

-- how many inputs the first so many positions have together
unfoldable pub edges_below : System → ℕ → ℕ
edges_below s zero = 0
edges_below s (suc p) = edges_below s p + length (inputs_of s p)

-- how many inputs all positions have together
abbrev pub edges_of : System → ℕ
edges_of s = edges_below s (length s.masks)

-- how often the dependents of a position are taken up again at most: each once for each bit that it can lose
abbrev pub retaken : ℕ → Row → ℕ
retaken mask row = count_ones mask * length row.dependents

-- how often words are taken up at most in a run over the graph: each once, and again as others fall
abbrev pub budget_of : System → List Row → ℕ
budget_of s graph = length s.masks + sum_by (λ p. retaken p.0 p.1) (zip s.masks graph)
