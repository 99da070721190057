-- The sum that the budget is.
use Rattle.std.proofs.Common.{◌≡◌, ℕ, ◌+◌, ◌*◌, ◌^◌, ◌<◌, ◌≤◌, List, length, get_or, take, sum_by, zip, count_ones, ap, ◌∙◌, arith, le_refl, mul-le-mul}
use Rattle.std.proofs.Common.{take_all, All, [], ◌∷◌}
use Rattle.std.proofs.lemmas.List.Sums.{sum_by_more, sum_by-take-le, sum_by-cons}
use Rattle.std.proofs.lemmas.List.Elements.{All-head, All-tail}
use Rattle.std.proofs.lemmas.Nat.{ones-le}
use Rattle.std.proofs.lemmas.Slice.Zip.{get_or-zip, length-zip}
use Rattle.lattice_words.specs.declared.word.TheConstants.{FACT_BITS}
use Rattle.dep_graph.specs.Row.{Row}
use Rattle.dep_graph.specs.Graph.{empty_row, row_at, edge_count, retaken, budget_of, IsGraphOf}
use Rattle.rule_terms.specs.System.{System, IsSystem}

-- what the first so many positions cost
abbrev pub cost_below : List ℕ → List Row → ℕ → ℕ
cost_below masks graph p = sum_by (λ x. retaken x.0 x.1) (take p (zip masks graph))

-- how many edges lead from them
abbrev pub edges_to : List Row → ℕ → ℕ
edges_to graph p = sum_by (λ row. length row.dependents) (take p graph)

module _ (masks : List ℕ) (graph : List Row) (p : ℕ) (l : p < length masks) (long : length graph ≡ length masks) where
  pub cost_more : cost_below masks graph (p + 1) ≡ cost_below masks graph p + retaken (get_or masks p 0) (row_at graph p)
  cost_more =
      let inside : p < length graph = omega arith in
      let on : p < length (zip masks graph) = omega (arith, length-zip masks graph) in
      sum_by_more (λ (x : ℕ × Row). retaken x.0 x.1) (zip masks graph) p (0, empty_row) on ∙
      ap (λ (x : ℕ × Row). cost_below masks graph p + retaken x.0 x.1) (get_or-zip masks graph p (0, empty_row) l inside)

  pub edges_more : edges_to graph (p + 1) ≡ edges_to graph p + length (row_at graph p).dependents
  edges_more = let inside : p < length graph = omega arith in sum_by_more (λ (row : Row). length row.dependents) graph p empty_row inside

  pub edges_within : edges_to graph p + length (row_at graph p).dependents ≤ edge_count graph
  edges_within = omega (arith, edges_more, sum_by-take-le (λ (row : Row). length row.dependents) graph (p + 1))

-- a mask has at most 64 bits
pub retaken-le : (mask : ℕ) (row : Row) → mask < 2 ^ 64 → retaken mask row ≤ 64 * length row.dependents
retaken-le mask row fits = let bits : count_ones mask ≤ 64 = ones-le 64 mask fits in mul-le-mul bits (le_refl (length row.dependents))

pub cost_whole : (masks : List ℕ) (graph : List Row) → length graph ≡ length masks →
    cost_below masks graph (length masks) ≡ sum_by (λ x. retaken x.0 x.1) (zip masks graph)
cost_whole masks graph long =
    let all : length (zip masks graph) ≤ length masks = omega (arith, length-zip masks graph) in
    ap (sum_by (λ (x : ℕ × Row). retaken x.0 x.1)) (take_all (length masks) (zip masks graph) all)

-- masks of facts
whole_cost-le : (masks : List ℕ) (graph : List Row) → All (λ mask. mask < 2 ^ FACT_BITS) masks →
    sum_by (λ x. retaken x.0 x.1) (zip masks graph) ≤ FACT_BITS * edge_count graph
whole_cost-le [] graph facts = omega arith
whole_cost-le (mask ∷ masks) [] facts = omega arith
whole_cost-le (mask ∷ masks) (row ∷ graph) facts =
    let bits : count_ones mask ≤ FACT_BITS = ones-le FACT_BITS mask (All-head (λ (m : ℕ). m < 2 ^ FACT_BITS) mask masks facts) in
    let first : retaken mask row ≤ FACT_BITS * length row.dependents = mul-le-mul bits (le_refl (length row.dependents)) in
    let cost = sum_by-cons (λ (x : ℕ × Row). retaken x.0 x.1) (mask, row) (zip masks graph) in
    let edges = sum_by-cons (λ (r : Row). length r.dependents) row graph in
    omega (arith, first, cost, edges, whole_cost-le masks graph (All-tail (λ (m : ℕ). m < 2 ^ FACT_BITS) mask masks facts))

pub budget-small : (s : System) (graph : List Row) → IsSystem s → IsGraphOf s graph → length s.masks ≤ 4000000 → budget_of s graph < 2000000000
budget-small s graph system is few = omega (arith, whole_cost-le s.masks graph system.facts, is.few, few)
