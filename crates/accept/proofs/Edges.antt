-- The edges of a system are the pairs of a position and one that it names.
use Rattle.std.proofs.Common.{arith, ◌≡◌, ◌+◌, ◌≤◌, ℕ, zero, suc, refl, sym, ap, ◌∙◌, List, length}
use Rattle.ir_module.specs.declared.module.Module.{Module}
use Rattle.facts.specs.declared.pos.Pos.{Pos}
use Rattle.facts.specs.Names.{AreNamed}
use Rattle.rule_terms.specs.System.{System, inputs_of}
use Rattle.positions.specs.Numbering.{Numbered}
use Rattle.rule_says.specs.Reading.{IsNumbering}
use Rattle.module_system.specs.Filled.{IsSystemOf, AreInputs, inputs_below, input_count}
use Rattle.module_system.proofs.Counted.{some_named}
use Rattle.module_system.proofs.Answered.{long_masks}
use Rattle.dep_graph.specs.Graph.{edges_below, edges_of}
use Rattle.dep_graph.specs.declared.invert.TheConstants.{EDGE_LIMIT}
use Rattle.accept.specs.Limits.{HasEdges}

-- both count the inputs
inputs_are : (s : System) (n : ℕ) → edges_below s n ≡ inputs_below s n
unfolding edges_below
inputs_are s zero = refl
inputs_are s (suc n) = ap (λ k. k + length (inputs_of s n)) (inputs_are s n)

pub edges_are_inputs : (s : System) → edges_of s ≡ input_count s
edges_are_inputs s = inputs_are s (length s.masks)

-- there are as many pairs as edges
pub has_edges : (m : Module) (ps : Numbered) (s : System) → IsNumbering m ps → IsSystemOf m ps s → AreInputs m ps s → (count : ℕ) → count ≡ edges_of s →
    HasEdges m count
has_edges m ps s is of are count long =
    let all = some_named m ps is s are in
    let same : length s.masks ≡ length ps.list = ap length of.masks ∙ long_masks m ps is in
    (all.0, all.1, all.2 ∙ (ap (inputs_below s) (sym same) ∙ (sym (edges_are_inputs s) ∙ sym long)))

-- and not more, so the limit of the one is that of the other
pub edges_within : (m : Module) (s : System) → ((pairs : List (Pos × Pos)) → AreNamed m pairs → input_count s ≡ length pairs) → edges_of s ≤ EDGE_LIMIT →
    (n : ℕ) → HasEdges m n → n ≤ EDGE_LIMIT
edges_within m s counted within n has =
    let same = counted has.0 has.1 in
    let long = has.2 in
    let edges = edges_are_inputs s in
    omega (arith, same, long, edges, within)
