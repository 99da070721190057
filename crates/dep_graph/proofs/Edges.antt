-- The number of edges.
use Rattle.std.proofs.Common.{◌≡◌, ℕ, zero, suc, ◌+◌, ◌-◌, ◌*◌, ◌^◌, ◌<◌, ◌≤◌, length, refl, arith, mul-le-mul, suc-mul, add-one}
use Rattle.rule_terms.specs.System.{System, inputs_of, IsSystem}
use Rattle.dep_graph.specs.Graph.{edges_below}
use Rattle.dep_graph.proofs.Naming.{inputs_few}

pub edges_below-none : (s : System) → edges_below s 0 ≡ 0
unfolding edges_below
edges_below-none s = refl

pub edges_below-more : (s : System) (p : ℕ) → edges_below s (p + 1) ≡ edges_below s p + length (inputs_of s p)
unfolding edges_below
edges_below-more s p = rw add-one refl

edges_below-le : (s : System) → IsSystem s → (p : ℕ) → edges_below s p ≤ p * length s.masks
unfolding edges_below
edges_below-le s is zero = omega arith
edges_below-le s is (suc p) = rw suc-mul (omega (arith, edges_below-le s is p, inputs_few s is p))

-- the count never wraps: there are fewer than 2 ^ 32 positions, and each has no more inputs than that
pub edges_fit : (s : System) → IsSystem s → (p : ℕ) → p < length s.masks → edges_below s p + length (inputs_of s p) < 2 ^ 64
edges_fit s is p l =
    let n = length s.masks in
    let all : suc p * n ≤ (2 ^ 32 - 1) * (2 ^ 32 - 1) = let most : n ≤ 2 ^ 32 - 1 = omega (arith, is.fits) in let rows : suc p ≤ 2 ^ 32 - 1 =
    omega (arith, is.fits) in mul-le-mul rows most in
    let row : suc p * n ≡ p * n + n = suc-mul p n in
    omega (arith, all, row, edges_below-le s is p, inputs_few s is p)
