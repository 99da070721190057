-- No rung has so many bytes.
use Rattle.std.proofs.Common.{◌≡◌, ◌<◌, ◌≤◌, ℕ, zero, suc, Bool, false, List, [], ◌∷◌, slice_index, ap, arith}
use Rattle.std.specs.List.{AllByRecursion}
use Rattle.lattice_words.specs.Ladders.{byte_rungs, lowest_byte_rung}
use Rattle.lattice_words.proofs.LadderBits.{lowest_byte_rung-none}
use Rattle.facts.specs.Known.{has_rung}

bounded : (b : ℕ) (xs : List ℕ) (j : ℕ) → AllByRecursion (λ x. x ≤ b) xs → slice_index xs j ≤ b
bounded b [] j h = omega arith
bounded b (x ∷ xs) zero h = h.0
bounded b (x ∷ xs) (suc j) h = bounded b xs j h.1

ladder : AllByRecursion (λ x. x ≤ 1024) byte_rungs
ladder = (
  omega arith,
  (
    omega arith,
    (
      omega arith,
      (
        omega arith,
        (
          omega arith,
          (
            omega arith,
            (
              omega arith,
              (
                omega arith,
                (
                  omega arith,
                  (omega arith, (omega arith, (omega arith, (omega arith, (omega arith, (omega arith, (omega arith, tt))))))),
                ),
              ),
            ),
          ),
        ),
      ),
    ),
  ),
)

pub far : (has : ℕ → Bool) (n : ℕ) → 1024 < n → has_rung has (lowest_byte_rung n) ≡ false
far has n l = ap (has_rung has) (lowest_byte_rung-none n (λ j small. let low = bounded 1024 byte_rungs j ladder in omega (arith, l, low)))
