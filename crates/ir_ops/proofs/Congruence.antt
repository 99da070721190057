-- Residues are what they are called: in range, congruent, and the number itself where it has w bits with a sign.
use Rattle.std.proofs.Common.{ℕ, suc, ◌+◌, ◌-◌, ◌*◌, ◌/◌, ◌%◌, ◌^◌, ◌<◌, ◌≤◌, ◌≡◌, ap, ◌∙◌, arith}
use Rattle.std.specs.Prelude.{ℤ, pos, negsuc, neg_ℤ, ◌+ℤ◌}
use Rattle.std.specs.Int.{int_div_euclid}
use Rattle.std.proofs.Math.Nat.{mod-lt, mod-eq_of_lt, div-le_self}
use Rattle.std.proofs.lemmas.Nat.{pow_pos, div-add-mod'}
use Rattle.std.proofs.lemmas.Int.{ints}
use lib.Signed.{mag}
use Rattle.ir_ops.specs.Residue.{residue, signed}
use Rattle.ir_ops.specs.Mathematics.{IsCongruent, IsFloor}
use Rattle.ir_ops.proofs.Signed.{halves, low_half, high_half}

pub residue_below : (w : ℕ) (z : ℤ) → residue w z < 2 ^ w
residue_below w (pos n) = mod-lt n (pow_pos w)
residue_below w (negsuc n) = omega (arith, pow_pos w)

turned : (n m q r : ℕ) → q * m + r ≡ n → r < m → pos (m - 1 - r + 0 * m) ≡ negsuc n +ℤ pos ((q + 1) * m)
turned n m q r is l = omega (arith, ints)

pub residue_congruent : (w : ℕ) (z : ℤ) → IsCongruent w (residue w z) z
residue_congruent w (pos n) = (n / 2 ^ w, 0, ap pos (omega (arith, div-add-mod' n (2 ^ w))))
residue_congruent w (negsuc n) = (0, n / 2 ^ w + 1, turned n (2 ^ w) (n / 2 ^ w) (n % 2 ^ w) (div-add-mod' n (2 ^ w)) (mod-lt n (pow_pos w)))

pub signed_residue : (w : ℕ) (z : ℤ) → 1 ≤ w → mag z < 2 ^ (w - 1) → signed w (residue w z) ≡ z
signed_residue w (pos n) l h =
    let within : n < 2 ^ w = omega (arith, halves w l) in
    ap (signed w) (mod-eq_of_lt within) ∙ low_half w n h
signed_residue w (negsuc n) l h =
    let within : n < 2 ^ w = omega (arith, halves w l) in
    let twice = halves w l in
    ap (λ (x : ℕ). signed w (2 ^ w - 1 - x)) (mod-eq_of_lt within)
    ∙ high_half w (2 ^ w - 1 - n) (omega arith) (omega arith)
    ∙ ap negsuc (omega arith)

raised : (a m q r : ℕ) → q * m + r ≡ a → r < m → neg_ℤ (pos (suc q * m)) +ℤ pos (m - 1 - r) ≡ negsuc a
raised a m q r is l = omega (arith, ints)

-- the quotient whose remainder is not negative is the quotient rounded down
pub floor_is : (x : ℤ) (m : ℕ) → 0 < m → IsFloor x m (int_div_euclid x (pos m))
floor_is (pos a) m l = (a % m, mod-lt a l, ap pos (div-add-mod' a m))
floor_is (negsuc a) m l = (m - 1 - a % m, omega arith, raised a m (a / m) (a % m) (div-add-mod' a m) (mod-lt a l))

pub floor_small : (x : ℤ) (m h : ℕ) → mag x < h → mag (int_div_euclid x (pos m)) < h
floor_small (pos a) m h l = omega (arith, div-le_self a m)
floor_small (negsuc a) m h l = omega (arith, div-le_self a m)
