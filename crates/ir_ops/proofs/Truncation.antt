-- Signed division rounds towards 0.
use Rattle.std.proofs.Common.{ℕ, zero, suc, ◌%◌, ◌<◌, ◌≡◌, refl, arith}
use Rattle.std.specs.Prelude.{ℤ, pos, negsuc, neg_ℤ, ◌≤ℤ◌, unsigned_abs, int_div, int_rem}
use Rattle.std.proofs.Math.Nat.{zero-mod}
use Rattle.std.proofs.lemmas.Int.{ints, quot-rem, rem_below}
use lib.Signed.{mag, mag_rem}
use Rattle.ir_ops.specs.Mathematics.{IsTruncated}

has_size : (y : ℤ) → (y ≡ pos 0 → ⊥) → 0 < unsigned_abs y
has_size (pos zero) n = absurd (n refl)
has_size (pos (suc b)) n = omega arith
has_size (negsuc b) n = omega arith

opposite : (n : ℕ) → neg_ℤ (pos n) ≤ℤ pos 0
opposite n = omega (arith, ints)

stays_positive : (x y : ℤ) → pos 0 ≤ℤ x → pos 0 ≤ℤ int_rem x y
stays_positive (pos a) y h = omega (arith, ints)
stays_positive (negsuc a) y h = absurd (omega (arith, ints))

stays_negative : (x y : ℤ) → x ≤ℤ pos 0 → int_rem x y ≤ℤ pos 0
stays_negative (pos zero) y h = rw (zero-mod (unsigned_abs y)) (omega (arith, ints))
stays_negative (pos (suc a)) y h = absurd (omega (arith, ints))
stays_negative (negsuc a) y h = opposite (suc a % unsigned_abs y)

pub truncated : (x y : ℤ) → (y ≡ pos 0 → ⊥) → IsTruncated x y (int_div x y) (int_rem x y)
truncated x y n = record {
  sum = quot-rem x y;
  smaller = rem_below x y (has_size y n);
  positive = stays_positive x y;
  negative = stays_negative x y;
}

pub rest_small : (x y : ℤ) (h : ℕ) → mag x < h → mag (int_rem x y) < h
rest_small x y h l = omega (arith, mag_rem x y)
