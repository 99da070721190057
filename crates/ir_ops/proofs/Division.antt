-- Signed division of numbers of w bits, done by the machine's.
use Rattle.std.proofs.Common.{ℕ, zero, suc, ◌/◌, ◌-◌, ◌^◌, ◌<◌, ◌≡◌, refl, ap, ◌∙◌, sym, arith, true, false, ◌||◌, Bool, eqb, eq-eqb}
use Rattle.std.specs.Prelude.{ℤ, pos, negsuc, neg_ℤ, FitsSigned, int_div, int_rem}
use Rattle.std.specs.Int.{w64, cast_signed, cast_unsigned}
use Rattle.std.specs.Ordering.{int_eq}
use Rattle.std.proofs.Math.Nat.{div-le_self, div-lt_self, div-one}
use Rattle.std.proofs.lemmas.Bool.{true≢false}
use Rattle.std.proofs.lemmas.Bool.Decides.{Decides-and, Decides-int_eq}
use Rattle.std.proofs.lemmas.Nat.{pow_pos}
use Rattle.std.proofs.lemmas.Int.{to_z-of_z, quot_is, rem_is}
use lib.Signed.{mag}
use Rattle.ir_ops.specs.Residue.{IsWidth, signed}
use Rattle.ir_ops.specs.BinOp.{is_least_over_minus_one, least}
use Rattle.ir_ops.proofs.Signed.{fits, most, size, zero_from_signed}

negated : (n : ℕ) → mag (neg_ℤ (pos n)) ≡ n - 1
negated zero = refl
negated (suc n) = omega arith

-- a quotient has the bits of its operands if the least number is not divided by -1
quotient_small : (x y : ℤ) (h : ℕ) → mag x < h → mag y < h → (x ≡ negsuc (h - 1) → y ≡ negsuc 0 → ⊥) → mag (int_div x y) < h
quotient_small (pos a) (pos b) h p q n = omega (arith, div-le_self a b)
quotient_small (pos a) (negsuc b) h p q n = omega (arith, div-le_self a (suc b), negated (a / suc b))
quotient_small (negsuc a) (pos b) h p q n = omega (arith, div-le_self (suc a) b, negated (suc a / b))
quotient_small (negsuc a) (negsuc zero) h p q n =
    let k : a ≡ h - 1 → ⊥ = λ e. n (ap negsuc e) refl in
    omega (arith, div-one (suc a), k)
quotient_small (negsuc a) (negsuc (suc b)) h p q n =
    omega (arith, div-lt_self {n = suc a} {k = suc (suc b)} (omega arith) (omega arith))

has_bits : (z : ℤ) → FitsSigned w64 z → (z ≡ pos 0 → ⊥) → 0 < cast_unsigned w64 z
has_bits (pos zero) f n = absurd (n refl)
has_bits (pos (suc a)) f n = omega arith
has_bits (negsuc a) f n = omega (arith, f.sfits)

below_zero : (n : ℕ) → 0 < n → neg_ℤ (pos n) ≡ negsuc (n - 1)
below_zero zero p = absurd (omega arith)
below_zero (suc n) p = ap negsuc (omega arith)

not_both : (w a b : ℕ) → is_least_over_minus_one w a b ≡ false → signed w a ≡ negsuc (2 ^ (w - 1) - 1) → signed w b ≡ negsuc 0 → ⊥
not_both w a b unlike low one =
    let bottom : least w ≡ negsuc (2 ^ (w - 1) - 1) = below_zero (2 ^ (w - 1)) (pow_pos (w - 1)) in
    let tests = Decides-and (int_eq (signed w a) (least w)) (int_eq (signed w b) (negsuc 0)) (Decides-int_eq (signed w a) (least w))
    (Decides-int_eq (signed w b) (negsuc 0)) in
    true≢false (sym (tests.1 (low ∙ sym bottom, one)) ∙ unlike)

-- neither of two tests holds
neither : (p q : Bool) → (p || q) ≡ false → (p ≡ false) × (q ≡ false)
neither true q e = absurd (true≢false e)
neither false q e = (refl, e)

-- the operands of a signed division that is defined
pub record Divides (w : ℕ) (x y : ℤ) : Type 0 where
  pub left : FitsSigned w64 x
  pub right : FitsSigned w64 y
  pub divisor : y ≡ pos 0 → ⊥
  pub small : mag (int_div x y) < 2 ^ (w - 1)
  pub quotient : FitsSigned w64 (int_div x y)

pub divides : (w a b : ℕ) → IsWidth w → a < 2 ^ w → b < 2 ^ w → ((eqb b 0) || is_least_over_minus_one w a b) ≡ false → Divides w (signed w a) (signed w b)
divides w a b is h k defined =
    let parts = neither (eqb b 0) (is_least_over_minus_one w a b) defined in
    let s = quotient_small (signed w a) (signed w b) (2 ^ (w - 1)) (size w a is.0 h) (size w b is.0 k) (not_both w a b parts.1) in
    record {
      left = fits w a is h;
      right = fits w b is k;
      divisor = λ e. true≢false (sym (eq-eqb b 0 (zero_from_signed w b k e)) ∙ parts.0);
      small = s;
      quotient = record { sfits = omega (arith, s, most w is.1) };
    }

-- what the machine asks of a division
pub may_divide : (w : ℕ) (x y : ℤ) → Divides w x y → (0 < cast_unsigned w64 y) × FitsSigned w64
    (int_div (cast_signed w64 (cast_unsigned w64 x)) (cast_signed w64 (cast_unsigned w64 y)))
may_divide w x y d = (has_bits y d.right d.divisor, rw (to_z-of_z w64 x d.left, to_z-of_z w64 y d.right) d.quotient)

-- what it answers
pub quotient_is : (w : ℕ) (x y : ℤ) → Divides w x y → cast_signed w64
    (cast_unsigned w64 (int_div (cast_signed w64 (cast_unsigned w64 x)) (cast_signed w64 (cast_unsigned w64 y)))) ≡ int_div x y
quotient_is w x y d = quot_is w64 x y d.left d.right d.quotient

pub remainder_is : (w : ℕ) (x y : ℤ) → Divides w x y → cast_signed w64
    (cast_unsigned w64 (int_rem (cast_signed w64 (cast_unsigned w64 x)) (cast_signed w64 (cast_unsigned w64 y)))) ≡ int_rem x y
remainder_is w x y d = rem_is w64 x y d.left d.right
