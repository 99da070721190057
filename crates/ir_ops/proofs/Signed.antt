-- What a number of w bits is when it is read with a sign.
use Rattle.std.proofs.Common.{ℕ, ◌+◌, ◌*◌, ◌-◌, ◌^◌, ◌<◌, ◌≤◌, ◌≡◌, ap, ◌∙◌, sym, arith, inl, inr, lt-ltb}
use Rattle.std.specs.Prelude.{ℤ, pos, negsuc, FitsSigned}
use Rattle.std.specs.Int.{w64, cast_signed, cast_unsigned}
use Rattle.std.proofs.Math.Nat.{pow-le-pow_right}
use Rattle.std.proofs.lemmas.Nat.{pow-add}
use Rattle.std.proofs.lemmas.Bool.{cases_lt, le-ltb}
use Rattle.std.proofs.lemmas.Int.{ints, to_z-of_z}
use lib.Signed.{mag}
use Rattle.ir_ops.specs.Residue.{IsWidth, signed}

-- the sign bit is half of the numbers
pub halves : (w : ℕ) → 1 ≤ w → 2 ^ w ≡ 2 ^ (w - 1) * 2
halves w l =
    let k : (w - 1) + 1 ≡ w = omega arith in
    ap (λ (x : ℕ). 2 ^ x) (sym k) ∙ pow-add 2 (w - 1) 1

pub low_half : (w a : ℕ) → a < 2 ^ (w - 1) → signed w a ≡ pos a
low_half w a l = rw (lt-ltb a (2 ^ (w - 1)) l)

pub high_half : (w a : ℕ) → 2 ^ (w - 1) ≤ a → a < 2 ^ w → signed w a ≡ negsuc (2 ^ w - 1 - a)
high_half w a l h = rw (le-ltb a (2 ^ (w - 1)) l) (omega (arith, ints))

-- a number of w bits is in the range of w bits with a sign
pub size : (w a : ℕ) → 1 ≤ w → a < 2 ^ w → mag (signed w a) < 2 ^ (w - 1)
size w a l h =
    elim (cases_lt a (2 ^ (w - 1))) [
      | inl low ↦ rw (low_half w a low) low
      | inr high ↦ rw (high_half w a high h) (omega (arith, halves w l))
    ]

-- the machine has room for every width
pub most : (w : ℕ) → w ≤ 64 → 2 ^ (w - 1) ≤ 2 ^ 63
most w l = pow-le-pow_right {n = 2} (omega arith) {i = w - 1} {j = 63} (omega arith)

pub fits : (w a : ℕ) → IsWidth w → a < 2 ^ w → FitsSigned w64 (signed w a)
fits w a is h = record { sfits = omega (arith, size w a is.0 h, most w is.1) }

-- 0 alone means 0
pub zero_from_signed : (w a : ℕ) → a < 2 ^ w → signed w a ≡ pos 0 → a ≡ 0
zero_from_signed w a h is =
    elim (cases_lt a (2 ^ (w - 1))) [
      | inl low ↦ (let e : pos a ≡ pos 0 = sym (low_half w a low) ∙ is in cc)
      | inr high ↦ (let e : negsuc (2 ^ w - 1 - a) ≡ pos 0 = sym (high_half w a high h) ∙ is in cc)
    ]

-- the signed number as the machine holds it
pub held : (w a : ℕ) → IsWidth w → a < 2 ^ w → (x : ℤ) → x ≡ signed w a → cast_signed w64 (cast_unsigned w64 x) ≡ signed w a
held w a is h x e = ap (λ (z : ℤ). cast_signed w64 (cast_unsigned w64 z)) e ∙ to_z-of_z w64 (signed w a) (fits w a is h)
