-- Signed numbers of the machine and their bits at a width.
use Rattle.std.proofs.Common.{ℕ, suc, ◌+◌, ◌-◌, ◌*◌, ◌%◌, ◌^◌, ◌<◌, ◌≤◌, ◌≡◌, refl, sym, ap, ◌∙◌, inl, inr, arith}
use Rattle.std.proofs.Math.Nat.{add-mul-mod_self_right}
use Rattle.std.proofs.lemmas.Bool.{cases_lt}
use Rattle.std.specs.Prelude.{ℤ, pos, negsuc, ◌-ℤ◌, FitsSigned}
use Rattle.std.specs.Int.{w64, cast_unsigned, cast_signed, int_div_euclid}
use lib.Signed.{shr_z, mag_shr}
use Rattle.std.proofs.lemmas.Int.{to_z-of_z, ints}
use Rattle.ir_ops.specs.Residue.{residue}
use Rattle.ir_ops.proofs.Arithmetic.{complement_mod, mod_narrow, whole}

-- the w lowest bits of a machine number are those of the number that it stands for
pub low_bits_of : (w : ℕ) (z : ℤ) → w ≤ 64 → FitsSigned w64 z → cast_unsigned w64 z % 2 ^ w ≡ residue w z
low_bits_of w (pos n) l f = refl
low_bits_of w (negsuc n) l f = complement_mod n w l (omega (arith, f.sfits))

-- the same, as the code's casts give them
pub bits_are : (w : ℕ) (z : ℤ) → w ≤ 64 → FitsSigned w64 z → cast_unsigned w64 (cast_signed w64 (cast_unsigned w64 z)) % 2 ^ w ≡ residue w z
bits_are w z l f = ap (λ (x : ℤ). cast_unsigned w64 x % 2 ^ w) (to_z-of_z w64 z f) ∙ low_bits_of w z l f

floor : (x : ℤ) (m : ℕ) → shr_z x m ≡ int_div_euclid x (pos m)
floor (pos a) m = refl
floor (negsuc a) m = refl

-- the machine's shift to the right rounds down
pub shifted : (x : ℤ) (b : ℕ) → FitsSigned w64 x → cast_signed w64
    (cast_unsigned w64 (shr_z (cast_signed w64 (cast_unsigned w64 x)) (2 ^ b))) ≡ int_div_euclid x (pos (2 ^ b))
shifted x b f =
    ap (λ (z : ℤ). cast_signed w64 (cast_unsigned w64 (shr_z z (2 ^ b)))) (to_z-of_z w64 x f)
    ∙ to_z-of_z w64 (shr_z x (2 ^ b)) (record { sfits = omega (arith, f.sfits, mag_shr x (2 ^ b)) })
    ∙ floor x (2 ^ b)

-- the machine's difference
pub difference : (w a b : ℕ) → w ≤ 64 → a < 2 ^ 64 → b < 2 ^ 64 → (a + (2 ^ 64 - b)) % 2 ^ 64 % 2 ^ w ≡ residue w (pos a -ℤ pos b)
difference w a b l h k =
    mod_narrow (a + (2 ^ 64 - b)) w l
    ∙ elim (cases_lt a b) [
      | inl less ↦
          (let is : pos a -ℤ pos b ≡ negsuc (b - a - 1) = omega (arith, ints) in
          let split : a + (2 ^ 64 - b) ≡ 2 ^ 64 - suc (b - a - 1) = omega arith in
          ap (λ (x : ℕ). x % 2 ^ w) split ∙ complement_mod (b - a - 1) w l (omega arith) ∙ sym (ap (residue w) is))
      | inr more ↦
          (let is : pos a -ℤ pos b ≡ pos (a - b) = omega (arith, ints) in
          let split : a + (2 ^ 64 - b) ≡ (a - b) + 2 ^ (64 - w) * 2 ^ w = omega (arith, whole w l) in
          ap (λ (x : ℕ). x % 2 ^ w) split ∙ add-mul-mod_self_right (a - b) (2 ^ (64 - w)) (2 ^ w) ∙ sym (ap (residue w) is))
    ]
