-- Sums and products modulo 2 ^ 64, read with a sign.
use Rattle.std.proofs.Common.{◌≡◌, ◌<◌, ◌≤◌, ◌+◌, ◌-◌, ◌^◌, ◌%◌, ℕ, zero, suc, ltb, neg_ℤ, ℤ, pos, ◌+ℤ◌, ◌-ℤ◌, ◌*ℤ◌, ◌*◌, FitsSigned, to_z, of_z, sym, ap}
use Rattle.std.proofs.Common.{subst, ◌∙◌, arith}
use Rattle.ir_ops.specs.Residue.{signed}
use Rattle.std.proofs.Math.Nat.{two-pow-succ}
use Rattle.std.proofs.lemmas.Bool.{cond-true, cond-false, lt-ltb, le-ltb}
use Rattle.std.specs.Int.{w64, int_wrap, cast_signed}
use Rattle.std.proofs.lemmas.Int.{ints, int_wrap-add_left, int_wrap-add_right, int_wrap-sub_right, int_wrap-mul_left, int_wrap-mul_right, SFits-int_wrap}
use Rattle.std.proofs.lemmas.Int.{wrapping_add_is, wrapping_mul_is, wrapping_sub-bits, of_z-to_z}
use Rattle.std.proofs.lemmas.Nat.{mod_below, pow_below}

-- a number of 64 bits as a signed one
pub cast_is : (n : ℕ) → n < 2 ^ 64 → cast_signed w64 n ≡ int_wrap w64 (pos n)
unfolding int_wrap
cast_is n l = ap (cast_signed w64) (omega (arith, l))

pub sum_is : (a b x y : ℤ) → x ≡ int_wrap w64 a → y ≡ int_wrap w64 b → int_wrap w64 (x +ℤ y) ≡ int_wrap w64 (a +ℤ b)
sum_is a b x y e f =
    ap (λ z. int_wrap w64 (z +ℤ y)) e ∙ int_wrap-add_left w64 a y ∙ ap (λ z. int_wrap w64 (a +ℤ z)) f ∙ int_wrap-add_right w64 a b

pub product_is : (a b x y : ℤ) → x ≡ int_wrap w64 a → y ≡ int_wrap w64 b → int_wrap w64 (x *ℤ y) ≡ int_wrap w64 (a *ℤ b)
product_is a b x y e f =
    ap (λ z. int_wrap w64 (z *ℤ y)) e ∙ int_wrap-mul_left w64 a y ∙ ap (λ z. int_wrap w64 (a *ℤ z)) f ∙ int_wrap-mul_right w64 a b

pub difference_is : (a b x y : ℤ) → x ≡ int_wrap w64 a → y ≡ int_wrap w64 b → int_wrap w64 (x -ℤ y) ≡ int_wrap w64 (a -ℤ b)
difference_is a b x y e f =
    ap (λ z. int_wrap w64 (z -ℤ y)) e ∙ int_wrap-add_left w64 a (neg_ℤ y) ∙ ap (λ z. int_wrap w64 (a -ℤ z)) f ∙ int_wrap-sub_right w64 a b

-- the half of a power of two, twice
twice_half : (w : ℕ) → 1 ≤ w → 2 ^ w ≡ 2 ^ (w - 1) + 2 ^ (w - 1)
twice_half zero l = absurd (omega (arith, l))
twice_half (suc n) l = two-pow-succ n ∙ ap (λ k. 2 ^ k + 2 ^ k) (omega arith)

-- bits below the half are read as themselves, and others with the whole taken off
pub sign_is : (w bits half : ℕ) (x y z : ℤ) → 1 ≤ w → half ≡ 2 ^ (w - 1) → x ≡ int_wrap w64 (pos bits) → y ≡ int_wrap w64 (pos half) → half ≤ bits →
    z ≡ int_wrap w64 (x -ℤ y) → int_wrap w64 (z -ℤ y) ≡ int_wrap w64 (signed w bits)
sign_is w bits half x y z l is e f above g =
    difference_is (pos bits -ℤ pos half) (pos half) z y (g ∙ difference_is (pos bits) (pos half) x y e f) f
    ∙ ap (int_wrap w64) (twice ∙ upper) where
      twice : (pos bits -ℤ pos half) -ℤ pos half ≡ pos bits -ℤ pos (2 ^ w)
      twice = let p = twice_half w l in omega (arith, ints, p, is)

      upper : pos bits -ℤ pos (2 ^ w) ≡ signed w bits
      upper = sym (cond-false (ltb bits (2 ^ (w - 1))) (pos bits) (pos bits -ℤ pos (2 ^ w)) (le-ltb bits (2 ^ (w - 1)) (omega (arith, is, above))))

pub sign_lower : (w bits half : ℕ) (x : ℤ) → half ≡ 2 ^ (w - 1) → x ≡ int_wrap w64 (pos bits) → bits < half → x ≡ int_wrap w64 (signed w bits)
sign_lower w bits half x is e below =
    e ∙ ap (int_wrap w64) (sym (cond-true (ltb bits (2 ^ (w - 1))) (pos bits) (pos bits -ℤ pos (2 ^ w)) (lt-ltb bits (2 ^ (w - 1)) (omega (arith, is, below)))))

-- ---- the same of the bits that wrapping operations leave
pub sum_bits : (x y a b : ℤ) → FitsSigned w64 x → x ≡ int_wrap w64 a → y ≡ int_wrap w64 b
    → to_z w64 ((of_z w64 x + of_z w64 y) % 2 ^ 64) ≡ int_wrap w64 (a +ℤ b)
sum_bits x y a b fits e f =
    let small : FitsSigned w64 y = subst (FitsSigned w64) (sym f) (SFits-int_wrap w64 b) in
    wrapping_add_is w64 x y fits small ∙ sum_is a b x y e f

-- the first of the two as it is
pub added_bits : (x y b : ℤ) → FitsSigned w64 x → y ≡ int_wrap w64 b → to_z w64 ((of_z w64 x + of_z w64 y) % 2 ^ 64) ≡ int_wrap w64 (x +ℤ b)
added_bits x y b fits f =
    let small : FitsSigned w64 y = subst (FitsSigned w64) (sym f) (SFits-int_wrap w64 b) in
    wrapping_add_is w64 x y fits small ∙ ap (λ z. int_wrap w64 (x +ℤ z)) f ∙ int_wrap-add_right w64 x b

pub signed_bits : (w bits half : ℕ) → 1 ≤ w → half ≡ 2 ^ (w - 1) → bits < 2 ^ 64 → half < 2 ^ 64 → half ≤ bits
    → to_z w64 (((bits + (2 ^ 64 - half)) % 2 ^ 64 + (2 ^ 64 - half)) % 2 ^ 64) ≡ int_wrap w64 (signed w bits)
signed_bits w bits half l is small less above =
    let m : ℕ = (bits + (2 ^ 64 - half)) % 2 ^ 64 in
    wrapping_sub-bits w64 m half (mod_below (bits + (2 ^ 64 - half)) (2 ^ 64) (omega arith)) less
    ∙ sign_is w bits half (to_z w64 bits) (to_z w64 half) (to_z w64 m) l is
    (cast_is bits small) (cast_is half less) above (wrapping_sub-bits w64 bits half small less)

-- the half of a power of two up to 2 ^ 64 fits 64 bits
pub half_is : (w : ℕ) → w ≤ 64 → (1 * 2 ^ (w - 1) % 2 ^ 64 ≡ 2 ^ (w - 1)) × (2 ^ (w - 1) < 2 ^ 64)
half_is w l = let p : 2 ^ (w - 1) < 2 ^ 64 = pow_below (w - 1) 64 (omega (arith, l)) in (omega (arith, p), p)

-- what is cast to signed, and its bits back
pub cast_back : (x z : ℤ) (n : ℕ) → x ≡ to_z w64 n → n < 2 ^ 64 → to_z w64 n ≡ z → to_z w64 (of_z w64 x) ≡ z
cast_back x z n e l f = ap (λ y. to_z w64 (of_z w64 y)) e ∙ ap (to_z w64) (of_z-to_z w64 n l) ∙ f

pub cast_bits : (x : ℤ) (n m : ℕ) → x ≡ to_z w64 n → n < 2 ^ 64 → n ≡ m → to_z w64 (of_z w64 x) ≡ int_wrap w64 (pos m)
cast_bits x n m e l f = cast_back x (int_wrap w64 (pos m)) n e l (cast_is n l ∙ ap (λ k. int_wrap w64 (pos k)) f)

-- both as they are modulo 2 ^ 64
pub product_of : (x y a b : ℤ) → x ≡ int_wrap w64 a → y ≡ int_wrap w64 b → to_z w64 (of_z w64 x * of_z w64 y % 2 ^ 64) ≡ int_wrap w64 (a *ℤ b)
product_of x y a b e f =
    wrapping_mul_is w64 x y (subst (FitsSigned w64) (sym e) (SFits-int_wrap w64 a)) (subst (FitsSigned w64) (sym f) (SFits-int_wrap w64 b))
    ∙ product_is a b x y e f

pub sum_of : (x y a b : ℤ) → x ≡ int_wrap w64 a → y ≡ int_wrap w64 b → to_z w64 ((of_z w64 x + of_z w64 y) % 2 ^ 64) ≡ int_wrap w64 (a +ℤ b)
sum_of x y a b e f = sum_bits x y a b (subst (FitsSigned w64) (sym e) (SFits-int_wrap w64 a)) e f
