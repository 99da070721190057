-- The law over the table: each operation, comparison and conversion is its mathematics.
use Rattle.std.proofs.Common.{ℕ, zero, suc, ◌+◌, ◌-◌, ◌*◌, ◌/◌, ◌%◌, ◌^◌, ◌<◌, ◌≤◌, ◌≡◌, refl, sym, ap, subst, ◌∙◌, inl, inr, arith, Bool, true, false}
use Rattle.std.proofs.Common.{◌||◌, eqb, bit_and, bit_or, bit_xor}
use Rattle.std.specs.Prelude.{ℤ, pos, negsuc, ◌+ℤ◌, ◌-ℤ◌, ◌*ℤ◌, ◌≤ℤ◌, ◌<ℤ◌, ◌⊎◌, ◌↔◌, IsTrue, int_div, int_rem, int_lt, int_le}
use Rattle.std.specs.Int.{bit_at, int_div_euclid}
use Rattle.std.specs.Ordering.{int_eq}
use Rattle.std.proofs.Math.Nat.{mod-lt, div-le_self, mod-le, pow-le-pow_right}
use Rattle.std.proofs.lemmas.Bool.{cases_lt, lt-leb, le-leb, leb-true, lt-ltb, ltb-true, ne_eqb}
use Rattle.std.proofs.lemmas.Bool.Decides.{Decides-eqb, Decides-int_eq, Decides-and, Decides-or, Decides-not}
use Rattle.std.proofs.lemmas.Nat.{and_le_l, or_lt, xor_lt, shr_le, pow_pos, div-add-mod'}
use Rattle.std.proofs.lemmas.Nat.Bits.{bit_at_and, bit_at_or, bit_at_xor}
use lib.Dec.{T}
use Rattle.ir_ops.specs.Residue.{IsWidth, residue, signed}
use Rattle.ir_ops.specs.BinOp.{outcome, exact, is_undefined, is_poison, is_least_over_minus_one, least}
use Rattle.ir_ops.specs.Pred.{comparison}
use Rattle.ir_ops.specs.CastOp.{CanCast, converted}
use Rattle.ir_ops.specs.Mathematics.{IsAnswer, IsFloor, IsTruncated, IsLeastOverMinusOne, Holds, Converts, IsIntegerMathematics}
use Rattle.ir_ops.specs.declared.binary.BinOp.{BinOp}
use Rattle.ir_ops.specs.declared.binary.BinOp.TheVariants.{Add, Sub, Mul, And, Or, Xor, Shl, LShr, AShr, UDiv, URem, SDiv, SRem}
use Rattle.ir_ops.specs.declared.binary.OpOut.TheVariants.{Value, Poison, Undefined}
use Rattle.ir_ops.specs.declared.predicate.Pred.{Pred}
use Rattle.ir_ops.specs.declared.predicate.Pred.TheVariants.{Eq, Ne, Ugt, Uge, Ult, Ule, Sgt, Sge, Slt, Sle}
use Rattle.ir_ops.specs.declared.conversion.CastOp.{CastOp}
use Rattle.ir_ops.specs.declared.conversion.CastOp.TheVariants.{Trunc, ZExt, SExt, PtrToInt}
use Rattle.ir_ops.proofs.Answers.{gives, gives_poison, gives_undefined}
use Rattle.ir_ops.proofs.Arithmetic.{small}
use Rattle.ir_ops.proofs.Congruence.{residue_below, residue_congruent, signed_residue, floor_is, floor_small}
use Rattle.ir_ops.proofs.Division.{divides}
use Rattle.ir_ops.proofs.Signed.{size}
use Rattle.ir_ops.proofs.Truncation.{truncated, rest_small}

value : (w : ℕ) (op : BinOp) (a b : ℕ) → is_undefined w op a b ≡ false → is_poison w op b ≡ false → IsAnswer w op a b (Value (residue w (exact w op a b)))
    → IsAnswer w op a b (outcome w op a b)
value w op a b u p h = subst (IsAnswer w op a b) (gives w op a b (residue w (exact w op a b)) u p refl) h

poison : (w : ℕ) (op : BinOp) (a b : ℕ) → is_undefined w op a b ≡ false → is_poison w op b ≡ true → IsAnswer w op a b Poison
    → IsAnswer w op a b (outcome w op a b)
poison w op a b u p h = subst (IsAnswer w op a b) (gives_poison w op a b u p) h

undefined : (w : ℕ) (op : BinOp) (a b : ℕ) → is_undefined w op a b ≡ true → IsAnswer w op a b Undefined → IsAnswer w op a b (outcome w op a b)
undefined w op a b u h = subst (IsAnswer w op a b) (gives_undefined w op a b u) h

sums : (w a b : ℕ) → IsAnswer w Add a b (outcome w Add a b)
sums w a b = value w Add a b refl refl (residue_below w (pos a +ℤ pos b), residue_congruent w (pos a +ℤ pos b))

differences : (w a b : ℕ) → IsAnswer w Sub a b (outcome w Sub a b)
differences w a b = value w Sub a b refl refl (residue_below w (pos a -ℤ pos b), residue_congruent w (pos a -ℤ pos b))

products : (w a b : ℕ) → IsAnswer w Mul a b (outcome w Mul a b)
products w a b = value w Mul a b refl refl (residue_below w (pos a *ℤ pos b), residue_congruent w (pos a *ℤ pos b))

ands : (w a b : ℕ) → a < 2 ^ w → IsAnswer w And a b (outcome w And a b)
ands w a b h =
    let within : bit_and a b < 2 ^ w = omega (arith, and_le_l a b) in
    value w And a b refl refl (residue_below w (pos (bit_and a b)), λ i. ap (λ (x : ℕ). bit_at x i) (sym (small (bit_and a b) w within)) ∙ bit_at_and a b i)

ors : (w a b : ℕ) → a < 2 ^ w → b < 2 ^ w → IsAnswer w Or a b (outcome w Or a b)
ors w a b h k =
    value w Or a b refl refl (
      residue_below w (pos (bit_or a b)),
      λ i. ap (λ (x : ℕ). bit_at x i)
          (sym (small (bit_or a b) w (or_lt w a b h k))) ∙ bit_at_or a b i,
    )

xors : (w a b : ℕ) → a < 2 ^ w → b < 2 ^ w → IsAnswer w Xor a b (outcome w Xor a b)
xors w a b h k =
    value w Xor a b refl refl (
      residue_below w (pos (bit_xor a b)),
      λ i. ap (λ (x : ℕ). bit_at x i)
          (sym (small (bit_xor a b) w (xor_lt w a b h k))) ∙ bit_at_xor a b i,
    )

left_shifts : (w a b : ℕ) → IsAnswer w Shl a b (outcome w Shl a b)
left_shifts w a b =
    elim (cases_lt b w) [
      | inl less ↦ value w Shl a b refl (lt-leb w b less) (residue_below w (pos (a * 2 ^ b)), (less, residue_congruent w (pos (a * 2 ^ b))))
      | inr more ↦ poison w Shl a b refl (le-leb w b more) more
    ]

right_shifts : (w a b : ℕ) → a < 2 ^ w → IsAnswer w LShr a b (outcome w LShr a b)
right_shifts w a b h =
    let same = small (a / 2 ^ b) w (omega (arith, shr_le a b)) in
    let floor = subst (λ (r : ℕ). IsFloor (pos a) (2 ^ b) (pos r)) same (floor_is (pos a) (2 ^ b) (pow_pos b)) in
    elim (cases_lt b w) [
      | inl less ↦ value w LShr a b refl (lt-leb w b less) (residue_below w (pos (a / 2 ^ b)), (less, floor))
      | inr more ↦ poison w LShr a b refl (le-leb w b more) more
    ]

sign_shifts : (w a b : ℕ) → 1 ≤ w → a < 2 ^ w → IsAnswer w AShr a b (outcome w AShr a b)
sign_shifts w a b l h =
    let x = signed w a in
    let z = int_div_euclid x (pos (2 ^ b)) in
    let same = signed_residue w z l (floor_small x (2 ^ b) (2 ^ (w - 1)) (size w a l h)) in
    let floor = subst (λ (q : ℤ). IsFloor x (2 ^ b) q) (sym same) (floor_is x (2 ^ b) (pow_pos b)) in
    elim (cases_lt b w) [
      | inl less ↦ value w AShr a b refl (lt-leb w b less) (residue_below w z, (less, floor))
      | inr more ↦ poison w AShr a b refl (le-leb w b more) more
    ]

quotients : (w a b : ℕ) → a < 2 ^ w → IsAnswer w UDiv a b (outcome w UDiv a b)
quotients w a zero h = undefined w UDiv a zero refl refl
quotients w a (suc b) h =
    let same = small (a / suc b) w (omega (arith, div-le_self a (suc b))) in
    let floor = subst (λ (r : ℕ). IsFloor (pos a) (suc b) (pos r)) same (floor_is (pos a) (suc b) (omega arith)) in
    value w UDiv a (suc b) (ne_eqb (suc b) 0 (omega arith)) refl (residue_below w (pos (a / suc b)), floor)

remainders : (w a b : ℕ) → a < 2 ^ w → IsAnswer w URem a b (outcome w URem a b)
remainders w a zero h = undefined w URem a zero refl refl
remainders w a (suc b) h =
    let same = small (a % suc b) w (omega (arith, mod-le a (suc b))) in
    let less : a % suc b < suc b = mod-lt a (omega arith) in
    let rest = subst (λ (r : ℕ). (quotient : ℕ) × (r < suc b) × (quotient * suc b + r ≡ a)) same (a / suc b, less, div-add-mod' a (suc b)) in
    value w URem a (suc b) (ne_eqb (suc b) 0 (omega arith)) refl (residue_below w (pos (a % suc b)), rest)

-- the test for a signed division without a quotient
no_quotient : (w a b : ℕ) → ((eqb b 0) || is_least_over_minus_one w a b) ≡ true → (b ≡ 0) ⊎ IsLeastOverMinusOne w a b
no_quotient w a b t =
    let extreme = Decides-and (int_eq (signed w a) (least w)) (int_eq (signed w b) (negsuc 0)) (Decides-int_eq (signed w a) (least w))
    (Decides-int_eq (signed w b) (negsuc 0)) in
    (Decides-or (eqb b 0) (is_least_over_minus_one w a b) (Decides-eqb b 0) extreme).0 t

signed_quotients : (w a b : ℕ) → IsWidth w → a < 2 ^ w → b < 2 ^ w → (t : Bool) → is_undefined w SDiv a b ≡ t → IsAnswer w SDiv a b (outcome w SDiv a b)
signed_quotients w a b is h k true t = undefined w SDiv a b t (no_quotient w a b t)
signed_quotients w a b is h k false t =
    let x = signed w a in
    let y = signed w b in
    let d = divides w a b is h k t in
    let same = signed_residue w (int_div x y) is.0 d.small in
    let rest = subst (λ (q : ℤ). (r : ℤ) × IsTruncated x y q r) (sym same) (int_rem x y, truncated x y d.divisor) in
    value w SDiv a b t refl (residue_below w (int_div x y), rest)

signed_remainders : (w a b : ℕ) → IsWidth w → a < 2 ^ w → b < 2 ^ w → (t : Bool) → is_undefined w SRem a b ≡ t → IsAnswer w SRem a b (outcome w SRem a b)
signed_remainders w a b is h k true t = undefined w SRem a b t (no_quotient w a b t)
signed_remainders w a b is h k false t =
    let x = signed w a in
    let y = signed w b in
    let d = divides w a b is h k t in
    let q = residue w (int_div x y) in
    let quotient = signed_residue w (int_div x y) is.0 d.small in
    let rest = signed_residue w (int_rem x y) is.0 (rest_small x y (2 ^ (w - 1)) (size w a is.0 h)) in
    let exactly = subst (λ (r : ℤ). IsTruncated x y (int_div x y) r) (sym rest) (truncated x y d.divisor) in
    let both = subst (λ (z : ℤ). IsTruncated x y z (signed w (residue w (int_rem x y)))) (sym quotient) exactly in
    value w SRem a b t refl (residue_below w (int_rem x y), (q, residue_below w (int_div x y), both))

operations : (w : ℕ) (op : BinOp) (a b : ℕ) → IsWidth w → a < 2 ^ w → b < 2 ^ w → IsAnswer w op a b (outcome w op a b)
operations w Add a b is h k = sums w a b
operations w Sub a b is h k = differences w a b
operations w Mul a b is h k = products w a b
operations w And a b is h k = ands w a b h
operations w Or a b is h k = ors w a b h k
operations w Xor a b is h k = xors w a b h k
operations w Shl a b is h k = left_shifts w a b
operations w LShr a b is h k = right_shifts w a b h
operations w AShr a b is h k = sign_shifts w a b is.0 h
operations w UDiv a b is h k = quotients w a b h
operations w URem a b is h k = remainders w a b h
operations w SDiv a b is h k = signed_quotients w a b is h k (is_undefined w SDiv a b) refl
operations w SRem a b is h k = signed_remainders w a b is h k (is_undefined w SRem a b) refl

passes : (b : Bool) → b ≡ true → T b
passes b e = subst T (sym e) tt

passed : (b : Bool) → T b → b ≡ true
passed true t = refl
passed false t = absurd t

less_signed : (x y : ℤ) → IsTrue (int_lt x y) ↔ (x <ℤ y)
less_signed x y = (λ e. record { lt = passes (int_lt x y) e }, λ h. passed (int_lt x y) h.lt)

most_signed : (x y : ℤ) → IsTrue (int_le x y) ↔ (x ≤ℤ y)
most_signed x y = (λ e. record { le = passes (int_le x y) e }, λ h. passed (int_le x y) h.le)

comparisons : (w : ℕ) (p : Pred) (a b : ℕ) → IsTrue (comparison w p a b) ↔ Holds w p a b
unfolding comparison
comparisons w Eq a b = Decides-eqb a b
comparisons w Ne a b = Decides-not (eqb a b) (Decides-eqb a b)
comparisons w Ugt a b = (ltb-true b a, lt-ltb b a)
comparisons w Uge a b = (leb-true b a, le-leb b a)
comparisons w Ult a b = (ltb-true a b, lt-ltb a b)
comparisons w Ule a b = (leb-true a b, le-leb a b)
comparisons w Sgt a b = less_signed (signed w b) (signed w a)
comparisons w Sge a b = most_signed (signed w b) (signed w a)
comparisons w Slt a b = less_signed (signed w a) (signed w b)
comparisons w Sle a b = most_signed (signed w a) (signed w b)

conversions : (w v : ℕ) (op : CastOp) (a : ℕ) → IsWidth w → IsWidth v → a < 2 ^ w → CanCast op w v
    → (converted w v op a < 2 ^ v) × Converts w v op a (converted w v op a)
unfolding converted
conversions w v Trunc a is to h narrower = (residue_below v (pos a), residue_congruent v (pos a))
conversions w v ZExt a is to h wider =
    let more : 2 ^ w ≤ 2 ^ v = pow-le-pow_right {n = 2} (omega arith) {i = w} {j = v} (omega arith) in
    (residue_below v (pos a), sym (small a v (omega arith)))
conversions w v SExt a is to h wider =
    let more : 2 ^ (w - 1) ≤ 2 ^ (v - 1) = pow-le-pow_right {n = 2} (omega arith) {i = w - 1} {j = v - 1} (omega arith) in
    (residue_below v (signed w a), signed_residue v (signed w a) to.0 (omega (arith, size w a is.0 h)))
conversions w v PtrToInt a is to h none = absurd none

pub table_law : IsIntegerMathematics
table_law = record { operations = operations; comparisons = comparisons; conversions = conversions }
