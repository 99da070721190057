-- Multiples: how the address of a pointer stays one along a getelementptr.
use Rattle.std.proofs.Common.{arith, ◌≡◌, ◌+◌, ◌-◌, ◌*◌, ◌/◌, ◌%◌, ◌^◌, ◌<◌, ◌≤◌, ◌==◌, nat_le, nat_lt, pos, negsuc, ℕ, zero, suc, ℤ}
use Rattle.std.proofs.Common.{Bool, true, false, if◌then◌else◌, slice_index, Option, None, Some, refl, sym}
use Rattle.std.proofs.Common.{subst}
use Rattle.std.specs.Prelude.{◌+ℤ◌, ◌*ℤ◌, unsigned_abs}
use Rattle.std.specs.Int.{◌∣◌}
use Rattle.std.proofs.Math.IntN.{sub_ℕ}
use Rattle.std.proofs.Math.Nat.{dvd-add, dvd-sub, dvd-add_iff_left, dvd-add_iff_right}
use Rattle.std.proofs.Math.Nat.{dvd-mul_left_of_dvd, dvd-mul_right_of_dvd, dvd-mod_iff, div-add-mod, mod-lt}
use Rattle.std.proofs.lemmas.Int.{unsigned_abs-mul}
use Rattle.std.proofs.lemmas.Nat.Gcd.{dvd_of_mod-eq-zero, mod-eq-zero_of_dvd, dvd_trans}
use Rattle.std.proofs.lemmas.Bool.{and_parts, leb-true}
use Rattle.lattice_words.specs.Ladders.{align_rungs, byte_rungs, is_align_bit, is_byte_bit}
use Rattle.lattice_words.specs.declared.value.TheConstants as value
use Rattle.ir_ops.specs.Residue.{residue}
use Rattle.facts.specs.Kinds.{ValueFact, SameAs, NonNull, AlignedTo, HasBytes, NotTo, UsedSo, OwnAlloca, Argument, Global, Unknown, CapturedByReturnAlone}
use Rattle.facts.specs.Kinds.{NotReturned, NotThrough, Read as Reads, Write as Writes, value_fact, class_fact, use_fact}
use Rattle.ir_machine.specs.declared.choice.Datum.{Datum}
use Rattle.ir_machine.specs.declared.choice.Datum.TheVariants as datum
use Rattle.ir_machine.specs.Memory.{Memory, address}

-- ---- rungs

-- the rungs of alignment divide 2 ^ 64
abbrev Divides : Option ValueFact → Type 0
Divides (Some (AlignedTo bytes)) = bytes ∣ 2 ^ 64
Divides _ = Unit {0}

divides_if : (test : Bool) (so otherwise : Option ValueFact) → (test ≡ true → Divides so) → Divides otherwise → Divides (if test then so else otherwise)
divides_if true so otherwise first second = first refl
divides_if false so otherwise first second = second

rung_divides : (k : ℕ) → k < 6 → slice_index align_rungs k ∣ 2 ^ 64
rung_divides zero within = dvd_of_mod-eq-zero 2 refl
rung_divides (suc zero) within = dvd_of_mod-eq-zero 4 refl
rung_divides (suc (suc zero)) within = dvd_of_mod-eq-zero 8 refl
rung_divides (suc (suc (suc zero))) within = dvd_of_mod-eq-zero 16 refl
rung_divides (suc (suc (suc (suc zero)))) within = dvd_of_mod-eq-zero 32 refl
rung_divides (suc (suc (suc (suc (suc zero))))) within = dvd_of_mod-eq-zero 64 refl
rung_divides (suc (suc (suc (suc (suc (suc n)))))) within = absurd (omega arith)

use_divides : (bit : ℕ) → Divides (use_fact bit)
use_divides bit =
    divides_if (bit == value.CAPTURED_BY_RETURN_ALONE) (Some (UsedSo CapturedByReturnAlone)) _ (λ _. tt)
    (divides_if (bit == value.NOT_RETURNED) (Some (UsedSo NotReturned)) _ (λ _. tt)
    (divides_if (bit == value.NOT_READ_THROUGH) (Some (UsedSo (NotThrough Reads))) _ (λ _. tt)
    (divides_if (bit == value.NOT_WRITTEN_THROUGH) (Some (UsedSo (NotThrough Writes))) None (λ _. tt) tt)))

class_divides : (bit : ℕ) → Divides (class_fact bit)
class_divides bit =
    divides_if (bit == value.NOT_OWN_ALLOCA) (Some (NotTo OwnAlloca)) _ (λ _. tt)
    (divides_if (bit == value.NOT_ARGUMENT) (Some (NotTo Argument)) _ (λ _. tt)
    (divides_if (bit == value.NOT_GLOBAL) (Some (NotTo Global)) _ (λ _. tt)
    (divides_if (bit == value.NOT_UNKNOWN) (Some (NotTo Unknown)) (use_fact bit) (λ _. tt) (use_divides bit))))

fact_divides : (bit : ℕ) → Divides (value_fact bit)
fact_divides bit =
    divides_if (nat_lt bit value.SAME_AS_PARAMETERS) (Some (SameAs bit)) _ (λ _. tt)
    (divides_if (bit == value.NONNULL) (Some NonNull) _ (λ _. tt)
    (divides_if (is_align_bit bit) (Some (AlignedTo (slice_index align_rungs (bit - value.ALIGN_2)))) _ (λ on. rung_divides (bit - value.ALIGN_2) (below on))
    (divides_if (is_byte_bit bit) (Some (HasBytes (slice_index byte_rungs (bit - value.BYTES_1)))) (class_fact bit) (λ _. tt) (class_divides bit))))
  where
    below : is_align_bit bit ≡ true → bit - value.ALIGN_2 < 6
    below on =
        let parts = and_parts (nat_le value.ALIGN_2 bit) (nat_le bit value.ALIGN_64) on in
        let high : bit ≤ value.ALIGN_64 = leb-true bit value.ALIGN_64 parts.1 in omega (arith, high)

pub rung_of : (bit n : ℕ) → value_fact bit ≡ Some (AlignedTo n) → n ∣ 2 ^ 64
rung_of bit n e = subst Divides e (fact_divides bit)

-- ---- integers

abs_sub : (x y : ℕ) → unsigned_abs (sub_ℕ x y) ≡ (x - y) + (y - x)
abs_sub x y = grind arith

-- a divisor of the amounts divides that of the sum
dvd_sub : (n x y : ℕ) → n ∣ x → n ∣ y → n ∣ unsigned_abs (sub_ℕ x y)
dvd_sub n x y at_x at_y = subst (λ k. n ∣ k) (sym (abs_sub x y)) (dvd-add n (dvd-sub n at_x at_y) (dvd-sub n at_y at_x))

pub dvd_sum : (n : ℕ) (a b : ℤ) → n ∣ unsigned_abs a → n ∣ unsigned_abs b → n ∣ unsigned_abs (a +ℤ b)
dvd_sum n (pos a) (pos b) at_a at_b = dvd-add n at_a at_b
dvd_sum n (pos a) (negsuc b) at_a at_b = dvd_sub n a (suc b) at_a at_b
dvd_sum n (negsuc a) (pos b) at_a at_b = dvd_sub n b (suc a) at_b at_a
dvd_sum n (negsuc a) (negsuc b) at_a at_b =
    subst (λ k. n ∣ k) (let e : suc a + suc b ≡ suc (suc (a + b)) = omega arith in e) (dvd-add n at_a at_b)

pub dvd_times : (n : ℕ) (a : ℤ) (k : ℕ) → n ∣ k → n ∣ unsigned_abs (a *ℤ pos k)
dvd_times n a k at_k = subst (λ j. n ∣ j) (sym (unsigned_abs-mul a (pos k))) (dvd-mul_left_of_dvd n at_k (unsigned_abs a))

-- a divisor of 2 ^ 64 divides a number where it divides its residue
module _ (n : ℕ) (whole : n ∣ 2 ^ 64) where
  below_whole : (a : ℕ) → a % (2 ^ 64) < 2 ^ 64
  below_whole a = mod-lt a {m = 2 ^ 64} (omega arith)

  parts_of : (a : ℕ) → 2 ^ 64 * (a / (2 ^ 64)) + a % (2 ^ 64) ≡ a
  parts_of a = div-add-mod a (2 ^ 64)

  some_whole : (q : ℕ) → n ∣ 2 ^ 64 * q
  some_whole q = dvd-mul_right_of_dvd n whole q

  pub from_residue : (z : ℤ) → n ∣ residue 64 z → n ∣ unsigned_abs z
  from_residue (pos a) is = (dvd-mod_iff n {m = a} {n = 2 ^ 64} whole).0 is
  from_residue (negsuc a) is =
      let low = below_whole a in
      let r = a % (2 ^ 64) in
      let rest : n ∣ r + 1 = (dvd-add_iff_right n {m = 2 ^ 64 - 1 - r} {n = r + 1} is).1
      (subst (λ k. n ∣ k) (let e : 2 ^ 64 ≡ (2 ^ 64 - 1 - r) + (r + 1) = omega (arith, low) in e) whole) in
      let at = parts_of a in
      subst (λ k. n ∣ k) (let e : 2 ^ 64 * (a / (2 ^ 64)) + (r + 1) ≡ suc a = omega (arith, at) in e) (dvd-add n (some_whole (a / (2 ^ 64))) rest)

  pub to_residue : (z : ℤ) → n ∣ unsigned_abs z → n ∣ residue 64 z
  to_residue (pos a) is = (dvd-mod_iff n {m = a} {n = 2 ^ 64} whole).1 is
  to_residue (negsuc a) is =
      let low = below_whole a in
      let r = a % (2 ^ 64) in
      let at = parts_of a in
      let rest : n ∣ r + 1 = (dvd-add_iff_right n {m = 2 ^ 64 * (a / (2 ^ 64))} {n = r + 1} (some_whole (a / (2 ^ 64)))).1
      (subst (λ k. n ∣ k) (let e : suc a ≡ 2 ^ 64 * (a / (2 ^ 64)) + (r + 1) = omega (arith, at) in e) is) in
      (dvd-add_iff_left n {m = 2 ^ 64 - 1 - r} {n = r + 1} rest).1
      (subst (λ k. n ∣ k) (let e : 2 ^ 64 ≡ (2 ^ 64 - 1 - r) + (r + 1) = omega (arith, low) in e) whole)

-- ---- addresses

-- the address is a multiple, where it is one; undef may be any
abbrev pub IsPlaced : Memory → ℕ → Datum → Type 0
IsPlaced mem n (datum.Ptr block offset) = address mem block offset % n ≡ 0
IsPlaced mem n datum.Undef = ⊥
IsPlaced mem n datum.Null = Unit {0}
IsPlaced mem n datum.Poison = Unit {0}
IsPlaced mem n (datum.Int bits) = Unit {0}
IsPlaced mem n datum.Pair = Unit {0}

-- so many bytes on, where these are a multiple too
pub placed_on : (mem : Memory) (n block offset bytes : ℕ) → n ∣ 2 ^ 64 → n ∣ bytes → IsPlaced mem n (datum.Ptr block offset) →
    IsPlaced mem n (datum.Ptr block ((offset + bytes) % (2 ^ 64)))
placed_on mem n block offset bytes whole on is =
    let base = (mem.shape block).base in
    let there = (offset + bytes) % (2 ^ 64) in
    let q = (offset + bytes) / (2 ^ 64) in
    let first : n ∣ base + offset = (dvd-mod_iff n {m = base + offset} {n = 2 ^ 64} whole).0 (dvd_of_mod-eq-zero n {n = (base + offset) % (2 ^ 64)} is) in
    let at : 2 ^ 64 * q + there ≡ offset + bytes = div-add-mod (offset + bytes) (2 ^ 64) in
    let sum : n ∣ (base + there) + 2 ^ 64 * q =
    subst (λ k. n ∣ k) (let e : (base + offset) + bytes ≡ (base + there) + 2 ^ 64 * q = omega (arith, at) in e) (dvd-add n first on) in
    let both : n ∣ base + there = (dvd-add_iff_left n {m = base + there} {n = 2 ^ 64 * q} (dvd-mul_right_of_dvd n whole q)).1 sum in
    mod-eq-zero_of_dvd n {n = (base + there) % (2 ^ 64)} ((dvd-mod_iff n {m = base + there} {n = 2 ^ 64} whole).1 both)

-- the start of a block, whose base is a multiple of what it is a multiple of
pub placed_start : (mem : Memory) (n block align : ℕ) → n ∣ 2 ^ 64 → n ∣ align → (mem.shape block).base % align ≡ 0 → IsPlaced mem n (datum.Ptr block 0)
placed_start mem n block align whole part is =
    let base = (mem.shape block).base in
    let divides : n ∣ base = dvd_trans n part (dvd_of_mod-eq-zero align {n = base} is) in
    let at : n ∣ base + 0 = subst (λ k. n ∣ k) (let e : base ≡ base + 0 = omega arith in e) divides in
    mod-eq-zero_of_dvd n {n = (base + 0) % (2 ^ 64)} ((dvd-mod_iff n {m = base + 0} {n = 2 ^ 64} whole).1 at)
