-- The ladders told by comparing rungs, without a search.
use Rattle.std.proofs.Common.{◌≡◌, ℕ, ◌+◌, ◌%◌, ◌<◌, ◌≤◌, ◌⊎◌, ◌↔◌, Bool, true, false, ◌&&◌, ◌==◌, slice_index, Option, Some, None, refl, ap, sym, ◌∙◌, inl}
use Rattle.std.proofs.Common.{inr, arith, eqb-true, eq-eqb}
use Rattle.std.specs.Int.{bit_at}
use Rattle.std.proofs.lemmas.Bool.{and_parts, and_from}
use Rattle.std.proofs.lemmas.Nat.Gcd.{dvd_of_mod-eq-zero, mod-eq-zero_of_dvd}
use Rattle.lattice_words.specs.Words.{bit_of, has_bit}
use Rattle.lattice_words.specs.Ladders.{byte_rungs, align_rungs, lowest_byte_rung, has_byte_rung, shift_of, keep_align_of, IsLowestByteRung, IsShifted, IsKept}
use Rattle.lattice_words.proofs.LadderBits.{bit_at-shift_of, bit_at-keep_align_of, shifted_bit-rung, kept_bit-rung, shifted_outside, kept_outside}
use Rattle.lattice_words.proofs.LadderBits.{lowest_byte_rung-is, lowest_byte_rung-Some}

one_is_true : (b : Bool) → bit_of b ≡ 1 → b ≡ true
one_is_true true e = refl
one_is_true false e = absurd (omega arith)

-- the rung that decides is the lowest high enough
decided : (w n : ℕ) → (has_byte_rung w (lowest_byte_rung n) ≡ true) ↔ ((j : ℕ) × IsLowestByteRung n j × (bit_at w (23 + j) ≡ 1))
decided w n = (
  λ is. by_search (lowest_byte_rung n) refl is,
  λ (j, lowest, bit). ap (has_byte_rung w) (lowest_byte_rung-is n j lowest) ∙
      eq-eqb (bit_at w (23 + j)) 1 bit,
) where
  by_search : (found : Option ℕ) → lowest_byte_rung n ≡ found → has_byte_rung w found ≡ true → (j : ℕ) × IsLowestByteRung n j × (bit_at w (23 + j) ≡ 1)
  by_search None e is = let no : false ≡ true = is in cc
  by_search (Some j) e is = (j, lowest_byte_rung-Some n j e, eqb-true (bit_at w (23 + j)) 1 is)

pub shift_moves : (offset w : ℕ) → IsShifted offset w (shift_of offset w)
shift_moves offset w = record {
  rungs = λ k l.
      let n = slice_index byte_rungs k + offset in
      let is : bit_at (shift_of offset w) (23 + k) ≡ bit_of (has_byte_rung w (lowest_byte_rung n)) = bit_at-shift_of offset w (23 + k) (omega arith) ∙
      ap bit_of (shifted_bit-rung offset w k l) in
      (λ one. (decided w n).0 (one_is_true _ (sym is ∙ one)), λ found. is ∙ ap bit_of ((decided w n).1 found));
  others = λ i l o. bit_at-shift_of offset w i l ∙ shifted_outside offset w i (past o);
} where
  past : {i : ℕ} → (i < 23) ⊎ (38 < i) → (i < 23) ⊎ (39 ≤ i)
  past (inl below) = inl below
  past (inr above) = inr (omega arith)

pub keep_align_keeps : (step w : ℕ) → IsKept step w (keep_align_of step w)
keep_align_keeps step w = record {
  rungs = λ k l.
      let is : bit_at (keep_align_of step w) (17 + k) ≡ bit_of (has_bit w (17 + k) && (step % slice_index align_rungs k == 0)) =
      bit_at-keep_align_of step w (17 + k) (omega arith) ∙ ap bit_of (kept_bit-rung step w k l) in (
        λ one.
            let parts = and_parts _ _ (one_is_true _ (sym is ∙ one)) in
            (dvd_of_mod-eq-zero (slice_index align_rungs k) (eqb-true _ 0 parts.1), eqb-true _ 1 parts.0),
        λ (divides, bit). is ∙ ap bit_of
            (and_from _ _ (eq-eqb (bit_at w (17 + k)) 1 bit) (eq-eqb _ 0 (mod-eq-zero_of_dvd (slice_index align_rungs k) divides))),
      );
  others = λ i l o. bit_at-keep_align_of step w i l ∙ kept_outside step w i (past o);
} where
  past : {i : ℕ} → (i < 17) ⊎ (22 < i) → (i < 17) ⊎ (23 ≤ i)
  past (inl below) = inl below
  past (inr above) = inr (omega arith)
