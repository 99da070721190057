-- The ladders by their bits: which bit of a word decides each bit after an offset or a step.
use Rattle.std.proofs.Common.{◌≡◌, ℕ, suc, ◌+◌, ◌-◌, ◌%◌, ◌^◌, ◌<◌, ◌≤◌, ◌⊎◌, min, Bool, true, false, cond, not, ◌&&◌, ◌||◌, leb, ltb, slice_index, bit_and}
use Rattle.std.proofs.Common.{◌==◌, Option, Some, None, refl, ap, sym, ◌∙◌, inl, inr, arith, leb-true, leb-false, le-leb}
use Rattle.std.specs.Int.{bit_at}
use Rattle.std.proofs.lemmas.Bool.{agree_below, agree_below_at, cases_lt, cases_Bool, and_parts, cond-true, cond-false, and_left, and_right, and_from, lt-leb}
use Rattle.std.proofs.lemmas.Bool.{lt-ltb, or_left}
use Rattle.std.specs.List.{position_or_len}
use Rattle.std.proofs.lemmas.Nat.Bits.{bit_at_and, bit_at-zero, bit_at_mask_inside, same_from_bits_below}
use Rattle.std.proofs.lemmas.List.{get_or_past}
use Rattle.std.proofs.lemmas.List.Sums.{position_or_len_is}
use Rattle.std.proofs.lemmas.List.Quantifiers.{position-Some}
use Rattle.lattice_words.specs.Words.{bit_of, has_bit}
use Rattle.lattice_words.specs.declared.value.TheConstants.{ALL_BYTES}
use Rattle.lattice_words.specs.Ladders.{byte_rungs, align_rungs, is_byte_bit, is_align_bit, lowest_byte_rung, has_byte_rung, shifted_bit, shift_of, kept_bit}
use Rattle.lattice_words.specs.Ladders.{keep_align_of, IsLowestByteRung}
use Rattle.lattice_words.proofs.WordBits.{IsDoneTo, done_all, bit_of-has_bit, bit_at-word_of, word_of-lt}

pub shift_of-lt : (offset w : ℕ) → shift_of offset w < 2 ^ 64
unfolding shift_of
shift_of-lt offset w = word_of-lt (shifted_bit offset w) 64

pub bit_at-shift_of : (offset w i : ℕ) → i < 64 → bit_at (shift_of offset w) i ≡ bit_of (shifted_bit offset w i)
unfolding shift_of
bit_at-shift_of offset w i l = bit_at-word_of (shifted_bit offset w) 64 i l

-- a bit that is no rung of bytes stays
pub bit_at-shift_of-other : (offset w i : ℕ) → i < 64 → is_byte_bit i ≡ false → bit_at (shift_of offset w) i ≡ bit_at w i
bit_at-shift_of-other offset w i l other =
    bit_at-shift_of offset w i l ∙ ap bit_of (cond-false (is_byte_bit i) _ _ other) ∙ bit_of-has_bit w i

-- a rung of bytes stays where the lowest rung high enough stood
pub bit_at-shift_of-rung : (offset w i : ℕ) → i < 64 → is_byte_bit i ≡ true →
    bit_at (shift_of offset w) i ≡ bit_of (has_byte_rung w (lowest_byte_rung (slice_index byte_rungs (i - 23) + offset)))
bit_at-shift_of-rung offset w i l rung =
    bit_at-shift_of offset w i l ∙ ap bit_of (cond-true (is_byte_bit i) _ _ rung)

-- the lowest rung is on the ladder
pub lowest-below : (n k : ℕ) → lowest_byte_rung n ≡ Some k → k < 16
unfolding lowest_byte_rung
lowest-below n k e = (position-Some (leb n) byte_rungs k 0 e).0

pub keep_align_of-lt : (step w : ℕ) → keep_align_of step w < 2 ^ 64
unfolding keep_align_of
keep_align_of-lt step w = word_of-lt (kept_bit step w) 64

pub bit_at-keep_align_of : (step w i : ℕ) → i < 64 → bit_at (keep_align_of step w) i ≡ bit_of (kept_bit step w i)
unfolding keep_align_of
bit_at-keep_align_of step w i l = bit_at-word_of (kept_bit step w) 64 i l

-- outside the ladder of bytes an offset changes no bit
pub shifted_outside : (offset w i : ℕ) → (i < 23) ⊎ (39 ≤ i) → bit_of (shifted_bit offset w i) ≡ bit_at w i
shifted_outside offset w i o = ap bit_of (cond-false (is_byte_bit i) _ _ (outside o)) ∙ bit_of-has_bit w i where
  outside : (i < 23) ⊎ (39 ≤ i) → is_byte_bit i ≡ false
  outside (inl below) = and_left (leb 23 i) (leb i 38) (lt-leb 23 i below)
  outside (inr above) = and_right (leb 23 i) (leb i 38) (lt-leb i 38 (omega arith))

pub kept_outside : (step w i : ℕ) → (i < 17) ⊎ (23 ≤ i) → bit_of (kept_bit step w i) ≡ bit_at w i
kept_outside step w i o = ap bit_of (with_true (has_bit w i) _ (or_left _ _ (not-of_false (is_align_bit i) (outside o)))) ∙ bit_of-has_bit w i where
  outside : (i < 17) ⊎ (23 ≤ i) → is_align_bit i ≡ false
  outside (inl below) = and_left (leb 17 i) (leb i 22) (lt-leb 17 i below)
  outside (inr above) = and_right (leb 17 i) (leb i 22) (lt-leb i 22 (omega arith))

  not-of_false : (b : Bool) → b ≡ false → not b ≡ true
  not-of_false b e = rw e refl

  with_true : (a b : Bool) → b ≡ true → (a && b) ≡ a
  with_true true b e = e
  with_true false b e = refl

-- a word whose rungs of bytes were all done is the shifted one
pub shifted_all : (offset w after count : ℕ) → count ≡ 16 → after < 2 ^ 64 → IsDoneTo (shifted_bit offset w) 23 count w after → after ≡ shift_of offset w
unfolding shift_of
shifted_all offset w after count e fits so_far =
    done_all (shifted_bit offset w) 23 count w after fits so_far (λ i l o. shifted_outside offset w i (past o)) where
      past : {i : ℕ} → (i < 23) ⊎ (23 + count ≤ i) → (i < 23) ⊎ (39 ≤ i)
      past (inl below) = inl below
      past (inr above) = inr (omega arith)

-- a word whose rungs of alignment were all done is the kept one
pub kept_all : (step w after count : ℕ) → count ≡ 6 → after < 2 ^ 64 → IsDoneTo (kept_bit step w) 17 count w after → after ≡ keep_align_of step w
unfolding keep_align_of
kept_all step w after count e fits so_far =
    done_all (kept_bit step w) 17 count w after fits so_far (λ i l o. kept_outside step w i (past o)) where
      past : {i : ℕ} → (i < 17) ⊎ (17 + count ≤ i) → (i < 17) ⊎ (23 ≤ i)
      past (inl below) = inl below
      past (inr above) = inr (omega arith)

-- no rung is past the last one
pub rung_le : (k : ℕ) → slice_index byte_rungs k ≤ 1024
rung_le k = elim (cases_lt k 16) [
  | inl on ↦ leb-true _ _ (agree_below_at (λ j. leb (slice_index byte_rungs j) 1024) (λ _. true) 16 k refl on)
  | inr past ↦ rw (get_or_past byte_rungs k 0 past) (omega arith)
]

-- the ladder rises
pub rungs_rise : (i j : ℕ) → i ≤ j → j < 16 → slice_index byte_rungs i ≤ slice_index byte_rungs j
rungs_rise i j le l =
    let lower : ℕ → Bool = λ j. agree_below (λ i. leb (slice_index byte_rungs i) (slice_index byte_rungs j)) (λ _. true) (suc j) in
    let at_j : lower j ≡ true = agree_below_at lower (λ _. true) 16 j refl l in
    leb-true _ _ (agree_below_at (λ i. leb (slice_index byte_rungs i) (slice_index byte_rungs j)) (λ _. true) (suc j) i at_j (omega arith))

-- a rung that is high enough, where all before are not, is the lowest
pub lowest_byte_rung-is : (n k : ℕ) → IsLowestByteRung n k → lowest_byte_rung n ≡ Some k
unfolding lowest_byte_rung
lowest_byte_rung-is n k h =
    let e : position_or_len (leb n) byte_rungs ≡ k =
    position_or_len_is (leb n) byte_rungs k 0 (omega (
      arith,
      h.on_ladder,
    )) (λ j l. lt-leb n (slice_index byte_rungs j) (h.lowest j l)) (λ l. le-leb n (slice_index byte_rungs k) h.enough) in
    found (position_or_len (leb n) byte_rungs) k e h.on_ladder where
      found : (p k : ℕ) → p ≡ k → k < 16 → cond (ltb p 16) (Some p) None ≡ Some k
      found p k e l = rw (e, lt-ltb k 16 l) refl

pub lowest_byte_rung-none : (n : ℕ) → ((j : ℕ) → j < 16 → slice_index byte_rungs j < n) → lowest_byte_rung n ≡ None
unfolding lowest_byte_rung
lowest_byte_rung-none n h =
    let e : position_or_len (leb n) byte_rungs ≡ 16 =
    position_or_len_is (leb n) byte_rungs 16 0 (omega arith) (λ j l. lt-leb n (slice_index byte_rungs j) (h j l)) (λ l. absurd (omega arith)) in
    none (position_or_len (leb n) byte_rungs) e where
      none : (p : ℕ) → p ≡ 16 → cond (ltb p 16) (Some p) None ≡ None
      none p e = rw e refl

pub lowest_byte_rung-Some : (n k : ℕ) → lowest_byte_rung n ≡ Some k → IsLowestByteRung n k
unfolding lowest_byte_rung
lowest_byte_rung-Some n k e =
    let found = position-Some (leb n) byte_rungs k 0 e in
    record { on_ladder = found.0; enough = leb-true n (slice_index byte_rungs k) found.1; lowest = λ j l. leb-false n (slice_index byte_rungs j) (found.2 j l) }

pub is_byte_bit-rung : (k : ℕ) → k < 16 → is_byte_bit (23 + k) ≡ true
is_byte_bit-rung k l = and_from _ _ (le-leb 23 (23 + k) (omega arith)) (le-leb (23 + k) 38 (omega arith))

-- the bit of a rung of bytes, by the rung's number
pub shifted_bit-rung : (offset w k : ℕ) → k < 16 → shifted_bit offset w (23 + k) ≡ has_byte_rung w (lowest_byte_rung (slice_index byte_rungs k + offset))
shifted_bit-rung offset w k l =
    let number : (23 + k) - 23 ≡ k = omega arith in
    cond-true (is_byte_bit (23 + k)) _ _ (is_byte_bit-rung k l) ∙ ap (λ j. has_byte_rung w (lowest_byte_rung (slice_index byte_rungs j + offset))) number

-- what a search for the lowest rung found decides the bit; the search stops at 2 ^ 64 - 1, above the ladder
module _ (offset w k lowest needed : ℕ) (stays : Bool) (on : k < 16) (needs : needed ≡ min (slice_index byte_rungs k + offset) (2 ^ 64 - 1)) where
  pub stays_found : lowest < 16 → ((j : ℕ) → j < lowest → slice_index byte_rungs j < needed) → needed ≤ slice_index byte_rungs lowest →
      stays ≡ has_bit w (23 + lowest) → stays ≡ shifted_bit offset w (23 + k)
  stays_found within below enough is =
      let n = slice_index byte_rungs k + offset in
      let found : lowest_byte_rung n ≡ Some lowest = lowest_byte_rung-is n lowest (record {
        on_ladder = within;
        enough = omega (arith, rung_le lowest);
        lowest = λ j l. omega (arith, below j l);
      }) in
      is ∙ ap (has_byte_rung w) (sym found) ∙ sym (shifted_bit-rung offset w k on)

  pub stays_not : 16 ≤ lowest → ((j : ℕ) → j < lowest → slice_index byte_rungs j < needed) → stays ≡ false → stays ≡ shifted_bit offset w (23 + k)
  stays_not past below is =
      let n = slice_index byte_rungs k + offset in
      let none : lowest_byte_rung n ≡ None = lowest_byte_rung-none n (λ j l. omega (arith, below j (omega arith))) in
      is ∙ ap (has_byte_rung w) (sym none) ∙ sym (shifted_bit-rung offset w k on)

-- the bit of a rung of alignment, by the rung's number
pub kept_bit-rung : (step w k : ℕ) → k < 6 → kept_bit step w (17 + k) ≡ (has_bit w (17 + k) && (step % slice_index align_rungs k == 0))
kept_bit-rung step w k l =
    let number : (17 + k) - 17 ≡ k = omega arith in
    let on : is_align_bit (17 + k) ≡ true = and_from _ _ (le-leb 17 (17 + k) (omega arith)) (le-leb (17 + k) 22 (omega arith)) in
    ap (λ b. has_bit w (17 + k) && (not b || (step % slice_index align_rungs ((17 + k) - 17) == 0))) on ∙
    ap (λ j. has_bit w (17 + k) && (step % slice_index align_rungs j == 0)) number

-- a rung of bytes is one of all of them
pub byte_bit : (i : ℕ) → is_byte_bit i ≡ true → bit_at ALL_BYTES i ≡ 1
byte_bit i is =
    let parts = and_parts _ _ is in
    bit_at_mask_inside 23 39 i (leb-true 23 i parts.0) (omega (arith, leb-true i 38 parts.1))

-- a word without a rung of bytes stays as it is
pub shift_of-none : (offset w : ℕ) → w < 2 ^ 64 → bit_and w ALL_BYTES ≡ 0 → w ≡ shift_of offset w
shift_of-none offset w fits none = same_from_bits_below 64 w (shift_of offset w) fits (shift_of-lt offset w) (λ i l. sym (bit i l)) where
  no_bit : (i : ℕ) → is_byte_bit i ≡ true → bit_at w i ≡ 0
  no_bit i on = omega (arith, bit_at_and w ALL_BYTES i, ap (λ x. bit_at x i) none, bit_at-zero i, byte_bit i on)

  no_rung : (rung : Option ℕ) → ((k : ℕ) → rung ≡ Some k → k < 16) → bit_of (has_byte_rung w rung) ≡ 0
  no_rung None low = refl
  no_rung (Some k) low = bit_of-has_bit w (23 + k) ∙ no_bit (23 + k) (is_byte_bit-rung k (low k refl))

  bit : (i : ℕ) → i < 64 → bit_at (shift_of offset w) i ≡ bit_at w i
  bit i l = elim (cases_Bool (is_byte_bit i)) [
    | inl rung ↦
        let n = slice_index byte_rungs (i - 23) + offset in
        bit_at-shift_of-rung offset w i l rung ∙ no_rung (lowest_byte_rung n) (lowest-below n) ∙ sym (no_bit i rung)
    | inr other ↦ bit_at-shift_of-other offset w i l other
  ]
