-- The ladders are monotone, and read no more than their own bits.
use Rattle.std.proofs.Common.{◌≡◌, ℕ, ◌+◌, ◌-◌, ◌<◌, Bool, true, false, cond, slice_index, Option, Some, None, refl, arith}
use Rattle.std.proofs.lemmas.Bool.{and_parts, and_from}
use Rattle.lattice_words.specs.Words.{has_bit, IsWithin}
use Rattle.lattice_words.specs.Ladders.{byte_rungs, is_byte_bit, lowest_byte_rung, has_byte_rung, shifted_bit, shift_of, kept_bit, keep_align_of}
use Rattle.lattice_words.proofs.WordBits.{has_bit-within, word_of-within}
use Rattle.lattice_words.proofs.LadderBits.{lowest-below}

-- a rung that a word has is a rung of a word above it
has_rung-within : (w v : ℕ) → IsWithin w v → (rung : Option ℕ) → ((k : ℕ) → rung ≡ Some k → k < 16) → has_byte_rung w rung ≡ true → has_byte_rung v rung ≡ true
has_rung-within w v h None low is = is
has_rung-within w v h (Some k) low is = let l : k < 16 = low k refl in has_bit-within w v (23 + k) h (omega arith) is

pub shift_of-within : (offset w v : ℕ) → IsWithin w v → IsWithin (shift_of offset w) (shift_of offset v)
unfolding shift_of
shift_of-within offset w v h = word_of-within (shifted_bit offset w) (shifted_bit offset v) (λ i l. by_case i l (is_byte_bit i)) where
  by_case : (i : ℕ) → i < 64 → (rung : Bool) →
      cond rung (has_byte_rung w (lowest_byte_rung (slice_index byte_rungs (i - 23) + offset))) (has_bit w i) ≡ true →
      cond rung (has_byte_rung v (lowest_byte_rung (slice_index byte_rungs (i - 23) + offset))) (has_bit v i) ≡ true
  by_case i l true = let n = slice_index byte_rungs (i - 23) + offset in has_rung-within w v h (lowest_byte_rung n) (lowest-below n)
  by_case i l false = has_bit-within w v i h l

pub keep_align_of-within : (step w v : ℕ) → IsWithin w v → IsWithin (keep_align_of step w) (keep_align_of step v)
unfolding keep_align_of
keep_align_of-within step w v h = word_of-within (kept_bit step w) (kept_bit step v) (λ i l is. let parts = and_parts _ _ is in
    and_from _ _ (has_bit-within w v i h l parts.0) parts.1)
