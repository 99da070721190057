-- Which bits of a word the ladders read.
use Rattle.std.proofs.Common.{◌≡◌, ℕ, ◌+◌, ◌-◌, ◌%◌, ◌<◌, not, ◌&&◌, ◌||◌, ◌==◌, Option, Some, None, ap, sym, ◌∙◌, arith, slice_index, refl}
use Rattle.std.specs.Int.{bit_at}
use Rattle.lattice_words.specs.Words.{bit_of}
use Rattle.lattice_words.specs.Ladders.{byte_rungs, align_rungs, is_align_bit, lowest_byte_rung, has_byte_rung, shift_of, keep_align_of, SameRungs}
use Rattle.lattice_words.proofs.LadderBits.{bit_at-keep_align_of, bit_at-shift_of-rung, lowest-below, is_byte_bit-rung}

same_rung : (w v : ℕ) → SameRungs w v → (rung : Option ℕ) → ((k : ℕ) → rung ≡ Some k → k < 16) → has_byte_rung w rung ≡ has_byte_rung v rung
same_rung w v same None low = refl
same_rung w v same (Some k) low =
    let on : k < 16 = low k refl in
    ap (λ b. b == 1) (same (23 + k) (omega arith) (is_byte_bit-rung k on))

-- after an offset the rungs of bytes depend on the rungs of bytes alone
pub same_after_shift : (offset w v : ℕ) → SameRungs w v → SameRungs (shift_of offset w) (shift_of offset v)
same_after_shift offset w v same i l on =
    let n = slice_index byte_rungs (i - 23) + offset in
    bit_at-shift_of-rung offset w i l on ∙ ap bit_of (same_rung w v same (lowest_byte_rung n) (lowest-below n)) ∙ sym (bit_at-shift_of-rung offset v i l on)

-- after a step each bit depends on itself alone
pub same_after_step : (step w v i : ℕ) → i < 64 → bit_at w i ≡ bit_at v i → bit_at (keep_align_of step w) i ≡ bit_at (keep_align_of step v) i
same_after_step step w v i l same =
    bit_at-keep_align_of step w i l ∙ ap (λ b. bit_of ((b == 1) && (not (is_align_bit i) || (step % slice_index align_rungs (i - 17) == 0)))) same ∙
    sym (bit_at-keep_align_of step v i l)
