-- Words that lose bits.
use Rattle.std.proofs.Common.{◌≡◌, ℕ, ◌+◌, ◌%◌, ◌^◌, ◌<◌, ◌≤◌, min, bit_and, bit_xor, ap, sym, ◌∙◌, subst, arith}
use Rattle.std.specs.Int.{bit_at}
use Rattle.std.proofs.lemmas.Nat.{and_le_l, xor_lt}
use Rattle.std.proofs.lemmas.Nat.Bits.{bit_at_and, bit_at_xor, bit_at-lt, bit_at-zero, same_from_bits_below}
use Rattle.lattice_words.specs.Words.{IsWithin}

-- bits that a word has, turned off, leave less of it
pub xor_within : (w b : ℕ) → bit_and w b ≡ b → IsWithin (bit_xor w b) w
xor_within w b has i l =
    less (bit_at w i) (bit_at b i) (bit_at-lt w i) (bit_at-lt b i) (sym (bit_at_and w b i) ∙ ap (λ x. bit_at x i) has) (bit_at_xor w b i) where
      less : {r : ℕ} (x y : ℕ) → x < 2 → y < 2 → min x y ≡ y → r ≡ (x + y) % 2 → r ≤ x
      less x y small low m e = omega arith

-- what a word and another have stays where bits are turned off that the other has not
pub xor_keeps : (w v b : ℕ) → bit_and v b ≡ 0 → IsWithin (bit_and w v) (bit_xor w b)
xor_keeps w v b none i l =
    stays (bit_at w i) (bit_at v i) (bit_at b i) (bit_at-lt w i) (bit_at-lt v i) (bit_at-lt b i)
    (sym (bit_at_and v b i) ∙ ap (λ x. bit_at x i) none ∙ bit_at-zero i) (bit_at_and w v i) (bit_at_xor w b i) where
      stays : {q r : ℕ} (x y z : ℕ) → x < 2 → y < 2 → z < 2 → min y z ≡ 0 → q ≡ min x y → r ≡ (x + z) % 2 → q ≤ r
      stays x y z p s t m e f = omega arith

-- a word of 64 bits stays one
pub xor_small : (w b : ℕ) → w < 2 ^ 64 → bit_and w b ≡ b → bit_xor w b < 2 ^ 64
xor_small w b small has =
    let low : b < 2 ^ 64 = subst (λ (x : ℕ). x < 2 ^ 64) has bits_small in
    xor_lt 64 w b small low where
      bits_small : bit_and w b < 2 ^ 64
      bits_small = omega (arith, and_le_l w b)

-- a word within another has none of the bits that the other has not
pub none_within : (a v b : ℕ) → a < 2 ^ 64 → IsWithin a v → bit_and v b ≡ 0 → bit_and a b ≡ 0
none_within a v b small less none =
    same_from_bits_below 64 (bit_and a b) 0 (omega (arith, and_le_l a b)) (omega arith)
    (λ i l. no_bit (bit_at a i) (bit_at v i) (bit_at b i) (less i l)
    (sym (bit_at_and v b i) ∙ ap (λ x. bit_at x i) none ∙ bit_at-zero i) (bit_at_and a b i) ∙ sym (bit_at-zero i)) where
      no_bit : {q : ℕ} (x y z : ℕ) → x ≤ y → min y z ≡ 0 → q ≡ min x z → q ≡ 0
      no_bit x y z le m e = omega arith
