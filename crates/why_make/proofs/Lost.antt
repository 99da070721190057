-- The bits that a word loses.
use Rattle.std.proofs.Common.{◌≡◌, ◌≢◌, ℕ, ◌+◌, ◌%◌, ◌^◌, ◌<◌, ◌≤◌, min, bit_and, bit_xor, ap, sym, ◌∙◌, arith, inl, inr}
use Rattle.std.specs.Int.{bit_at}
use Rattle.std.specs.Int.Bits.{xor_self}
use Rattle.std.proofs.lemmas.Bool.{cases_lt}
use Rattle.std.proofs.lemmas.Nat.{and_le_l, and_le_r, xor_lt}
use Rattle.std.proofs.lemmas.Nat.Bits.{bit_at_and, bit_at_xor, bit_at-lt, bit_at-zero, same_from_bits_below}

-- a bit of what is lost: set in the word, and not in the other
lost_bit : (w v i : ℕ) → bit_at (bit_xor w (bit_and w v)) i ≡ (bit_at w i + min (bit_at w i) (bit_at v i)) % 2
lost_bit w v i = bit_at_xor w (bit_and w v) i ∙ ap (λ (x : ℕ). (bit_at w i + x) % 2) (bit_at_and w v i)

lost_small : (w v : ℕ) → w < 2 ^ 64 → bit_xor w (bit_and w v) < 2 ^ 64
lost_small w v small = xor_lt 64 w (bit_and w v) small (omega (arith, and_le_l w v))

-- the word has all that it loses
pub lost_present : (w v : ℕ) → w < 2 ^ 64 → bit_and w (bit_xor w (bit_and w v)) ≡ bit_xor w (bit_and w v)
lost_present w v small =
    same_from_bits_below 64 (bit_and w (bit_xor w (bit_and w v))) (bit_xor w (bit_and w v))
    (omega (arith, and_le_l w (bit_xor w (bit_and w v)))) (lost_small w v small)
    (λ i l. has (bit_at w i) (bit_at v i) (bit_at-lt w i) (bit_at-lt v i) (lost_bit w v i) (bit_at_and w (bit_xor w (bit_and w v)) i)) where
      has : {q r : ℕ} (x y : ℕ) → x < 2 → y < 2 → r ≡ (x + min x y) % 2 → q ≡ min x r → q ≡ r
      has x y k m e f = omega arith

-- the other has none of it
pub lost_absent : (w v : ℕ) → w < 2 ^ 64 → bit_and v (bit_xor w (bit_and w v)) ≡ 0
lost_absent w v small =
    same_from_bits_below 64 (bit_and v (bit_xor w (bit_and w v))) 0 (omega (arith, and_le_r v (bit_xor w (bit_and w v)), lost_small w v small)) (omega arith)
    (λ i l. not_so (bit_at w i) (bit_at v i) (bit_at-lt w i) (bit_at-lt v i) (lost_bit w v i) (bit_at_and v (bit_xor w (bit_and w v)) i)
    ∙ sym (bit_at-zero i)) where
      not_so : {q r : ℕ} (x y : ℕ) → x < 2 → y < 2 → r ≡ (x + min x y) % 2 → q ≡ min y r → q ≡ 0
      not_so x y k m e f = omega arith

-- a word that loses nothing lies within the other
pub lost_none : (w v : ℕ) → w < 2 ^ 64 → bit_xor w (bit_and w v) ≡ 0 → bit_and w v ≡ w
lost_none w v small none =
    same_from_bits_below 64 (bit_and w v) w (omega (arith, and_le_l w v)) small
    (λ i l. same (bit_at w i) (bit_at v i) (bit_at-lt w i) (bit_at-lt v i)
    (sym (lost_bit w v i) ∙ ap (λ (x : ℕ). bit_at x i) none ∙ bit_at-zero i) (bit_at_and w v i)) where
      same : {q : ℕ} (x y : ℕ) → x < 2 → y < 2 → (x + min x y) % 2 ≡ 0 → q ≡ min x y → q ≡ x
      same x y k m e f = omega arith

-- what a word keeps is what the other leaves of it
lost_kept : (w v : ℕ) → w < 2 ^ 64 → bit_xor w (bit_xor w (bit_and w v)) ≡ bit_and w v
lost_kept w v small =
    same_from_bits_below 64 (bit_xor w (bit_xor w (bit_and w v))) (bit_and w v) (xor_lt 64 w (bit_xor w (bit_and w v)) small (lost_small w v small))
    (omega (arith, and_le_l w v))
    (λ i l. kept (bit_at w i) (bit_at v i) (bit_at-lt w i) (bit_at-lt v i) (lost_bit w v i) (bit_at_and w v i) (bit_at_xor w (bit_xor w (bit_and w v)) i)) where
      kept : {q r t : ℕ} (x y : ℕ) → x < 2 → y < 2 → r ≡ (x + min x y) % 2 → q ≡ min x y → t ≡ (x + r) % 2 → t ≡ q
      kept x y k m e f g = omega arith

-- once what is lost is taken away, nothing more is lost
pub lost_once : (w v x : ℕ) → w < 2 ^ 64 → x ≡ bit_xor w (bit_xor w (bit_and w v)) → bit_xor x (bit_and x v) ≡ 0
lost_once w v x small e =
    let kept : x ≡ bit_and w v = e ∙ lost_kept w v small in
    same_from_bits_below 64 (bit_xor x (bit_and x v)) 0 (lost_small x v (omega (arith, kept, and_le_l w v))) (omega arith)
    (λ i l. none (bit_at w i) (bit_at v i) (bit_at-lt w i) (bit_at-lt v i) (ap (λ (z : ℕ). bit_at z i) kept ∙ bit_at_and w v i) (lost_bit x v i)
    ∙ sym (bit_at-zero i)) where
      none : {q r : ℕ} (x y : ℕ) → x < 2 → y < 2 → r ≡ min x y → q ≡ (r + min r y) % 2 → q ≡ 0
      none x y k m e f = omega arith

-- a word that loses something gets smaller
pub lost_less : (w v : ℕ) → w < 2 ^ 64 → bit_xor w (bit_and w v) ≢ 0 → bit_xor w (bit_xor w (bit_and w v)) < w
lost_less w v small some = elim (cases_lt (bit_and w v) w) [
  | inl less ↦ omega (arith, lost_kept w v small, less)
  | inr all ↦ let same : bit_and w v ≡ w = omega (arith, all, and_le_l w v) in absurd (some (ap (bit_xor w) same ∙ xor_self w))
]
