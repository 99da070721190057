-- Words by their bits: a word from a test, and a bit as a number.
use Rattle.std.proofs.Common.{◌≡◌, ℕ, zero, suc, ◌+◌, ◌-◌, ◌^◌, ◌<◌, ◌≤◌, ◌⊎◌, ◌≢◌, Bool, true, false, cond, eqb, refl, ap, sym, ◌∙◌, inl, inr, arith, one-mul}
use Rattle.std.proofs.Common.{zero-add, le_refl, lit<, eq-eqb, eqb-true, subst}
use Rattle.std.specs.Int.{bit_at}
use Rattle.std.proofs.Math.Nat.{pow-suc}
use Rattle.std.proofs.lemmas.Bool.{cases_lt}
use Rattle.std.proofs.lemmas.Nat.Bits.{bit_at-lt, bit_at_above, bit_at_cat_low, bit_at_cat_high, same_from_bits_below}
use Rattle.lattice_words.specs.Words.{bit_of, has_bit, IsWithin, word_of}

pub bit_of-has_bit : (w i : ℕ) → bit_of (has_bit w i) ≡ bit_at w i
bit_of-has_bit w i = as_bit (bit_at w i) (bit_at-lt w i) where
  as_bit : (n : ℕ) → n < 2 → bit_of (eqb n 1) ≡ n
  as_bit zero l = refl
  as_bit (suc zero) l = refl
  as_bit (suc (suc n)) l = absurd (omega arith)

below_top : (b : Bool) (n r i : ℕ) → i < n → bit_at (cond b (2 ^ n) 0 + r) i ≡ bit_at r i
below_top true n r i l = ap (λ x. bit_at (x + r) i) (sym (one-mul (2 ^ n))) ∙ bit_at_cat_low 1 n r i l
below_top false n r i l = ap (λ x. bit_at x i) (zero-add r)

at_top : (b : Bool) (n r : ℕ) → r < 2 ^ n → bit_at (cond b (2 ^ n) 0 + r) n ≡ bit_of b
at_top true n r l =
    let e : n - n ≡ 0 = omega arith in
    ap (λ x. bit_at (x + r) n) (sym (one-mul (2 ^ n))) ∙ bit_at_cat_high 1 n r n l (le_refl n) ∙ ap (λ x. bit_at 1 x) e
at_top false n r l = ap (λ x. bit_at x n) (zero-add r) ∙ bit_at_above r n n l (le_refl n)

pub word_of-lt : (test : ℕ → Bool) (n : ℕ) → word_of test n < 2 ^ n
unfolding word_of
word_of-lt test zero = lit< tt
word_of-lt test (suc n) = with_top (test n) (word_of test n) (word_of-lt test n) where
  with_top : (b : Bool) (r : ℕ) → r < 2 ^ n → cond b (2 ^ n) 0 + r < 2 ^ suc n
  with_top true r l = rw pow-suc (omega arith)
  with_top false r l = rw pow-suc (omega arith)

pub bit_at-word_of : (test : ℕ → Bool) (n i : ℕ) → i < n → bit_at (word_of test n) i ≡ bit_of (test i)
unfolding word_of
bit_at-word_of test zero i l = absurd (omega arith)
bit_at-word_of test (suc n) i l = elim (cases_lt i n) [
  | inl below ↦ below_top (test n) n (word_of test n) i below ∙ bit_at-word_of test n i below
  | inr above ↦
      let e : i ≡ n = omega arith in
      rw e (at_top (test n) n (word_of test n) (word_of-lt test n))
]

-- a test that is true where another one is gives a smaller bit
pub bit_of-le : (a b : Bool) → (a ≡ true → b ≡ true) → bit_of a ≤ bit_of b
bit_of-le true true h = omega arith
bit_of-le true false h = let e : false ≡ true = h refl in cc
bit_of-le false b h = zero_le (bit_of b) where
  zero_le : (n : ℕ) → 0 ≤ n
  zero_le n = omega arith

-- a bit of a word is a bit of a word above it
pub has_bit-within : (w v i : ℕ) → IsWithin w v → i < 64 → has_bit w i ≡ true → has_bit v i ≡ true
has_bit-within w v i h l is = eq-eqb (bit_at v i) 1 (omega (arith, h i l, eqb-true (bit_at w i) 1 is, bit_at-lt v i))

pub within_refl : (w : ℕ) → IsWithin w w
within_refl w i l = le_refl (bit_at w i)

pub within_trans : (u v w : ℕ) → IsWithin u v → IsWithin v w → IsWithin u w
within_trans u v w h k i l = omega (arith, h i l, k i l)

-- a word from a test is monotone in the test
pub word_of-within : (a b : ℕ → Bool) → ((i : ℕ) → i < 64 → a i ≡ true → b i ≡ true) → IsWithin (word_of a 64) (word_of b 64)
word_of-within a b h i l = omega (arith, bit_at-word_of a 64 i l, bit_at-word_of b 64 i l, bit_of-le (a i) (b i) (h i l))

-- A word of which the bits from `first` on were decided one after another: the first `count` of them are
-- those of the test, and all others those of the word w.
pub record IsDoneTo (test : ℕ → Bool) (first count w after : ℕ) : Type 0 where
  pub done : (k : ℕ) → k < count → bit_at after (first + k) ≡ bit_of (test (first + k))
  pub rest : (i : ℕ) → i < 64 → (i < first) ⊎ (first + count ≤ i) → bit_at after i ≡ bit_at w i

pub done_none : (test : ℕ → Bool) (first w : ℕ) → IsDoneTo test first 0 w w
done_none test first w = record { done = λ k l. absurd (omega arith); rest = λ i l o. refl }

-- one more bit is decided, and no other changes
pub done_more : (test : ℕ → Bool) (first count w before after : ℕ) → first + count < 64 → IsDoneTo test first count w before →
    bit_at after (first + count) ≡ bit_of (test (first + count)) →
    ((i : ℕ) → i < 64 → i ≢ first + count → bit_at after i ≡ bit_at before i) →
    IsDoneTo test first (count + 1) w after
done_more test first count w before after in_word so_far here others = record { done = done; rest = rest } where
  done : (k : ℕ) → k < count + 1 → bit_at after (first + k) ≡ bit_of (test (first + k))
  done k l = elim (cases_lt k count) [
    | inl below ↦ others (first + k) (omega arith) (λ e. omega arith) ∙ so_far.done k below
    | inr last ↦ let e : k ≡ count = omega arith in rw e here
  ]

  rest : (i : ℕ) → i < 64 → (i < first) ⊎ (first + (count + 1) ≤ i) → bit_at after i ≡ bit_at w i
  rest i l (inl below) = others i l (λ e. omega arith) ∙ so_far.rest i l (inl below)
  rest i l (inr above) = others i l (λ e. omega arith) ∙ so_far.rest i l (inr (omega arith))

-- where the test says the word's own bits outside, the word is the one from the test
pub done_all : (test : ℕ → Bool) (first count w after : ℕ) → after < 2 ^ 64 → IsDoneTo test first count w after →
    ((i : ℕ) → i < 64 → (i < first) ⊎ (first + count ≤ i) → bit_of (test i) ≡ bit_at w i) →
    after ≡ word_of test 64
done_all test first count w after fits so_far outside =
    same_from_bits_below 64 after (word_of test 64) fits (word_of-lt test 64) (λ i l. bit i l ∙ sym (bit_at-word_of test 64 i l)) where
      at_rung : (i : ℕ) → first ≤ i → i < first + count → bit_at after i ≡ bit_of (test i)
      at_rung i above below =
          let e : first + (i - first) ≡ i = omega arith in
          let P : ℕ → Type 0 = λ x. bit_at after x ≡ bit_of (test x) in
          subst P e (so_far.done (i - first) (omega arith))

      bit : (i : ℕ) → i < 64 → bit_at after i ≡ bit_of (test i)
      bit i l = elim (cases_lt i first) [
        | inl below ↦ so_far.rest i l (inl below) ∙ sym (outside i l (inl below))
        | inr above ↦ elim (cases_lt i (first + count)) [
          | inl on ↦ at_rung i above on
          | inr past ↦ so_far.rest i l (inr past) ∙ sym (outside i l (inr past))
        ]
      ]
