-- A word made bit by bit.
use Rattle.std.proofs.Common.{arith, ◌≡◌, ◌+◌, ◌^◌, ◌<◌, ◌≤◌, if◌then◌else◌, ℕ, zero, suc, Bool, true, false, List, [], ◌∷◌, ◌++◌, Some, unwrap_or, map, take}
use Rattle.std.proofs.Common.{slice_get, refl, sym, ap, subst}
use Rattle.lattice_words.specs.Words.{word_of}

module _ (test : ℕ → Bool) where
  no_bit : word_of test zero ≡ 0
  unfolding word_of
  no_bit = refl

  next_bit : (n : ℕ) → word_of test (suc n) ≡ (if test n then 2 ^ n else 0) + word_of test n
  unfolding word_of
  next_bit n = refl

  -- with no bit yet
  pub word_begun : 0 ≡ word_of test 0
  word_begun = sym no_bit

  -- with one bit more
  pub word_grown : (n word one : ℕ) → word ≡ word_of test n → one ≡ (if test n then 2 ^ n else 0) → word + one ≡ word_of test (n + 1)
  word_grown n word one is bit =
      let e : suc n ≡ n + 1 = omega arith in
      subst (λ k. word + one ≡ word_of test k) e (let more = next_bit n in omega (arith, more, is, bit))

  bit_small : (b : Bool) (n : ℕ) → (if b then 2 ^ n else 0) ≤ 2 ^ n
  bit_small true n = omega arith
  bit_small false n = omega arith

  double : (n : ℕ) → 2 ^ suc n ≡ 2 ^ n + 2 ^ n
  double n = omega arith

  -- it is below the next power of 2
  pub word_small : (n : ℕ) → word_of test n < 2 ^ n
  word_small zero = subst (λ k. k < 2 ^ zero) (sym no_bit) (omega arith)
  word_small (suc n) =
      let rest = word_small n in
      let more = next_bit n in
      let one = bit_small (test n) n in
      let twice = double n in
      omega (arith, rest, more, one, twice)

-- what is made of one element more
pub map_more : {X Y : Type 0} (f : X → Y) (xs : List X) (i : ℕ) (x : X) → slice_get xs i ≡ Some x → map f (take (i + 1) xs) ≡ map f (take i xs) ++ f x ∷ []
map_more {X} {Y} f xs i x there = let e : suc i ≡ i + 1 = omega arith in subst (λ k. map f (take k xs) ≡ map f (take i xs) ++ f x ∷ []) e (by xs i there)
  where
    by : (xs : List X) (i : ℕ) → slice_get xs i ≡ Some x → map f (take (suc i) xs) ≡ map f (take i xs) ++ f x ∷ []
    by [] i there = absurd (cc)
    by (y ∷ ys) zero there = ap (λ o. f (unwrap_or o y) ∷ []) there
    by (y ∷ ys) (suc i) there = ap (λ zs. f y ∷ zs) (by ys i there)
