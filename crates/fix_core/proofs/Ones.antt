-- How many bits of a number are set.
use Rattle.std.proofs.Common.{◌≡◌, ◌≢◌, ℕ, zero, suc, ◌+◌, ◌*◌, ◌/◌, ◌%◌, ◌^◌, ◌<◌, ◌≤◌, mod-lt, count_ones, ap, arith, inl, inr}
use Rattle.std.specs.Int.{bit_at}
use Rattle.std.proofs.lemmas.Bool.{cases_eq}
use Rattle.std.proofs.lemmas.Nat.{ones_cat, zero_from_ones, ones_le_self, div-add-mod'}
use Rattle.std.proofs.lemmas.Nat.Bits.{bit_at_lowest, bit_at-suc, bit_at-zero, same_from_bits}

pub ones_zero : count_ones 0 ≡ 0
ones_zero = let none : count_ones 0 ≤ 0 = ones_le_self 0 in omega arith

ones_digit : (d : ℕ) → d < 2 → count_ones d ≡ d
ones_digit zero l = ones_zero
ones_digit (suc zero) l = elim (cases_eq (count_ones 1) 0) [
  | inl none ↦ absurd (omega (arith, zero_from_ones 1 none))
  | inr some ↦ omega (arith, ones_le_self 1, some)
]
ones_digit (suc (suc d)) l = absurd (omega arith)

-- the lowest bit, and the others
pub ones_split : (n : ℕ) → count_ones n ≡ n % 2 + count_ones (n / 2)
ones_split n =
    let low : n % 2 < 2 = mod-lt n (let two : 0 < 2 = omega arith in two) in
    let parts : n / 2 * 2 ^ 1 + n % 2 ≡ n = div-add-mod' n 2 in
    let whole : count_ones (n / 2 * 2 ^ 1 + n % 2) ≡ count_ones (n / 2) + count_ones (n % 2) = ones_cat 1 (n / 2) (n % 2) low in
    omega (arith, ap count_ones parts, whole, ones_digit (n % 2) low)

-- fewer bits count less
pub ones_less : (k a b : ℕ) → a ≤ k → b ≤ k → ((i : ℕ) → bit_at a i ≤ bit_at b i) → count_ones a ≤ count_ones b
ones_less zero a b la lb h = omega (arith, ones_le_self a)
ones_less (suc k) a b la lb h =
    omega (
      arith,
      ones_split a,
      ones_split b,
      h 0,
      bit_at_lowest a,
      bit_at_lowest b,
      ones_less k (a / 2) (b / 2) (omega arith) (omega arith) (λ i. omega (arith, bit_at-suc a i, bit_at-suc b i, h (suc i))),
    )

-- fewer bits that count as many are the same
pub ones_same : (k a b : ℕ) → a ≤ k → b ≤ k → ((i : ℕ) → bit_at a i ≤ bit_at b i) → count_ones b ≤ count_ones a → a ≡ b
ones_same zero a b la lb h more = omega arith
ones_same (suc k) a b la lb h more =
    let halves : (i : ℕ) → bit_at (a / 2) i ≤ bit_at (b / 2) i = λ i. omega (arith, bit_at-suc a i, bit_at-suc b i, h (suc i)) in
    let less : count_ones (a / 2) ≤ count_ones (b / 2) = ones_less k (a / 2) (b / 2) (omega arith) (omega arith) halves in
    let low : a % 2 ≡ b % 2 = omega (arith, ones_split a, ones_split b, h 0, bit_at_lowest a, bit_at_lowest b, less, more) in
    let same : a / 2 ≡ b / 2 = ones_same k (a / 2) (b / 2) (omega arith) (omega arith) halves (omega (arith, ones_split a, ones_split b, low, more)) in
    omega (arith, div-add-mod' a 2, div-add-mod' b 2, low, same)

-- one more bit counts one more
pub ones_more : (k a b i : ℕ) → a ≤ k → b ≤ k → bit_at a i ≡ 0 → bit_at b i ≡ 1 → ((j : ℕ) → j ≢ i → bit_at a j ≡ bit_at b j) → count_ones b ≡ count_ones a + 1
ones_more zero a b i la lb off on h =
    let none : b ≡ 0 = omega arith in absurd (omega (arith, ap (λ n. bit_at n i) none, bit_at-zero i, on))
ones_more (suc k) a b zero la lb off on h =
    let same : a / 2 ≡ b / 2 = same_from_bits (a / 2) (b / 2) (λ j. omega (arith, bit_at-suc a j, bit_at-suc b j, h (suc j) (λ e. absurd (omega arith)))) in
    omega (arith, ones_split a, ones_split b, ap count_ones same, bit_at_lowest a, bit_at_lowest b, off, on)
ones_more (suc k) a b (suc i) la lb off on h =
    let rest : count_ones (b / 2) ≡ count_ones (a / 2) + 1 = ones_more k (a / 2) (b / 2) i (omega arith) (omega arith)
    (omega (arith, bit_at-suc a i, off)) (omega (arith, bit_at-suc b i, on))
    (λ j ne. omega (arith, bit_at-suc a j, bit_at-suc b j, h (suc j) (λ e. ne (omega arith)))) in
    omega (arith, ones_split a, ones_split b, rest, h 0 (λ e. absurd (omega arith)), bit_at_lowest a, bit_at_lowest b)

-- a number that is not 0 has a bit
pub ones_some : (n : ℕ) → n ≢ 0 → 0 < count_ones n
ones_some n ne = elim (cases_eq (count_ones n) 0) [ inl none ↦ absurd (ne (zero_from_ones n none)) | inr some ↦ omega arith ]
