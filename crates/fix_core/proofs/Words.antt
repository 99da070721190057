-- Bits of words: what taking up, telling and cutting leave of them.
use Rattle.std.proofs.Common.{◌≡◌, ◌≢◌, ℕ, zero, suc, ◌+◌, ◌-◌, ◌^◌, ◌<◌, ◌≤◌, min, bit_or, List, [], ◌∷◌, length, slice_index, set, refl, ap, sym, ◌∙◌, arith}
use Rattle.std.proofs.Common.{inl, inr}
use Rattle.std.specs.Int.{bit_at}
use Rattle.std.specs.Int.Bits.{and_lt}
use Rattle.std.proofs.lemmas.Bool.{cases_lt}
use Rattle.std.proofs.lemmas.Nat.Bits.{bit_at_and, bit_at_or, bit_at_ones, bit_at_ones_above, bit_at_mask_below, bit_at_mask_inside, bit_at-pow_same}
use Rattle.std.proofs.lemmas.Nat.Bits.{bit_at-pow_other, bit_at-lt, same_from_bits}
use Rattle.lattice_words.specs.declared.word.TheConstants.{DIRTY, FACT_BITS}
use Rattle.fix_core.specs.Machine.{facts_of, facts_at, dirty_at, cleaned, dirtied, cut_to}

-- ---- facts
pub facts_low : (n i : ℕ) → i < FACT_BITS → bit_at (facts_of n) i ≡ bit_at n i
facts_low n i l = omega (arith, bit_at_and n (2 ^ FACT_BITS - 1) i, bit_at_ones FACT_BITS i l, bit_at-lt n i)

pub facts_high : (n i : ℕ) → FACT_BITS ≤ i → bit_at (facts_of n) i ≡ 0
facts_high n i l = omega (arith, bit_at_and n (2 ^ FACT_BITS - 1) i, bit_at_ones_above FACT_BITS i l, bit_at-lt n i)

-- words with the same low bits have the same facts
pub facts_same : (a b : ℕ) → ((i : ℕ) → i < FACT_BITS → bit_at a i ≡ bit_at b i) → facts_of a ≡ facts_of b
facts_same a b h = same_from_bits (facts_of a) (facts_of b) (λ i. elim (cases_lt i FACT_BITS) [
  | inl low ↦ facts_low a i low ∙ (h i low ∙ sym (facts_low b i low))
  | inr high ↦ facts_high a i high ∙ sym (facts_high b i high)
])

-- ---- words with their dirty bits unset
pub cleaned_facts : (n : ℕ) → facts_of (cleaned n) ≡ facts_of n
cleaned_facts n = facts_same (cleaned n) n (λ i l. let on : bit_at (2 ^ DIRTY - 1) i ≡ 1 = bit_at_ones DIRTY i (omega arith) in
    omega (arith, bit_at_and n (2 ^ DIRTY - 1) i, on, bit_at-lt n i))

pub cleaned_clean : (n w : ℕ) → dirty_at (cleaned n) w ≡ 0
cleaned_clean n w = let off : bit_at (2 ^ DIRTY - 1) (DIRTY + w) ≡ 0 = bit_at_ones_above DIRTY (DIRTY + w) (omega arith) in
    omega (arith, bit_at_and n (2 ^ DIRTY - 1) (DIRTY + w), off, bit_at-lt n (DIRTY + w))

pub cleaned_fits : (n : ℕ) → n < 2 ^ 64 → cleaned n < 2 ^ 64
cleaned_fits n l = and_lt 64 n (2 ^ DIRTY - 1) l (omega arith)

-- ---- words with one more dirty bit
pub dirtied_facts : (n w : ℕ) → facts_of (dirtied n w) ≡ facts_of n
dirtied_facts n w = facts_same (dirtied n w) n (λ i l.
    let apart : i ≢ DIRTY + w = λ e. absurd (omega arith) in
    omega (arith, bit_at_or n (2 ^ (DIRTY + w)) i, bit_at-pow_other (DIRTY + w) i apart))

pub dirtied_here : (n w : ℕ) → dirty_at (dirtied n w) w ≡ 1
dirtied_here n w = omega (arith, bit_at_or n (2 ^ (DIRTY + w)) (DIRTY + w), bit_at-pow_same (DIRTY + w), bit_at-lt n (DIRTY + w))

pub dirtied_other : (n w u : ℕ) → u ≢ w → dirty_at (dirtied n w) u ≡ dirty_at n u
dirtied_other n w u ne =
    let apart : DIRTY + u ≢ DIRTY + w = λ e. ne (omega arith) in
    omega (arith, bit_at_or n (2 ^ (DIRTY + w)) (DIRTY + u), bit_at-pow_other (DIRTY + w) (DIRTY + u) apart)

-- ---- words that were cut
pub cut_low : (new n i : ℕ) → i < FACT_BITS → bit_at (cut_to new n) i ≡ min (bit_at n i) (bit_at new i)
cut_low new n i l =
    let off : bit_at (2 ^ 64 - 2 ^ FACT_BITS) i ≡ 0 = bit_at_mask_below FACT_BITS 64 i l in
    omega (arith, bit_at_and n (bit_or new (2 ^ 64 - 2 ^ FACT_BITS)) i, bit_at_or new (2 ^ 64 - 2 ^ FACT_BITS) i, off, bit_at-lt n i, bit_at-lt new i)

pub cut_high : (new n i : ℕ) → FACT_BITS ≤ i → i < 64 → bit_at (cut_to new n) i ≡ bit_at n i
cut_high new n i l h =
    let on : bit_at (2 ^ 64 - 2 ^ FACT_BITS) i ≡ 1 = bit_at_mask_inside FACT_BITS 64 i l h in
    omega (arith, bit_at_and n (bit_or new (2 ^ 64 - 2 ^ FACT_BITS)) i, bit_at_or new (2 ^ 64 - 2 ^ FACT_BITS) i, on, bit_at-lt n i, bit_at-lt new i)

pub cut_dirty : (new n w : ℕ) → w < 16 → dirty_at (cut_to new n) w ≡ dirty_at n w
cut_dirty new n w l = cut_high new n (DIRTY + w) (omega arith) (omega arith)

-- the facts of a word that was cut are those that it had and that the cut leaves
pub cut_facts : (new n i : ℕ) → bit_at (facts_of (cut_to new n)) i ≡ min (bit_at (facts_of n) i) (bit_at new i)
cut_facts new n i = elim (cases_lt i FACT_BITS) [
  | inl low ↦ omega (arith, facts_low (cut_to new n) i low, facts_low n i low, cut_low new n i low)
  | inr high ↦ omega (arith, facts_high (cut_to new n) i high, facts_high n i high)
]

-- ---- lists of words
-- a fact of the word at q, once the word at p was written
pub word_after : (P : ℕ → Type 0) (words : List ℕ) (p n q : ℕ) → (q ≡ p → P n) → P (slice_index words q) → P (slice_index (set words p n) q)
word_after P [] p n q h k = k
word_after P (x ∷ xs) zero n zero h k = h refl
word_after P (x ∷ xs) zero n (suc q) h k = k
word_after P (x ∷ xs) (suc p) n zero h k = k
word_after P (x ∷ xs) (suc p) n (suc q) h k = word_after P xs p n q (λ e. h (ap suc e)) k

-- the word that was written, and the others
pub word_here : (words : List ℕ) (p n : ℕ) → p < length words → slice_index (set words p n) p ≡ n
word_here [] p n l = absurd (omega arith)
word_here (x ∷ xs) zero n l = refl
word_here (x ∷ xs) (suc p) n l = word_here xs p n (omega arith)

pub word_there : (words : List ℕ) (p n q : ℕ) → q ≢ p → slice_index (set words p n) q ≡ slice_index words q
word_there words p n q ne = word_after (λ m. m ≡ slice_index words q) words p n q (λ e. absurd (ne e)) refl

-- a word with the same facts leaves the facts of all positions as they were
pub facts_kept : (words : List ℕ) (p n : ℕ) → facts_of n ≡ facts_of (slice_index words p) → facts_at (set words p n) ≡ facts_at words
facts_kept words p n e = λ i q. each q i where
  each : (q : ℕ) → facts_at (set words p n) q ≡ facts_at words q
  each q = word_after (λ m. facts_of m ≡ facts_of (slice_index words q)) words p n q (λ here. e ∙ ap (λ r. facts_of (slice_index words r)) (sym here)) refl
