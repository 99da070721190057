-- The opening state meets the core invariant.
use Rattle.std.proofs.Common.{mod-lt, ◌≡◌, ◌≢◌, ℕ, zero, suc, ◌+◌, ◌-◌, ◌%◌, ◌^◌, ◌<◌, ◌≤◌, List, [], ◌∷◌, length, replicate, slice_index, slice_get, Some, All}
use Rattle.std.proofs.Common.{refl, ap, sym, ◌∙◌, subst, arith, inl, inr}
use Rattle.std.specs.Int.{bit_at}
use Rattle.std.proofs.Math.Pow.{pow-lt}
use Rattle.std.proofs.lemmas.Bool.{cases_lt}
use Rattle.std.proofs.lemmas.Nat.{or_lt}
use Rattle.std.proofs.lemmas.Nat.Bits.{bit_at_and, bit_at_above, bit_at-zero}
use Rattle.std.proofs.lemmas.List.{get_or_past, length-replicate}
use Rattle.std.proofs.lemmas.List.Elements.{All-cons, All-head, All-nil, All-tail, All-get_or}
use Rattle.std.proofs.lemmas.Option.{same_Some}
use Rattle.lattice_words.specs.declared.word.TheConstants.{DIRTY, FACT_BITS}
use Rattle.lattice_words.specs.Words.{IsWithin}
use Rattle.rule_terms.specs.System.{System, IsSystem}
use Rattle.dep_graph.specs.Row.{Row}
use Rattle.fix_core.specs.declared.state.CoreSeat.{CoreSeat}
use Rattle.fix_core.specs.Machine.{facts_of, dirty_at, dirtied, new_seat, opening_words, opening}
use Rattle.fix_core.specs.Invariant.{IsMode, Knows, IsCore}
use Rattle.fix_core.proofs.Words.{facts_low, facts_high, dirtied_facts, dirtied_here, dirtied_other}

-- ---- the words at the opening
pub opening_long : (workers k : ℕ) (masks : List ℕ) → length (opening_words workers k masks) ≡ length masks
opening_long workers k [] = refl
opening_long workers k (mask ∷ masks) = ap suc (opening_long workers (suc k) masks)

-- each word is its mask, dirty for one seat
pub opening_at : (workers k : ℕ) (masks : List ℕ) (p : ℕ) → p < length masks →
    slice_index (opening_words workers k masks) p ≡ dirtied (slice_index masks p) ((k + p) % workers)
opening_at workers k [] p l = absurd (omega arith)
opening_at workers k (mask ∷ masks) zero l = ap (λ j. dirtied mask (j % workers)) (let same : k ≡ k + 0 = omega arith in same)
opening_at workers k (mask ∷ masks) (suc p) l = opening_at workers (suc k) masks p (omega arith) ∙
    ap (λ j. dirtied (slice_index masks p) (j % workers)) (let same : suc k + p ≡ k + suc p = omega arith in same)

-- a number of one of so many seats
number_small : (k workers : ℕ) → 0 < workers → k % workers < workers
number_small k workers some = omega (arith, mod-lt k some)

dirtied_fits : (mask w : ℕ) → mask < 2 ^ FACT_BITS → w < 16 → dirtied mask w < 2 ^ 64
dirtied_fits mask w l k = or_lt 64 mask (2 ^ (DIRTY + w)) (omega arith) (let below : DIRTY + w < 64 = omega arith in pow-lt below)

pub opening_fits : (workers k : ℕ) (masks : List ℕ) → 0 < workers → workers ≤ 16 → All (λ mask. mask < 2 ^ FACT_BITS) masks →
    All (λ word. word < 2 ^ 64) (opening_words workers k masks)
opening_fits workers k [] some few facts = All-nil (λ (word : ℕ). word < 2 ^ 64)
opening_fits workers k (mask ∷ masks) some few facts = All-cons (λ (word : ℕ). word < 2 ^ 64) (dirtied mask (k % workers)) (opening_words workers (suc k) masks)
    (dirtied_fits mask (k % workers) (All-head (λ (m : ℕ). m < 2 ^ FACT_BITS) mask masks facts) (omega (arith, number_small k workers some)))
    (opening_fits workers (suc k) masks some few (All-tail (λ (m : ℕ). m < 2 ^ FACT_BITS) mask masks facts))

-- ---- the seats at the opening
pub replicated : (n : ℕ) (x : CoreSeat) (w : ℕ) (seat : CoreSeat) → slice_get (replicate n x) w ≡ Some seat → x ≡ seat
replicated zero x w seat e = cc
replicated (suc n) x zero seat e = same_Some x seat e
replicated (suc n) x (suc w) seat e = replicated n x w seat e

-- ---- the state at the opening
module _ (s : System) (g : List Row) (workers : ℕ) (is : IsSystem s) (some : 0 < workers) (few : workers ≤ 16) where
  abbrev words : List ℕ
  words = opening_words workers 0 s.masks

  opened : (p : ℕ) → p < length s.masks → slice_index words p ≡ dirtied (slice_index s.masks p) (p % workers)
  opened p l = opening_at workers 0 s.masks p l ∙ ap (λ j. dirtied (slice_index s.masks p) (j % workers)) (let same : 0 + p ≡ p = omega arith in same)

  mask_small : (p : ℕ) → p < length s.masks → slice_index s.masks p < 2 ^ FACT_BITS
  mask_small p l = All-get_or (λ (m : ℕ). m < 2 ^ FACT_BITS) s.masks p 0 l is.facts

  -- what holds of each word past the end, and of each mask that is dirty for one seat, holds of each word
  each_word : (P : ℕ → ℕ → Type 0) → ((p : ℕ) → length s.masks ≤ p → P p 0) →
      ((p w : ℕ) → p < length s.masks → w < workers → P p (dirtied (slice_index s.masks p) w)) → (p : ℕ) → P p (slice_index words p)
  each_word P past here p = elim (cases_lt p (length s.masks)) [
    | inl inside ↦ subst (P p) (sym (opened p inside)) (here p (p % workers) inside (number_small p workers some))
    | inr outside ↦ subst (P p) (sym (get_or_past words p 0 (omega (arith, opening_long workers 0 s.masks)))) (past p outside)
  ]

  none_past : (xs : List ℕ) (p i : ℕ) → length xs ≤ p → bit_at (slice_index xs p) i ≡ 0
  none_past xs p i l = ap (λ n. bit_at n i) (get_or_past xs p 0 l) ∙ bit_at-zero i

  -- the facts of a mask are its bits
  mask_facts : (p w i : ℕ) → p < length s.masks → bit_at (facts_of (dirtied (slice_index s.masks p) w)) i ≡ bit_at (slice_index s.masks p) i
  mask_facts p w i l = ap (λ n. bit_at n i) (dirtied_facts (slice_index s.masks p) w) ∙ elim (cases_lt i FACT_BITS) [
    | inl low ↦ facts_low (slice_index s.masks p) i low
    | inr high ↦ facts_high (slice_index s.masks p) i high ∙ sym (bit_at_above (slice_index s.masks p) FACT_BITS i (mask_small p l) high)
  ]

  pub opening_core : IsCore s g workers (opening s workers)
  opening_core = record {
    words = opening_long workers 0 s.masks;
    fits = opening_fits workers 0 s.masks some few is.facts;
    seats = length-replicate workers new_seat;
    within = each_word (λ p word. IsWithin (facts_of word) (slice_index s.masks p))
        (λ p l i k. omega (arith, bit_at_and 0 (2 ^ FACT_BITS - 1) i, bit_at-zero i))
        (λ p w l k i b. omega (arith, mask_facts p w i l));
    above = λ others self. each_word (λ p word. IsWithin (slice_index others p) (facts_of word))
        (λ p l i k. omega (arith, none_past others p i (omega (arith, self.long))))
        (λ p w l k i b. omega (arith, mask_facts p w i l, self.within p i b));
    modes = λ w seat e. subst (λ (x : CoreSeat). IsMode s g x.mode) (replicated workers new_seat w seat e) tt;
    covered = λ p l. inl (
      p % workers,
      omega (arith, number_small p workers some),
      subst (λ n. bit_at n (DIRTY + p % workers) ≡ 1) (sym (opened p l)) (dirtied_here (slice_index s.masks p) (p % workers)),
    );
    numbers = λ p u l h. each_word (λ q word. dirty_at word u ≡ 0) (λ q k. bit_at-zero (DIRTY + u))
        (λ q w k j. let ne : u ≢ w = λ e. absurd (omega arith) in dirtied_other (slice_index s.masks q) w u ne ∙
        bit_at_above (slice_index s.masks q) FACT_BITS (DIRTY + u) (mask_small q k) (omega arith)) p;
    known = λ w seat e. subst (λ (x : CoreSeat). Knows words w x) (replicated workers new_seat w seat e) (λ p has. absurd (omega (arith, has.1)));
  }
