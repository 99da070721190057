-- A removal is a run of cuts from the masks: what is left contains every list that supports itself.
use Rattle.std.proofs.Common.{◌≡◌, ◌≢◌, ℕ, zero, suc, ◌+◌, ◌^◌, ◌<◌, ◌≤◌, List, [], ◌∷◌, ◌++◌, length, length-set, take, All, bit_and, bit_xor}
use Rattle.std.proofs.Common.{slice_index, slice_index_or, slice_set, refl, ap, sym, subst, ◌∙◌, arith, add-one, inl, inr, get_or-set_same}
use Rattle.std.proofs.Common.{get_or-set_other}
use Rattle.std.proofs.lemmas.Bool.{cases_eq}
use Rattle.std.proofs.lemmas.List.{take_more, take_all}
use Rattle.std.proofs.lemmas.List.Elements.{All-get_or, All-from_get_or}
use Rattle.lattice_words.specs.declared.word.TheConstants.{FACT_BITS}
use Rattle.rule_terms.specs.System.{System, IsSystem, value_in}
use Rattle.rule_terms.specs.Greatest.{AreWithin, Supports, IsSelfSupporting, IsGreatest, IsAbove, IsCut, IsReached, from_masks, then_cut}
use Rattle.lattice_words.proofs.WordBits.{within_trans}
use Rattle.rule_terms.proofs.Greatest.{within_from_and, reached_long, reached_above, reached_greatest}
use Rattle.rule_terms.proofs.Monotone.{value_in-within}
use Rattle.why_check.specs.declared.entry.Entry.{Entry}
use Rattle.why_check.specs.Removal.{IsRemovable, IsRemovableAt, IsRemoval, NoneIsSupported, after_entry, words_after, words_left}
use Rattle.why_check.specs.Judged.{IsComplete, IsGiven}
use Rattle.why_check.proofs.Bits.{xor_within, xor_keeps, xor_small, none_within}

-- one more entry's facts are taken away at last
pub after_more : (words : List ℕ) (entries : List Entry) (entry : Entry) →
    words_after words (entries ++ entry ∷ []) ≡ after_entry (words_after words entries) entry
unfolding words_after
after_more words [] entry = refl
after_more words (x ∷ rest) entry = after_more (after_entry words x) rest entry

-- no entry takes nothing away
pub after_none : (words : List ℕ) → words_after words [] ≡ words
unfolding words_after
after_none words = refl

-- one word for each position stays
pub after_long : (words : List ℕ) (entries : List Entry) → length (words_after words entries) ≡ length words
unfolding words_after
after_long words [] = refl
after_long words (x ∷ rest) = after_long (after_entry words x) rest ∙ length-set words x.p.0 (bit_xor (slice_index words x.p.0) x.bits)

-- an entry, where there is none in a list
no_facts : Entry
no_facts = record { p = record { 0 = 0 }; bits = 0 }

module _ (s : System) where
  -- the words before the first entry are the masks
  pub left_first : (entries : List Entry) → words_left s (take 0 entries) ≡ s.masks
  left_first entries = after_none s.masks

  -- the words behind one more entry
  pub left_more : (entries : List Entry) (k : ℕ) (d : Entry) → k < length entries →
      words_left s (take (k + 1) entries) ≡ after_entry (words_left s (take k entries)) (slice_index_or entries k d)
  left_more entries k d l =
      ap (λ (xs : List Entry). words_left s xs) (take_more entries k d l) ∙ after_more s.masks (take k entries) (slice_index_or entries k d)

  -- the words behind all entries
  pub left_all : (entries : List Entry) (k : ℕ) → length entries ≤ k → words_left s (take k entries) ≡ words_left s entries
  left_all entries k l = ap (λ (xs : List Entry). words_left s xs) (take_all k entries l)

  -- to remove an entry is a cut
  pub removal_cuts : (words : List ℕ) (entry : Entry) → IsRemovable s words entry → IsCut s words (after_entry words entry)
  removal_cuts words entry r = record {
    place = entry.p.0;
    word = bit_xor (slice_index words entry.p.0) entry.bits;
    is_position = r.position;
    written = refl;
    less = xor_within (slice_index words entry.p.0) entry.bits r.present;
    keeps = xor_keeps (slice_index words entry.p.0) (value_in s entry.p.0 words) entry.bits r.absent;
  }

  -- cuts from the masks, as far as the first k entries
  pub removal_reached : (entries : List Entry) (d : Entry) (k : ℕ) → k ≤ length entries → ((j : ℕ) → j < k → IsRemovableAt s entries j) →
      IsReached s (words_left s (take k entries))
  removal_reached entries d zero l may = subst (IsReached s) (sym (left_first entries)) from_masks
  removal_reached entries d (suc k) l may =
      let e : words_left s (take (suc k) entries) ≡ after_entry (words_left s (take k entries)) (slice_index_or entries k d) =
      rw add-one at (left_more entries k d (omega arith)) in
      subst (IsReached s) (sym e) (then_cut (removal_reached entries d k (omega arith) (λ j b. may j (omega arith)))
      (removal_cuts (words_left s (take k entries)) (slice_index_or entries k d) (may k (omega arith) d)))

  module _ (is_system : IsSystem s) where
    mask_small : (q : ℕ) → q < length s.masks → slice_index s.masks q < 2 ^ 64
    mask_small q l =
        let h : slice_index s.masks q < 2 ^ FACT_BITS = All-get_or (λ (mask : ℕ). mask < 2 ^ FACT_BITS) s.masks q 0 l is_system.facts in
        omega arith

    -- words of 64 bits stay such words
    entry_small : (words : List ℕ) (entry : Entry) → length words ≡ length s.masks → IsRemovable s words entry →
        ((q : ℕ) → q < length s.masks → slice_index words q < 2 ^ 64) → (q : ℕ) → q < length s.masks → slice_index (after_entry words entry) q < 2 ^ 64
    entry_small words entry long r small q l = elim (cases_eq q entry.p.0) [
      | inl here ↦ rw (here, get_or-set_same words entry.p.0 (bit_xor (slice_index words entry.p.0) entry.bits) 0 (omega (arith, r.position)))
          (xor_small (slice_index words entry.p.0) entry.bits (small entry.p.0 r.position) r.present)
      | inr other ↦ rw (get_or-set_other words entry.p.0 q (bit_xor (slice_index words entry.p.0) entry.bits) 0 other) (small q l)
    ]

    left_small : (entries : List Entry) (d : Entry) (k : ℕ) → k ≤ length entries → ((j : ℕ) → j < k → IsRemovableAt s entries j) →
        (q : ℕ) → q < length s.masks → slice_index (words_left s (take k entries)) q < 2 ^ 64
    left_small entries d zero l may q b = subst (λ (xs : List ℕ). slice_index xs q < 2 ^ 64) (sym (left_first entries)) (mask_small q b)
    left_small entries d (suc k) l may q b =
        let e : words_left s (take (suc k) entries) ≡ after_entry (words_left s (take k entries)) (slice_index_or entries k d) =
        rw add-one at (left_more entries k d (omega arith)) in
        let so_far : IsReached s (words_left s (take k entries)) = removal_reached entries d k (omega arith) (λ j c. may j (omega arith)) in
        subst (λ (xs : List ℕ). slice_index xs q < 2 ^ 64) (sym e)
        (entry_small (words_left s (take k entries)) (slice_index_or entries k d) (reached_long s is_system (words_left s (take k entries)) so_far)
        (may k (omega arith) d) (left_small entries d k (omega arith) (λ j c. may j (omega arith))) q b)

    -- no list that supports itself has a fact of an entry
    pub none_supported : (entries : List Entry) → IsRemoval s entries → NoneIsSupported s entries
    none_supported entries may words is k d l =
        let before : List ℕ = words_left s (take k entries) in
        let entry : Entry = slice_index_or entries k d in
        let r : IsRemovable s before entry = may k l d in
        let reached : IsReached s before = removal_reached entries d k (omega arith) (λ j b. may j (omega arith)) in
        none_within (slice_index words entry.p.0) (value_in s entry.p.0 before) entry.bits
        (All-get_or (λ (w : ℕ). w < 2 ^ 64) words entry.p.0 0 (omega (arith, is.long, r.position)) is.fits)
        (within_trans (slice_index words entry.p.0) (value_in s entry.p.0 words) (value_in s entry.p.0 before)
        (is.supported entry.p.0 r.position) (value_in-within s is_system entry.p.0 words before (reached_above s is_system before reached words is)))
        r.absent

    -- what a removal leaves is a run of cuts from the masks, and words of 64 bits
    pub left_reached : (entries : List Entry) → IsRemoval s entries → IsReached s (words_left s entries)
    left_reached entries may =
        subst (IsReached s) (left_all entries (length entries) (omega arith)) (removal_reached entries no_facts (length entries) (omega arith) may)

    pub left_fits : (entries : List Entry) → IsRemoval s entries → (q : ℕ) → q < length s.masks → slice_index (words_left s entries) q < 2 ^ 64
    left_fits entries may =
        subst (λ (xs : List ℕ). (q : ℕ) → q < length s.masks → slice_index xs q < 2 ^ 64) (left_all entries (length entries) (omega arith))
        (left_small entries no_facts (length entries) (omega arith) may)

    -- a complete removal leaves the greatest list
    pub complete_greatest : (entries : List Entry) → IsRemoval s entries → IsComplete s entries → IsGreatest s (words_left s entries)
    complete_greatest entries may all =
        let reached : IsReached s (words_left s entries) = left_reached entries may in
        reached_greatest s is_system (words_left s entries) reached
        (All-from_get_or (λ (w : ℕ). w < 2 ^ 64) (words_left s entries) 0
        (λ q l. left_fits entries may q (omega (arith, reached_long s is_system (words_left s entries) reached))))
        (λ p l. within_from_and (slice_index (words_left s entries) p) (value_in s p (words_left s entries)) (all p l))
