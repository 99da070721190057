-- The greatest list of words that supports itself: there is no other, and cuts from the masks lead to it.
use Rattle.std.proofs.Common.{◌≡◌, ℕ, zero, suc, ◌^◌, ◌<◌, List, [], ◌∷◌, length, length-set, slice_index, All, bit_and, refl, ap, sym, ◌∙◌, arith, inl, inr}
use Rattle.std.proofs.Common.{get_or-set_same, get_or-set_other}
use Rattle.std.specs.Int.{bit_at}
use Rattle.std.proofs.lemmas.Bool.{cases_eq}
use Rattle.std.proofs.lemmas.List.Elements.{All-get_or}
use Rattle.std.proofs.lemmas.Nat.Bits.{bit_at_and, same_from_bits_below}
use Rattle.lattice_words.proofs.WordBits.{within_refl, within_trans}
use Rattle.lattice_words.specs.Words.{IsWithin}
use Rattle.rule_terms.specs.System.{System, IsSystem, value_in}
use Rattle.rule_terms.specs.Greatest.{AreWithin, Supports, IsSelfSupporting, IsGreatest, IsAbove, IsCut, IsReached, from_masks, then_cut}
use Rattle.rule_terms.proofs.Monotone.{value_in-within}

-- ---- words

-- within both is within what both have
pub within_and : (a b c : ℕ) → IsWithin a b → IsWithin a c → IsWithin a (bit_and b c)
within_and a b c h k i l = omega (arith, h i l, k i l, bit_at_and b c i)

-- what both have is within each
pub and_within_left : (a b : ℕ) → IsWithin (bit_and a b) a
and_within_left a b i l = omega (arith, bit_at_and a b i)

pub and_within_right : (a b : ℕ) → IsWithin (bit_and a b) b
and_within_right a b i l = omega (arith, bit_at_and a b i)

-- a word that a mask takes nothing from lies within the mask
pub within_from_and : (a b : ℕ) → bit_and a b ≡ a → IsWithin a b
within_from_and a b e i l = omega (arith, ap (λ x. bit_at x i) e, bit_at_and a b i)

same_word : (a b : ℕ) → a < 2 ^ 64 → b < 2 ^ 64 → IsWithin a b → IsWithin b a → a ≡ b
same_word a b small low h k = same_from_bits_below 64 a b small low (λ i l. omega (arith, h i l, k i l))

-- ---- lists of words
same_list : (xs ys : List ℕ) → length xs ≡ length ys → ((k : ℕ) → k < length xs → slice_index xs k ≡ slice_index ys k) → xs ≡ ys
same_list [] [] long same = refl
same_list [] (y ∷ ys) long same = absurd (omega arith)
same_list (x ∷ xs) [] long same = absurd (omega arith)
same_list (x ∷ xs) (y ∷ ys) long same =
    let head : x ≡ y = same zero (omega arith) in
    rw (head, same_list xs ys (omega arith) (λ k l. same (suc k) (omega arith))) refl

pub same_words : (a b : List ℕ) → length a ≡ length b → All (λ w. w < 2 ^ 64) a → All (λ w. w < 2 ^ 64) b → AreWithin a b → AreWithin b a → a ≡ b
same_words a b long small low h k = same_list a b long (λ p l.
    same_word (slice_index a p) (slice_index b p) (All-get_or (λ w. w < 2 ^ 64) a p 0 l small) (All-get_or (λ w. w < 2 ^ 64) b p 0 (omega arith) low) (h p)
    (k p))

-- ---- the greatest list
module _ (s : System) where
  -- there is one greatest list at most
  pub greatest_unique : (a b : List ℕ) → IsGreatest s a → IsGreatest s b → a ≡ b
  greatest_unique a b x y = same_words a b (x.is_one.long ∙ sym y.is_one.long) x.is_one.fits y.is_one.fits (y.contains a x.is_one) (x.contains b y.is_one)

  -- the masks contain every self-supporting list
  pub masks_above : IsAbove s s.masks
  masks_above others is = is.within

  -- a list that supports itself and contains every other one is the greatest
  pub greatest_from_above : (words : List ℕ) → IsSelfSupporting s words → IsAbove s words → IsGreatest s words
  greatest_from_above words is above = record { is_one = is; contains = above }

  module _ (is_system : IsSystem s) where
    -- a cut stays above every self-supporting list
    pub cut_above : (old new : List ℕ) → length old ≡ length s.masks → IsCut s old new → IsAbove s old → IsAbove s new
    cut_above old new long cut above others is q = elim (cases_eq q cut.place) [
      | inl here ↦ rw (cut.written, here, get_or-set_same old cut.place cut.word 0 (omega (arith, cut.is_position)))
          (within_trans (slice_index others cut.place) (bit_and (slice_index old cut.place) (value_in s cut.place old)) cut.word
          (within_and (slice_index others cut.place) (slice_index old cut.place) (value_in s cut.place old) (above others is cut.place)
          (within_trans (slice_index others cut.place) (value_in s cut.place others) (value_in s cut.place old) (is.supported cut.place cut.is_position)
          (value_in-within s is_system cut.place others old (above others is))))
          cut.keeps)
      | inr other ↦ rw (cut.written, get_or-set_other old cut.place q cut.word 0 other) (above others is q)
    ]

    -- a run of cuts from the masks stays above every self-supporting list, and within the masks
    pub reached_long : (words : List ℕ) → IsReached s words → length words ≡ length s.masks
    reached_long _ from_masks = refl
    reached_long words (then_cut {old = old} {new = new} run cut) = ap length cut.written ∙ length-set old cut.place cut.word ∙ reached_long old run

    pub reached_above : (words : List ℕ) → IsReached s words → IsAbove s words
    reached_above _ from_masks = masks_above
    reached_above words (then_cut {old = old} {new = new} run cut) = cut_above old new (reached_long old run) cut (reached_above old run)

    pub reached_within : (words : List ℕ) → IsReached s words → AreWithin words s.masks
    reached_within _ from_masks p = within_refl (slice_index s.masks p)
    reached_within words (then_cut {old = old} {new = new} run cut) p = elim (cases_eq p cut.place) [
      | inl here ↦ rw (cut.written, here, get_or-set_same old cut.place cut.word 0 (omega (arith, cut.is_position, reached_long old run)))
          (within_trans cut.word (slice_index old cut.place) (slice_index s.masks cut.place) cut.less (reached_within old run cut.place))
      | inr other ↦ rw (cut.written, get_or-set_other old cut.place p cut.word 0 other) (reached_within old run p)
    ]

    -- a run of cuts that came to an end is at the greatest list
    pub reached_greatest : (words : List ℕ) → IsReached s words → All (λ w. w < 2 ^ 64) words → Supports s words → IsGreatest s words
    reached_greatest words run small supported =
        greatest_from_above words (record {
          long = reached_long words run;
          fits = small;
          within = reached_within words run;
          supported =
              supported;
        }) (reached_above words run)
