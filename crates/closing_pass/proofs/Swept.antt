-- A sweep so far: what the words are after the first positions were cut.
use Rattle.std.proofs.Common.{◌≡◌, ◌≢◌, ℕ, zero, suc, [], ◌∷◌, set, ◌+◌, ◌^◌, ◌<◌, ◌≤◌, ◌==◌, Bool, true, false, not, bit_and, List, length, length-set, sum}
use Rattle.std.proofs.Common.{All, slice_index, refl, sym, ap, subst, ◌∙◌, arith, inl, inr, get_or-set_same, get_or-set_other}
use Rattle.std.proofs.lemmas.Bool.{cases_eq, cases_lt}
use Rattle.std.proofs.lemmas.Bool.Decides.{nat_tests}
use Rattle.lattice_words.proofs.WordBits.{within_refl, within_trans}
use Rattle.lattice_words.specs.Words.{IsWithin}
use Rattle.rule_terms.specs.System.{System, IsSystem, value_in}
use Rattle.rule_terms.specs.Greatest.{AreWithin, IsAbove, IsCut, IsGreatest, Supports}
use Rattle.rule_terms.proofs.Greatest.{cut_above, greatest_from_above}

abbrev pub AreSmall : List ℕ → Type 0
AreSmall words = All (λ word. word < 2 ^ 64) words

-- the words of a list stay words of 64 bits where one is written
pub set_small : (words : List ℕ) (p n q : ℕ) → n < 2 ^ 64 → (q ≢ p → slice_index words q < 2 ^ 64) → slice_index (set words p n) q < 2 ^ 64
set_small [] p n q fits h = omega arith
set_small (x ∷ xs) zero n zero fits h = fits
set_small (x ∷ xs) zero n (suc q) fits h = h (λ e. absurd (omega arith))
set_small (x ∷ xs) (suc p) n zero fits h = h (λ e. absurd (omega arith))
set_small (x ∷ xs) (suc p) n (suc q) fits h = set_small xs p n q fits (λ ne. h (λ e. ne (omega arith)))

pub less_refl : (words : List ℕ) → AreWithin words words
less_refl words p = within_refl (slice_index words p)

pub less_trans : (a b c : List ℕ) → AreWithin a b → AreWithin b c → AreWithin a c
less_trans a b c h k p = within_trans (slice_index a p) (slice_index b p) (slice_index c p) (h p) (k p)

-- a cut leaves less
pub cut_less : (s : System) (old new : List ℕ) → length old ≡ length s.masks → IsCut s old new → AreWithin new old
cut_less s old new long cut q = elim (cases_eq q cut.place) [
  | inl here ↦ rw (cut.written, here, get_or-set_same old cut.place cut.word 0 (omega (arith, cut.is_position))) cut.less
  | inr other ↦ rw (cut.written, get_or-set_other old cut.place q cut.word 0 other) (within_refl (slice_index old q))
]

pub record Swept (s : System) (old words : List ℕ) (fell : Bool) (p : ℕ) : Type 0 where
  pub system : IsSystem s
  pub long : length words ≡ length s.masks
  pub above : IsAbove s old → IsAbove s words
  pub less : AreWithin words old
  pub fits : (q : ℕ) → q < p → slice_index words q < 2 ^ 64
  pub smaller : fell ≡ true → sum words < sum old
  pub same : fell ≡ false → words ≡ old
  pub kept : fell ≡ false → (q : ℕ) → q < p → IsWithin (slice_index words q) (value_in s q words)

no_larger : (s : System) (old words : List ℕ) (fell : Bool) (p : ℕ) → Swept s old words fell p → sum words ≤ sum old
no_larger s old words true p w = omega (arith, w.smaller refl)
no_larger s old words false p w = omega (arith, ap sum (w.same refl))

-- a word lost something
pub swept_cut : (s : System) (old words new : List ℕ) (fell : Bool) (p : ℕ) → Swept s old words fell p → IsCut s words new →
    slice_index new p < 2 ^ 64 → ((q : ℕ) → slice_index words q < 2 ^ 64 → slice_index new q < 2 ^ 64) → sum new < sum words → Swept s old new true (p + 1)
swept_cut s old words new fell p w cut here others fewer = record {
  system = w.system;
  long = ap length cut.written ∙ length-set words cut.place cut.word ∙ w.long;
  above = λ above. cut_above s w.system words new w.long cut (w.above above);
  less = less_trans new words old (cut_less s words new w.long cut) w.less;
  fits = λ q l. elim (cases_lt q p) [
    | inl before ↦ others q (w.fits q before)
    | inr past ↦ let last : q ≡ p = omega arith in subst (λ i. slice_index new i < 2 ^ 64) (sym last) here
  ];
  smaller = λ _. omega (arith, fewer, no_larger s old words fell p w);
  same = λ e. absurd (cc);
  kept = λ e. absurd (cc);
}

-- the word of position p lost nothing
pub swept_kept : (s : System) (old words new : List ℕ) (fell : Bool) (p : ℕ) → Swept s old words fell p → new ≡ words → slice_index new p < 2 ^ 64 →
    IsWithin (slice_index words p) (value_in s p words) → Swept s old new fell (p + 1)
swept_kept s old words new fell p w e small here = subst (λ (xs : List ℕ). Swept s old xs fell (p + 1)) (sym e) (record {
  system = w.system;
  long = w.long;
  above = w.above;
  less = w.less;
  fits = λ q l. elim (cases_lt q p) [
    | inl before ↦ w.fits q before
    | inr past ↦ let last : q ≡ p = omega arith in
        subst (λ i. slice_index words i < 2 ^ 64) (sym last) (subst (λ (xs : List ℕ). slice_index xs p < 2 ^ 64) e small)
  ];
  smaller = w.smaller;
  same = w.same;
  kept = λ f q l. elim (cases_lt q p) [
    | inl before ↦ w.kept f q before
    | inr past ↦ let last : q ≡ p = omega arith in subst (λ i. IsWithin (slice_index words i) (value_in s i words)) (sym last) here
  ];
})

pub lost_nothing : (a e : ℕ) → not (bit_and a e == a) ≡ false → bit_and a e ≡ a
lost_nothing a e h = grind (arith, nat_tests)

-- words that no sweep changes, within the masks and above every self-supporting list, are the greatest list
pub settled : (s : System) (old words : List ℕ) → AreWithin old s.masks → IsAbove s old →
    length words ≡ length s.masks → (IsAbove s old → IsAbove s words) → AreWithin words old → AreSmall words → Supports s words → IsGreatest s words
settled s old words within above long keeps less small supports =
    greatest_from_above s words (record { long = long; fits = small; within = less_trans words old s.masks less within; supported = supports }) (keeps above)
