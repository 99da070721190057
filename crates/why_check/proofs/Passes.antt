-- The two passes of a check, step by step.
use Rattle.std.proofs.Common.{◌≡◌, ℕ, ◌+◌, ◌<◌, ◌≤◌, List, [], ◌∷◌, ◌++◌, length, length-set, take, bit_xor, slice_index, slice_index_or, ap, sym}
use Rattle.std.proofs.Common.{subst, ◌∙◌, arith, inl, inr}
use Rattle.std.proofs.lemmas.Bool.{cases_lt}
use Rattle.std.proofs.lemmas.List.{take_more, get_or_default}
use Rattle.rule_terms.specs.System.{System, IsSystem}
use Rattle.why_check.specs.declared.entry.Entry.{Entry}
use Rattle.why_check.specs.declared.entry.Verdict.{Verdict}
use Rattle.why_check.specs.declared.entry.Verdict.TheVariants.{Yes, No, Short}
use Rattle.why_check.specs.Removal.{IsRemovable, IsRemovableAt, IsRemoval, after_entry, words_left}
use Rattle.why_check.specs.Judged.{IsFirstBreach, IsLeastShort, IsVerdict, Shows}
use Rattle.why_check.proofs.Removed.{left_first, left_more, left_all, none_supported, complete_greatest}

-- one mask more
pub mask_more : (masks words : List ℕ) (p m : ℕ) → p < length masks → words ≡ take p masks → m ≡ slice_index masks p → words ++ m ∷ [] ≡ take (p + 1) masks
mask_more masks words p m l so_far here = ap (λ (xs : List ℕ). xs ++ m ∷ []) so_far ∙ ap (λ (x : ℕ). take p masks ++ x ∷ []) here ∙ sym (take_more masks p 0 l)

-- the first k entries were removed
pub record IsTakenTo (s : System) (entries : List Entry) (words : List ℕ) (k : ℕ) : Type 0 where
  pub long : length words ≡ length s.masks
  pub left : words ≡ words_left s (take k entries)
  pub may : (j : ℕ) → j < k → IsRemovableAt s entries j

module _ (s : System) (entries : List Entry) where
  pub taken_none : (words : List ℕ) → words ≡ s.masks → IsTakenTo s entries words 0
  taken_none words e = record { long = ap length e; left = e ∙ sym (left_first s entries); may = λ j l. absurd (omega arith) }

  -- what may be removed over the words may be removed in its turn
  may_here : (words : List ℕ) (k : ℕ) (entry : Entry) → k < length entries → entry ≡ slice_index_or entries k entry →
      words ≡ words_left s (take k entries) → IsRemovable s words entry → IsRemovableAt s entries k
  may_here words k entry l is e r d =
      let here : entry ≡ slice_index_or entries k d = is ∙ get_or_default entries k entry d l in
      subst (λ (x : Entry). IsRemovable s (words_left s (take k entries)) x) here (subst (λ (xs : List ℕ). IsRemovable s xs entry) e r)

  taken_more : (words new : List ℕ) (k : ℕ) (entry : Entry) → k < length entries → entry ≡ slice_index_or entries k entry →
      IsTakenTo s entries words k → IsRemovable s words entry → new ≡ after_entry words entry → IsTakenTo s entries new (k + 1)
  taken_more words new k entry l is so_far r e = record {
    long = ap length e ∙ length-set words entry.p.0 (bit_xor (slice_index words entry.p.0) entry.bits) ∙ so_far.long;
    left = e ∙ ap (λ (xs : List ℕ). after_entry xs entry) so_far.left ∙ ap (λ (x : Entry). after_entry (words_left s (take k entries)) x) is
        ∙ sym (left_more s entries k entry l);
    may = λ j b. elim (cases_lt j k) [
      | inl before ↦ so_far.may j before
      | inr past ↦ let last : k ≡ j = omega arith in subst (IsRemovableAt s entries) last (may_here words k entry l is so_far.left r)
    ];
  }

  pub taken_at : (words new : List ℕ) (k : ℕ) (d : Entry) → k < length entries → IsTakenTo s entries words k →
      IsRemovable s words (slice_index_or entries k d) → new ≡ after_entry words (slice_index_or entries k d) → IsTakenTo s entries new (k + 1)
  taken_at words new k d l =
      taken_more words new k (slice_index_or entries k d) l (get_or_default entries k d (slice_index_or entries k d) l)

  pub breach_found : (words : List ℕ) (k : ℕ) (entry : Entry) → k < length entries → entry ≡ slice_index_or entries k entry →
      IsTakenTo s entries words k → ¬ (IsRemovable s words entry) → IsFirstBreach s entries k
  breach_found words k entry l is so_far not_so = record {
    entry = l;
    before = so_far.may;
    breach = λ may. not_so (subst (λ (xs : List ℕ). IsRemovable s xs entry) (sym so_far.left)
        (subst (λ (x : Entry). IsRemovable s (words_left s (take k entries)) x) (sym is) (may entry)));
  }

  pub no_breach : (words : List ℕ) (k : ℕ) → length entries ≤ k → IsTakenTo s entries words k → IsRemoval s entries × (words ≡ words_left s entries)
  no_breach words k l all = (λ j b. all.may j (omega arith), all.left ∙ left_all s entries k l)

  -- a first entry is the only one
  first_breach_one : (a b : ℕ) → IsFirstBreach s entries a → IsFirstBreach s entries b → b ≤ a
  first_breach_one a b x y = elim (cases_lt a b) [ inl l ↦ absurd (x.breach (y.before a l)) | inr l ↦ l ]

  least_short_one : (words : List ℕ) (p q : ℕ) → IsLeastShort s words p → IsLeastShort s words q → q ≤ p
  least_short_one words p q x y = elim (cases_lt p q) [ inl l ↦ absurd (x.short (y.before p l)) | inr l ↦ l ]

  pub verdict_one : (a b : Verdict) → IsVerdict s entries a → IsVerdict s entries b → a ≡ b
  verdict_one (Yes v) (Yes w) x y = ap Yes (x.2 ∙ sym y.2)
  verdict_one (Yes v) (No at) x y = absurd (y.breach (x.0 at y.entry))
  verdict_one (Yes v) (Short p) x y = absurd (y.1.short (x.1 p.0 y.1.position))
  verdict_one (No at) (Yes w) x y = absurd (x.breach (y.0 at x.entry))
  verdict_one (No at) (No other) x y =
      let e : at ≡ other = omega (arith, first_breach_one at other x y, first_breach_one other at y x) in ap No e
  verdict_one (No at) (Short p) x y = absurd (x.breach (y.0 at x.entry))
  verdict_one (Short p) (Yes w) x y = absurd (x.1.short (y.1 p.0 x.1.position))
  verdict_one (Short p) (No at) x y = absurd (y.breach (x.0 at y.entry))
  verdict_one (Short p) (Short q) x y =
      let e : p.0 ≡ q.0 = omega (arith, least_short_one (words_left s entries) p.0 q.0 x.1 y.1, least_short_one (words_left s entries) q.0 p.0 y.1 x.1) in
      ap (λ (n : ℕ). Short (record { 0 = n })) e
