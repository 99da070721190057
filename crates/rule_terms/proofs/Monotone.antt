-- More facts of the inputs leave more facts of a position.
use Rattle.std.proofs.Common.{◌≡◌, ℕ, ◌<◌, Bool, true, false, cond, eqb, eq-eqb, eqb-true, ◌&&◌, nat_lt, List, [], ◌∷◌, length, slice_index, All, bit_and}
use Rattle.std.proofs.Common.{bit_or, refl, ap, sym, ◌∙◌, subst, arith, inl, inr}
use Rattle.std.specs.Int.{bit_at}
use Rattle.std.proofs.lemmas.Bool.{and_parts, ltb-true, cases_lt}
use Rattle.std.proofs.lemmas.List.Elements.{All-head, All-tail, All-get_or, All-nil}
use Rattle.std.proofs.lemmas.List.{get_or_past}
use Rattle.std.proofs.lemmas.Nat.Bits.{bit_at_and, bit_at_or, bit_at_ones, bit_at-lt, bit_at-zero}
use Rattle.lattice_words.specs.Words.{IsWithin}
use Rattle.lattice_words.proofs.Monotone.{shift_of-within, keep_align_of-within}
use Rattle.rule_terms.specs.declared.term.NewTerm.{NewTerm}
use Rattle.rule_terms.specs.declared.term.NewTerm.TheOpen.{NewTerm-F}
use Rattle.rule_terms.specs.declared.term.NewTerm.TheOpen.NewTerm-F.{Const, Word, And, Or, Unless, Shift, KeepAlign, Spread}
use Rattle.rule_terms.specs.declared.term.NewTerm.TheViews.{roll-NewTerm}
use Rattle.rule_terms.specs.declared.term.NewTerm.TheFolds.{fold-roll-NewTerm, ind-NewTerm, map-NewTerm}
use Rattle.rule_terms.specs.Meaning.{all_ones, layer_meaning, meaning, meet_of}
use Rattle.rule_terms.specs.Names.{is_layer_over, is_over}
use Rattle.rule_terms.specs.System.{System, IsSystem, terms_at, value, value_in}
use Rattle.rule_terms.specs.Greatest.{AreWithin}

-- ---- words
pub within_same : (a a' b b' : ℕ) → a ≡ a' → b ≡ b' → IsWithin a' b' → IsWithin a b
within_same a a' b b' e f h i l = omega (arith, h i l, ap (λ x. bit_at x i) e, ap (λ x. bit_at x i) f)

pub and_within : (a b c d : ℕ) → IsWithin a c → IsWithin b d → IsWithin (bit_and a b) (bit_and c d)
and_within a b c d h k i l = omega (arith, h i l, k i l, bit_at_and a b i, bit_at_and c d i)

or_within : (a b c d : ℕ) → IsWithin a c → IsWithin b d → IsWithin (bit_or a b) (bit_or c d)
or_within a b c d h k i l = omega (arith, h i l, k i l, bit_at_or a b i, bit_at_or c d i)

within_ones : (a : ℕ) → IsWithin a all_ones
within_ones a i l = omega (arith, bit_at_ones 64 i l, bit_at-lt a i)

none_within : (a : ℕ) → IsWithin 0 a
none_within a i l = omega (arith, bit_at-zero i)

-- a test of a bit that is set of less is set of more
test_within : (a b bit : ℕ) → bit < 64 → IsWithin a b → eqb (bit_at a bit) 1 ≡ true → eqb (bit_at b bit) 1 ≡ true
test_within a b bit l h is = eq-eqb (bit_at b bit) 1 (omega (arith, h bit l, eqb-true (bit_at a bit) 1 is, bit_at-lt b bit))

unless_within : (s t : Bool) (a b : ℕ) → (s ≡ true → t ≡ true) → IsWithin a b → IsWithin (cond s all_ones a) (cond t all_ones b)
unless_within true true a b h k = within_ones all_ones
unless_within true false a b h k = let e : false ≡ true = h refl in cc
unless_within false true a b h k = within_ones a
unless_within false false a b h k = k

spread_within : (s t : Bool) (to : ℕ) → (s ≡ true → t ≡ true) → IsWithin (cond s to 0) (cond t to 0)
spread_within true true to h = λ i l. omega arith
spread_within true false to h = let e : false ≡ true = h refl in cc
spread_within false t to h = none_within (cond t to 0)

-- ---- terms
module _ (count : ℕ) (words others : ℕ → ℕ) (less : (q : ℕ) → IsWithin (words q) (others q)) where
  abbrev IsMonotoneAt : NewTerm → Type 0
  IsMonotoneAt t = is_over count t ≡ true → IsWithin (meaning words t) (meaning others t)

  -- a term by its layer
  by_layer : (x : NewTerm-F NewTerm) → (is_layer_over count (map-NewTerm NewTerm Bool (is_over count) x) ≡ true →
      IsWithin (layer_meaning words (map-NewTerm NewTerm ℕ (meaning words) x)) (layer_meaning others (map-NewTerm NewTerm ℕ (meaning others) x))) →
      IsMonotoneAt (roll-NewTerm x)
  by_layer x h over =
      within_same (meaning words (roll-NewTerm x)) (layer_meaning words (map-NewTerm NewTerm ℕ (meaning words) x)) (meaning others (roll-NewTerm x))
      (layer_meaning others (map-NewTerm NewTerm ℕ (meaning others) x))
      (fold-roll-NewTerm ℕ (layer_meaning words) x) (fold-roll-NewTerm ℕ (layer_meaning others) x)
      (h (sym (fold-roll-NewTerm Bool (is_layer_over count) x) ∙ over))

  layers : (y : NewTerm-F ((t : NewTerm) × IsMonotoneAt t)) → IsMonotoneAt (roll-NewTerm (map-NewTerm ((t : NewTerm) × IsMonotoneAt t) NewTerm (λ e. e.0) y))
  layers (Const bits) = by_layer (Const bits) (λ over i l. omega arith)
  layers (Word p) = by_layer (Word p) (λ over. less p.0)
  layers (And left right) = by_layer (And left.0 right.0) (λ over. let parts = and_parts (is_over count left.0) (is_over count right.0) over in
      and_within _ _ _ _ (left.1 parts.0) (right.1 parts.1))
  layers (Or left right) = by_layer (Or left.0 right.0) (λ over. let parts = and_parts (is_over count left.0) (is_over count right.0) over in
      or_within _ _ _ _ (left.1 parts.0) (right.1 parts.1))
  layers (Unless input bit then') = by_layer (Unless input bit then'.0) (λ over.
      let outer = and_parts (nat_lt input.0 count && nat_lt bit 64) (is_over count then'.0) over in
      let small = ltb-true bit 64 (and_parts (nat_lt input.0 count) (nat_lt bit 64) outer.0).1 in
      unless_within _ _ _ _ (test_within (words input.0) (others input.0) bit small (less input.0)) (then'.1 outer.1))
  layers (Shift bytes of) = by_layer (Shift bytes of.0) (λ over. shift_of-within bytes (meaning words of.0) (meaning others of.0) (of.1 over))
  layers (KeepAlign step of) = by_layer (KeepAlign step of.0) (λ over. keep_align_of-within step (meaning words of.0) (meaning others of.0) (of.1 over))
  layers (Spread bit to of) = by_layer (Spread bit to of.0) (λ over.
      let parts = and_parts (nat_lt bit 64) (is_over count of.0) over in
      spread_within _ _ to (test_within (meaning words of.0) (meaning others of.0) bit (ltb-true bit 64 parts.0) (of.1 parts.1)))

  -- a term of more facts gives more facts
  pub meaning-within : (t : NewTerm) → IsMonotoneAt t
  meaning-within = ind-NewTerm IsMonotoneAt (λ x y is. subst (λ z. IsMonotoneAt (roll-NewTerm z)) is (layers y))

  pub meet-within : (terms : List NewTerm) → All (λ term. is_over count term ≡ true) terms → (a b : ℕ) → IsWithin a b →
      IsWithin (meet_of words a terms) (meet_of others b terms)
  meet-within [] over a b h = h
  meet-within (term ∷ terms) over a b h =
      meet-within terms (All-tail (λ term. is_over count term ≡ true) term terms over) (bit_and a (meaning words term)) (bit_and b (meaning others term))
      (and_within a (meaning words term) b (meaning others term) h (meaning-within term (All-head (λ term. is_over count term ≡ true) term terms over)))

-- ---- systems
-- the terms of a position are over the positions
pub terms-over : (s : System) → IsSystem s → (p : ℕ) → All (λ term. is_over (length s.masks) term ≡ true) (terms_at s p)
terms-over s is p = elim (cases_lt p (length s.terms)) [
  | inl within ↦ All-get_or (λ terms. All (λ term. is_over (length s.masks) term ≡ true) terms) s.terms p [] within is.over
  | inr past ↦ rw (get_or_past s.terms p [] past) (All-nil (λ term. is_over (length s.masks) term ≡ true))
]

-- what is left of a position is monotone in the words
pub value-within : (s : System) → IsSystem s → (p : ℕ) (words others : ℕ → ℕ) → ((q : ℕ) → IsWithin (words q) (others q)) →
    IsWithin (value s p words) (value s p others)
value-within s is p words others less =
    meet-within (length s.masks) words others less (terms_at s p) (terms-over s is p) (slice_index s.masks p) (slice_index s.masks p) (λ i l. omega arith)

pub value_in-within : (s : System) → IsSystem s → (p : ℕ) (words others : List ℕ) → AreWithin words others → IsWithin (value_in s p words) (value_in s p others)
value_in-within s is p words others less = value-within s is p (λ q. slice_index words q) (λ q. slice_index others q) less
