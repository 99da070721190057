-- What holds of the inputs of each position of a system.
use Rattle.std.proofs.Common.{◌≡◌, ℕ, suc, ◌<◌, ◌≤◌, Bool, true, false, eqb, ◌&&◌, List, [], ◌∷◌, ◌++◌, length, nat_lt, All, IsTrue, refl, ap, sym, ◌∙◌, arith}
use Rattle.std.proofs.Common.{subst, inl, inr, eqb-true}
use Rattle.std.specs.Cmp.{IsEquivalence}
use Rattle.std.specs.List.{AllByRecursion, IsDistinct, list_any, flat_map}
use Rattle.std.proofs.lemmas.Bool.{or_cases, and_parts, ltb-true, cases_lt, cond_both}
use Rattle.std.proofs.lemmas.List.{get_or_past}
use Rattle.std.proofs.lemmas.Cmp.{nat_eq_equiv}
use Rattle.std.proofs.lemmas.List.Elements.{All-nil, All-cons, All-head, All-tail, All-append, All-push, All-get_or}
use Rattle.std.proofs.lemmas.Map.Keys.{IsDistinct-push}
use Rattle.std.proofs.lemmas.Map.Steps.{length-le_from_distinct_below}
use Rattle.attr_ids.specs.declared.ids.PosId.{PosId}
use Rattle.rule_terms.specs.Names.{names_of, layer_names, with_name, with_names, has_name, is_over, is_layer_over}
use Rattle.rule_terms.specs.System.{System, terms_at, inputs_of, IsSystem}
use Rattle.rule_terms.specs.declared.term.NewTerm.{NewTerm}
use Rattle.rule_terms.specs.declared.term.NewTerm.TheOpen.{NewTerm-F}
use Rattle.rule_terms.specs.declared.term.NewTerm.TheOpen.NewTerm-F.{Const, Word, And, Or, Unless, Shift, KeepAlign, Spread}
use Rattle.rule_terms.specs.declared.term.NewTerm.TheViews.{roll-NewTerm}
use Rattle.rule_terms.specs.declared.term.NewTerm.TheFolds.{fold-roll-NewTerm, ind-NewTerm, map-NewTerm}

-- two positions are one
abbrev pub same : PosId → PosId → Bool
same a b = eqb a.0 b.0

same_equivalence : IsEquivalence same
same_equivalence = record { refl = λ x. nat_eq_equiv.refl x.0; symm = λ x y. nat_eq_equiv.symm x.0 y.0; congr = λ x y z. nat_eq_equiv.congr x.0 y.0 z.0 }

-- ---- a list of names in which each stands once
with_name-distinct : (names : List PosId) (p : PosId) → IsDistinct same names → IsDistinct same (with_name names p)
with_name-distinct names p distinct =
    cond_both (has_name names p) names (names ++ p ∷ []) (IsDistinct same) (λ _. distinct) (λ new. IsDistinct-push same_equivalence names p distinct new)

with_names-distinct : (names more : List PosId) → IsDistinct same names → IsDistinct same (with_names names more)
with_names-distinct names [] distinct = distinct
with_names-distinct names (p ∷ ps) distinct = with_names-distinct (with_name names p) ps (with_name-distinct names p distinct)

abbrev Within : ℕ → List PosId → Type 0
Within n ps = All (λ (q : PosId). q.0 < n) ps

with_names-within : (n : ℕ) (names more : List PosId) → Within n names → Within n more → Within n (with_names names more)
with_names-within n names [] old new = old
with_names-within n names (p ∷ ps) old new =
    with_names-within n (with_name names p) ps
    (cond_both (has_name names p) names (names ++ p ∷ []) (Within n) (λ _. old)
    (λ _. All-push (λ (q : PosId). q.0 < n) names p old (All-head (λ (q : PosId). q.0 < n) p ps new)))
    (All-tail (λ (q : PosId). q.0 < n) p ps new)

one_within : (n : ℕ) (p : PosId) → p.0 < n → Within n (p ∷ [])
one_within n p l = All-cons (λ (q : PosId). q.0 < n) p [] l (All-nil (λ (q : PosId). q.0 < n))

both_within : (n : ℕ) (ps qs : List PosId) → Within n ps → Within n qs → Within n (ps ++ qs)
both_within n = All-append (λ (q : PosId). q.0 < n)

-- ---- a term over so many positions names no other
module _ (n : ℕ) where
  abbrev NamesWithin : NewTerm → Type 0
  NamesWithin t = is_over n t ≡ true → Within n (names_of t)

  -- a term by its layer
  by_layer : (x : NewTerm-F NewTerm) → (is_layer_over n (map-NewTerm NewTerm Bool (is_over n) x) ≡ true →
      Within n (layer_names (map-NewTerm NewTerm (List PosId) names_of x))) → NamesWithin (roll-NewTerm x)
  by_layer x h over =
      subst (Within n) (sym (fold-roll-NewTerm (List PosId) layer_names x)) (h (sym (fold-roll-NewTerm Bool (is_layer_over n) x) ∙ over))

  layers : (y : NewTerm-F ((t : NewTerm) × NamesWithin t)) → NamesWithin (roll-NewTerm (map-NewTerm ((t : NewTerm) × NamesWithin t) NewTerm (λ e. e.0) y))
  layers (Const bits) = by_layer (Const bits) (λ over. All-nil (λ (q : PosId). q.0 < n))
  layers (Word p) = by_layer (Word p) (λ over. one_within n p (ltb-true p.0 n over))
  layers (And left right) = by_layer (And left.0 right.0) (λ over. let parts = and_parts (is_over n left.0) (is_over n right.0) over in
      both_within n (names_of left.0) (names_of right.0) (left.1 parts.0) (right.1 parts.1))
  layers (Or left right) = by_layer (Or left.0 right.0) (λ over. let parts = and_parts (is_over n left.0) (is_over n right.0) over in
      both_within n (names_of left.0) (names_of right.0) (left.1 parts.0) (right.1 parts.1))
  layers (Unless input bit then') = by_layer (Unless input bit then'.0) (λ over.
      let outer = and_parts (nat_lt input.0 n && nat_lt bit 64) (is_over n then'.0) over in
      let inside = ltb-true input.0 n (and_parts (nat_lt input.0 n) (nat_lt bit 64) outer.0).0 in
      both_within n (input ∷ []) (names_of then'.0) (one_within n input inside) (then'.1 outer.1))
  layers (Shift bytes of) = by_layer (Shift bytes of.0) (λ over. of.1 over)
  layers (KeepAlign step of) = by_layer (KeepAlign step of.0) (λ over. of.1 over)
  layers (Spread bit to of) = by_layer (Spread bit to of.0) (λ over. of.1 (and_parts (nat_lt bit 64) (is_over n of.0) over).1)

  names_of-within : (t : NewTerm) → NamesWithin t
  names_of-within = ind-NewTerm NamesWithin (λ x y is. subst (λ z. NamesWithin (roll-NewTerm z)) is (layers y))

  all_names-within : (terms : List NewTerm) → All (λ term. IsTrue (is_over n term)) terms → Within n (flat_map names_of terms)
  all_names-within [] over = All-nil (λ (q : PosId). q.0 < n)
  all_names-within (term ∷ terms) over =
      both_within n (names_of term) (flat_map names_of terms)
      (names_of-within term (All-head (λ term. IsTrue (is_over n term)) term terms over))
      (all_names-within terms (All-tail (λ term. IsTrue (is_over n term)) term terms over))

-- the terms of a position; a position past the end has none
terms_over : (s : System) → IsSystem s → (p : ℕ) → All (λ term. IsTrue (is_over (length s.masks) term)) (terms_at s p)
terms_over s is p = elim (cases_lt p (length s.terms)) [
  | inl on ↦ All-get_or (λ terms. All (λ term. IsTrue (is_over (length s.masks) term)) terms) s.terms p [] on is.over
  | inr past ↦ subst (λ terms. All (λ term. IsTrue (is_over (length s.masks) term)) terms) (sym (get_or_past s.terms p [] past))
      (All-nil (λ term. IsTrue (is_over (length s.masks) term)))
]

-- each input is a position of the system
pub inputs_within : (s : System) → IsSystem s → (p : ℕ) → All (λ q. q.0 < length s.masks) (inputs_of s p)
inputs_within s is p =
    let n = length s.masks in
    with_names-within n [] (flat_map names_of (terms_at s p)) (All-nil (λ (q : PosId). q.0 < n)) (all_names-within n (terms_at s p) (terms_over s is p))

no_names : IsDistinct same []
unfolding IsDistinct
no_names = tt

-- no position is an input twice
pub inputs_distinct : (s : System) (p : ℕ) → IsDistinct same (inputs_of s p)
inputs_distinct s p = with_names-distinct [] (flat_map names_of (terms_at s p)) no_names

numbers : List PosId → List ℕ
numbers [] = []
numbers (p ∷ ps) = p.0 ∷ numbers ps

length-numbers : (ps : List PosId) → length (numbers ps) ≡ length ps
unfolding numbers
length-numbers [] = refl
length-numbers (p ∷ ps) = ap suc (length-numbers ps)

all_numbers : (P : ℕ → Type 0) (ps : List PosId) → AllByRecursion (λ p. P p.0) ps → AllByRecursion P (numbers ps)
unfolding numbers
all_numbers P [] h = h
all_numbers P (p ∷ ps) h = (h.0, all_numbers P ps h.1)

distinct_numbers : (ps : List PosId) → IsDistinct same ps → IsDistinct eqb (numbers ps)
unfolding numbers IsDistinct
distinct_numbers [] h = h
distinct_numbers (p ∷ ps) h = (all_numbers (λ n. eqb p.0 n ≡ false) ps h.0, distinct_numbers ps h.1)

numbers_within : (n : ℕ) (ps : List PosId) → Within n ps → (q : ℕ) → list_any (eqb q) (numbers ps) ≡ true → q < n
unfolding numbers
numbers_within n [] h q e = let no : false ≡ true = e in cc
numbers_within n (p ∷ ps) h q e = elim (or_cases (eqb q p.0) (list_any (eqb q) (numbers ps)) e) [
  | inl here ↦ omega (arith, eqb-true q p.0 here, All-head (λ (x : PosId). x.0 < n) p ps h)
  | inr later ↦ numbers_within n ps (All-tail (λ (x : PosId). x.0 < n) p ps h) q later
]

-- a position has no more inputs than there are positions
pub inputs_few : (s : System) → IsSystem s → (p : ℕ) → length (inputs_of s p) ≤ length s.masks
inputs_few s is p =
    let ps = inputs_of s p in
    let few : length (numbers ps) ≤ length s.masks =
    length-le_from_distinct_below (numbers ps) (length s.masks) (distinct_numbers ps (inputs_distinct s p))
    (numbers_within (length s.masks) ps (inputs_within s is p)) in
    omega (arith, few, length-numbers ps)
