-- The inputs of a position: each position that its terms name, once, and a value goes by their words alone.
use Rattle.std.proofs.Common.{◌≡◌, ◌⊎◌, ℕ, Bool, true, false, cond, eqb, eq-eqb, eqb-true, ◌||◌, List, [], ◌∷◌, ◌++◌, map, slice_get, slice_index, Some}
use Rattle.std.proofs.Common.{bit_and, refl, ap, sym, ◌∙◌, subst, inl, inr}
use Rattle.std.specs.List.{flat_map}
use Rattle.std.specs.Int.{bit_at}
use Rattle.std.proofs.lemmas.Bool.{or_cases, or_left, or_right, both_ways}
use Rattle.std.proofs.lemmas.List.Folds.{list_any-append}
use Rattle.lattice_words.specs.Ladders.{shift_of, keep_align_of}
use Rattle.attr_ids.specs.declared.ids.PosId.{PosId}
use Rattle.rule_terms.specs.declared.term.NewTerm.{NewTerm}
use Rattle.rule_terms.specs.declared.term.NewTerm.TheOpen.{NewTerm-F}
use Rattle.rule_terms.specs.declared.term.NewTerm.TheOpen.NewTerm-F.{Const, Word, And, Or, Unless, Shift, KeepAlign, Spread}
use Rattle.rule_terms.specs.declared.term.NewTerm.TheViews.{roll-NewTerm}
use Rattle.rule_terms.specs.declared.term.NewTerm.TheFolds.{fold-roll-NewTerm, ind-NewTerm, map-NewTerm}
use Rattle.rule_terms.specs.Meaning.{all_ones, layer_meaning, meaning, meet_of}
use Rattle.rule_terms.specs.Names.{names_of, layer_names, has_name, with_name, with_names}
use Rattle.std.proofs.lemmas.Option.{none-some}
use Rattle.shelf.proofs.Shelf.{get_push}
use Rattle.rule_terms.specs.System.{System, terms_at, value_in, value_at, inputs_of, looked_word}
use Rattle.rule_terms.proofs.Marked.{has_name-at, same_position}

-- ---- lists of names
-- a name of a list with more is a name of the list or of the more
has_name-append : (xs ys : List PosId) (p : PosId) → has_name (xs ++ ys) p ≡ (has_name xs p || has_name ys p)
has_name-append xs ys p = list_any-append (λ q. eqb p.0 q.0) xs ys

-- a name that was put in is there
with_name-has : (names : List PosId) (p : PosId) → has_name (with_name names p) p ≡ true
with_name-has names p = by_case (has_name names p) refl where
  by_case : (b : Bool) → has_name names p ≡ b → has_name (cond b names (names ++ p ∷ [])) p ≡ true
  by_case true is = is
  by_case false is = has_name-append names (p ∷ []) p ∙ or_right (has_name names p) (has_name (p ∷ []) p) (or_left (eqb p.0 p.0) false (eq-eqb p.0 p.0 refl))

with_name-keeps : (names : List PosId) (p q : PosId) → has_name names q ≡ true → has_name (with_name names p) q ≡ true
with_name-keeps names p q is = by_case (has_name names p) where
  by_case : (b : Bool) → has_name (cond b names (names ++ p ∷ [])) q ≡ true
  by_case true = is
  by_case false = has_name-append names (p ∷ []) q ∙ or_left (has_name names q) (has_name (p ∷ []) q) is

-- and no other name
with_name-only : (names : List PosId) (p q : PosId) → has_name (with_name names p) q ≡ true → (has_name names q ≡ true) ⊎ (q.0 ≡ p.0)
with_name-only names p q = by_case (has_name names p) where
  by_case : (b : Bool) → has_name (cond b names (names ++ p ∷ [])) q ≡ true → (has_name names q ≡ true) ⊎ (q.0 ≡ p.0)
  by_case true is = inl is
  by_case false is = elim (or_cases (has_name names q) (has_name (p ∷ []) q) (sym (has_name-append names (p ∷ []) q) ∙ is)) [
    | inl there ↦ inl there
    | inr last ↦ elim (or_cases (eqb q.0 p.0) false last) [ inl one ↦ inr (eqb-true q.0 p.0 one) | inr none ↦ cc ]
  ]

pub with_names-keeps : (names more : List PosId) (q : PosId) → has_name names q ≡ true → has_name (with_names names more) q ≡ true
with_names-keeps names [] q is = is
with_names-keeps names (p ∷ ps) q is = with_names-keeps (with_name names p) ps q (with_name-keeps names p q is)

pub with_names-has : (names more : List PosId) (q : PosId) → has_name more q ≡ true → has_name (with_names names more) q ≡ true
with_names-has names [] q is = cc
with_names-has names (p ∷ ps) q is = elim (or_cases (eqb q.0 p.0) (has_name ps q) is) [
  | inl one ↦ with_names-keeps (with_name names p) ps q (subst (λ r. has_name (with_name names p) r ≡ true) (same_position p q (sym (eqb-true q.0 p.0 one)))
      (with_name-has names p))
  | inr later ↦ with_names-has (with_name names p) ps q later
]

pub with_names-only : (names more : List PosId) (q : PosId) → has_name (with_names names more) q ≡ true → (has_name names q ≡ true) ⊎ (has_name more q ≡ true)
with_names-only names [] q is = inl is
with_names-only names (p ∷ ps) q is = elim (with_names-only (with_name names p) ps q is) [
  | inl before ↦ elim (with_name-only names p q before) [
    | inl there ↦ inl there
    | inr one ↦ inr (or_left (eqb q.0 p.0) (has_name ps q) (eq-eqb q.0 p.0 one))
  ]
  | inr later ↦ inr (or_right (eqb q.0 p.0) (has_name ps q) later)
]

-- no name stands twice
abbrev StandOnce : List PosId → Type 0
StandOnce names = (i j : ℕ) (p q : PosId) → slice_get names i ≡ Some p → slice_get names j ≡ Some q → p.0 ≡ q.0 → i ≡ j

with_name-once : (names : List PosId) (p : PosId) → StandOnce names → StandOnce (with_name names p)
with_name-once names p once = by_case (has_name names p) refl where
  fresh : has_name names p ≡ false → (k : ℕ) (q : PosId) → slice_get names k ≡ Some q → q.0 ≡ p.0 → ⊥
  fresh new k q e same = both_ways (has_name names p) new (subst (λ r. has_name names r ≡ true) (same_position q p same) (has_name-at names k q e))

  by_case : (b : Bool) → has_name names p ≡ b → StandOnce (cond b names (names ++ p ∷ []))
  by_case true is = once
  by_case false new = λ i j q r e f same. elim (get_push names p q i e) [
    | inl first ↦ elim (get_push names p r j f) [
      | inl second ↦ once i j q r first second same
      | inr last ↦ absurd (fresh new i q first (same ∙ ap (λ (x : PosId). x.0) (sym last.1)))
    ]
    | inr end ↦ elim (get_push names p r j f) [
      | inl second ↦ absurd (fresh new j r second (sym same ∙ ap (λ (x : PosId). x.0) (sym end.1)))
      | inr last ↦ end.0 ∙ sym last.0
    ]
  ]

pub with_names-once : (names more : List PosId) → StandOnce names → StandOnce (with_names names more)
with_names-once names [] once = once
with_names-once names (p ∷ ps) once = with_names-once (with_name names p) ps (with_name-once names p once)

-- ---- terms
module _ (words others : ℕ → ℕ) where
  abbrev GoesByNames : NewTerm → Type 0
  GoesByNames t = ((p : PosId) → has_name (names_of t) p ≡ true → words p.0 ≡ others p.0) → meaning words t ≡ meaning others t

  names_left : (xs ys : List PosId) → ((p : PosId) → has_name (xs ++ ys) p ≡ true → words p.0 ≡ others p.0) → (p : PosId) → has_name xs p ≡ true →
      words p.0 ≡ others p.0
  names_left xs ys same p is = same p (has_name-append xs ys p ∙ or_left (has_name xs p) (has_name ys p) is)

  names_right : (xs ys : List PosId) → ((p : PosId) → has_name (xs ++ ys) p ≡ true → words p.0 ≡ others p.0) → (p : PosId) → has_name ys p ≡ true →
      words p.0 ≡ others p.0
  names_right xs ys same p is = same p (has_name-append xs ys p ∙ or_right (has_name xs p) (has_name ys p) is)

  by_names : (x : NewTerm-F NewTerm) → (((p : PosId) → has_name (layer_names (map-NewTerm NewTerm (List PosId) names_of x)) p ≡ true → words p.0 ≡ others p.0) →
      layer_meaning words (map-NewTerm NewTerm ℕ (meaning words) x) ≡ layer_meaning others (map-NewTerm NewTerm ℕ (meaning others) x)) →
      GoesByNames (roll-NewTerm x)
  by_names x h same =
      fold-roll-NewTerm ℕ (layer_meaning words) x
      ∙ h (λ p is. same p (ap (λ names. has_name names p) (fold-roll-NewTerm (List PosId) layer_names x) ∙ is))
      ∙ sym (fold-roll-NewTerm ℕ (layer_meaning others) x)

  layers : (y : NewTerm-F ((t : NewTerm) × GoesByNames t)) → GoesByNames (roll-NewTerm (map-NewTerm ((t : NewTerm) × GoesByNames t) NewTerm (λ e. e.0) y))
  layers (Const bits) = by_names (Const bits) (λ same. refl)
  layers (Word p) = by_names (Word p) (λ same. same p (or_left (eqb p.0 p.0) false (eq-eqb p.0 p.0 refl)))
  layers (And left right) = by_names (And left.0 right.0) (λ same.
      rw (left.1 (names_left (names_of left.0) (names_of right.0) same), right.1 (names_right (names_of left.0) (names_of right.0) same)) refl)
  layers (Or left right) = by_names (Or left.0 right.0) (λ same.
      rw (left.1 (names_left (names_of left.0) (names_of right.0) same), right.1 (names_right (names_of left.0) (names_of right.0) same)) refl)
  layers (Unless input bit then') = by_names (Unless input bit then'.0) (λ same.
      let one : words input.0 ≡ others input.0 = same input (or_left (eqb input.0 input.0) (has_name (names_of then'.0) input) (eq-eqb input.0 input.0 refl)) in
      ap (λ w. cond (eqb (bit_at w bit) 1) all_ones (meaning words then'.0)) one
      ∙ ap (cond (eqb (bit_at (others input.0) bit) 1) all_ones) (then'.1 (λ p is. same p (or_right (eqb p.0 input.0) (has_name (names_of then'.0) p) is))))
  layers (Shift bytes of) = by_names (Shift bytes of.0) (λ same. ap (shift_of bytes) (of.1 same))
  layers (KeepAlign step of) = by_names (KeepAlign step of.0) (λ same. ap (keep_align_of step) (of.1 same))
  layers (Spread bit to of) = by_names (Spread bit to of.0) (λ same. ap (λ w. cond (eqb (bit_at w bit) 1) to 0) (of.1 same))

  -- a term means the same where the positions that it names have the same words
  pub meaning-by_names : (t : NewTerm) → GoesByNames t
  meaning-by_names = ind-NewTerm GoesByNames (λ x y is. subst (λ z. GoesByNames (roll-NewTerm z)) is (layers y))

  pub meet-by_names : (terms : List NewTerm) (start : ℕ) → ((p : PosId) → has_name (flat_map names_of terms) p ≡ true → words p.0 ≡ others p.0) →
      meet_of words start terms ≡ meet_of others start terms
  meet-by_names [] start same = refl
  meet-by_names (term ∷ terms) start same =
      ap (λ m. meet_of words (bit_and start m) terms) (meaning-by_names term (names_left (names_of term) (flat_map names_of terms) same))
      ∙ meet-by_names terms (bit_and start (meaning others term)) (names_right (names_of term) (flat_map names_of terms) same)

-- ---- systems
-- the inputs of a position are the positions that its terms name
pub inputs-has : (s : System) (p : ℕ) (q : PosId) → has_name (flat_map names_of (terms_at s p)) q ≡ true → has_name (inputs_of s p) q ≡ true
inputs-has s p q is = with_names-has [] (flat_map names_of (terms_at s p)) q is

pub inputs-only : (s : System) (p : ℕ) (q : PosId) → has_name (inputs_of s p) q ≡ true → has_name (flat_map names_of (terms_at s p)) q ≡ true
inputs-only s p q is = elim (with_names-only [] (flat_map names_of (terms_at s p)) q is) [ inl none ↦ cc | inr named ↦ named ]

-- each once
pub inputs-once : (s : System) (p : ℕ) → StandOnce (inputs_of s p)
inputs-once s p = with_names-once [] (flat_map names_of (terms_at s p)) (λ i j q r e. absurd (none-some q e))

-- the words of the inputs, found again by their positions
looked_again : (inputs : List PosId) (words : List ℕ) (p : PosId) → has_name inputs p ≡ true →
    slice_index words p.0 ≡ looked_word inputs (map (λ (q : PosId). slice_index words q.0) inputs) p.0
looked_again [] words p is = cc
looked_again (q ∷ qs) words p is = by_case (eqb q.0 p.0) refl (λ later. looked_again qs words p later) where
  by_case : (b : Bool) → eqb q.0 p.0 ≡ b → (has_name qs p ≡ true → slice_index words p.0 ≡ looked_word qs (map (λ (r : PosId). slice_index words r.0) qs) p.0) →
      slice_index words p.0 ≡ cond b (slice_index words q.0) (looked_word qs (map (λ (r : PosId). slice_index words r.0) qs) p.0)
  by_case true e rest = ap (slice_index words) (sym (eqb-true q.0 p.0 e))
  by_case false e rest = elim (or_cases (eqb p.0 q.0) (has_name qs p) is) [
    | inl one ↦ absurd (both_ways (eqb q.0 p.0) e (eq-eqb q.0 p.0 (sym (eqb-true p.0 q.0 one))))
    | inr later ↦ rest later
  ]

-- what is left over the words of all positions is what is left over the words of the inputs
pub value_in-value_at : (s : System) (p : ℕ) (words : List ℕ) → value_in s p words ≡ value_at s p (map (λ (q : PosId). slice_index words q.0) (inputs_of s p))
value_in-value_at s p words =
    meet-by_names (λ q. slice_index words q) (looked_word (inputs_of s p) (map (λ (q : PosId). slice_index words q.0) (inputs_of s p))) (terms_at s p)
    (slice_index s.masks p)
    (λ q is. looked_again (inputs_of s p) words q (inputs-has s p q is))
