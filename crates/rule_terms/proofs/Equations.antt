-- The equations of a term's meaning, names and conditions, for those who make terms.
use Rattle.std.proofs.Common.{◌≡◌, ℕ, ◌<◌, Bool, true, cond, eqb, ◌&&◌, nat_lt, bit_and, bit_or, ◌∙◌}
use Rattle.std.specs.Int.{bit_at}
use Rattle.std.proofs.lemmas.Bool.{and_from, lt-ltb}
use Rattle.lattice_words.specs.Ladders.{shift_of, keep_align_of}
use Rattle.attr_ids.specs.declared.ids.PosId.{PosId}
use Rattle.rule_terms.specs.declared.term.NewTerm.{NewTerm}
use Rattle.rule_terms.specs.declared.term.NewTerm.TheOpen.NewTerm-F.{Const, Word, And, Or, Unless, Shift, KeepAlign, Spread}
use Rattle.rule_terms.specs.declared.term.NewTerm.TheViews.{roll-NewTerm, the_lemmas}
use Rattle.rule_terms.specs.declared.term.NewTerm.TheFolds.{fold-roll-NewTerm, fold_out-NewTerm, map-NewTerm}
use Rattle.rule_terms.specs.Meaning.{layer_meaning, meaning, all_ones}
use Rattle.rule_terms.specs.Names.{is_over, is_layer_over}

-- name it in `using(..)` on a function that makes or takes apart a term
pub ruleset equations = (the_lemmas, fold-roll-NewTerm, fold_out-NewTerm)

-- ---- what a term means, by its variant
module _ (words : ℕ → ℕ) where
  pub meaning-const : (bits : ℕ) → meaning words (roll-NewTerm (Const bits)) ≡ bits
  meaning-const bits = fold-roll-NewTerm ℕ (layer_meaning words) (Const bits)

  pub meaning-word : (p : PosId) → meaning words (roll-NewTerm (Word p)) ≡ words p.0
  meaning-word p = fold-roll-NewTerm ℕ (layer_meaning words) (Word p)

  pub meaning-and : (left right : NewTerm) → meaning words (roll-NewTerm (And left right)) ≡ bit_and (meaning words left) (meaning words right)
  meaning-and left right = fold-roll-NewTerm ℕ (layer_meaning words) (And left right)

  pub meaning-or : (left right : NewTerm) → meaning words (roll-NewTerm (Or left right)) ≡ bit_or (meaning words left) (meaning words right)
  meaning-or left right = fold-roll-NewTerm ℕ (layer_meaning words) (Or left right)

  pub meaning-unless : (input : PosId) (bit : ℕ) (then' : NewTerm) →
      meaning words (roll-NewTerm (Unless input bit then')) ≡ cond (eqb (bit_at (words input.0) bit) 1) all_ones (meaning words then')
  meaning-unless input bit then' = fold-roll-NewTerm ℕ (layer_meaning words) (Unless input bit then')

  pub meaning-shift : (bytes : ℕ) (of : NewTerm) → meaning words (roll-NewTerm (Shift bytes of)) ≡ shift_of bytes (meaning words of)
  meaning-shift bytes of = fold-roll-NewTerm ℕ (layer_meaning words) (Shift bytes of)

  pub meaning-keep_align : (step : ℕ) (of : NewTerm) → meaning words (roll-NewTerm (KeepAlign step of)) ≡ keep_align_of step (meaning words of)
  meaning-keep_align step of = fold-roll-NewTerm ℕ (layer_meaning words) (KeepAlign step of)

  pub meaning-spread : (bit to : ℕ) (of : NewTerm) → meaning words (roll-NewTerm (Spread bit to of)) ≡ cond (eqb (bit_at (meaning words of) bit) 1) to 0
  meaning-spread bit to of = fold-roll-NewTerm ℕ (layer_meaning words) (Spread bit to of)

-- ---- when a term is over so many positions
module _ (count : ℕ) where
  pub is_over-const : (bits : ℕ) → is_over count (roll-NewTerm (Const bits)) ≡ true
  is_over-const bits = fold-roll-NewTerm Bool (is_layer_over count) (Const bits)

  pub is_over-word : (p : PosId) → p.0 < count → is_over count (roll-NewTerm (Word p)) ≡ true
  is_over-word p l = fold-roll-NewTerm Bool (is_layer_over count) (Word p) ∙ lt-ltb p.0 count l

  pub is_over-and : (left right : NewTerm) → is_over count left ≡ true → is_over count right ≡ true → is_over count (roll-NewTerm (And left right)) ≡ true
  is_over-and left right h k = fold-roll-NewTerm Bool (is_layer_over count) (And left right) ∙ and_from (is_over count left) (is_over count right) h k

  pub is_over-or : (left right : NewTerm) → is_over count left ≡ true → is_over count right ≡ true → is_over count (roll-NewTerm (Or left right)) ≡ true
  is_over-or left right h k = fold-roll-NewTerm Bool (is_layer_over count) (Or left right) ∙ and_from (is_over count left) (is_over count right) h k

  pub is_over-unless : (input : PosId) (bit : ℕ) (then' : NewTerm) → input.0 < count → bit < 64 → is_over count then' ≡ true →
      is_over count (roll-NewTerm (Unless input bit then')) ≡ true
  is_over-unless input bit then' l small h =
      fold-roll-NewTerm Bool (is_layer_over count) (Unless input bit then') ∙
      and_from (nat_lt input.0 count && nat_lt bit 64) (is_over count then') (and_from (nat_lt input.0 count) (nat_lt bit 64) (lt-ltb input.0 count l)
      (lt-ltb bit 64 small)) h

  pub is_over-shift : (bytes : ℕ) (of : NewTerm) → is_over count of ≡ true → is_over count (roll-NewTerm (Shift bytes of)) ≡ true
  is_over-shift bytes of h = fold-roll-NewTerm Bool (is_layer_over count) (Shift bytes of) ∙ h

  pub is_over-keep_align : (step : ℕ) (of : NewTerm) → is_over count of ≡ true → is_over count (roll-NewTerm (KeepAlign step of)) ≡ true
  is_over-keep_align step of h = fold-roll-NewTerm Bool (is_layer_over count) (KeepAlign step of) ∙ h

  pub is_over-spread : (bit to : ℕ) (of : NewTerm) → bit < 64 → is_over count of ≡ true → is_over count (roll-NewTerm (Spread bit to of)) ≡ true
  is_over-spread bit to of small h = fold-roll-NewTerm Bool (is_layer_over count) (Spread bit to of) ∙
      and_from (nat_lt bit 64) (is_over count of) (lt-ltb bit 64 small) h
