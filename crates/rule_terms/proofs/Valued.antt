-- What a position's terms give, read from the slots.
use Rattle.std.proofs.Common.{◌≡◌, ◌≢◌, ℕ, zero, suc, ◌<◌, true, cond, eqb, eq-eqb, ◌&&◌, List, [], ◌∷◌, length, map, slice_get, slice_index, option_map, Some}
use Rattle.std.proofs.Common.{bit_and, refl, ap, sym, ◌∙◌, arith, nat_lt}
use Rattle.std.specs.List.{flat_map}
use Rattle.std.specs.Int.{bit_at}
use Rattle.std.proofs.lemmas.Bool.{and_parts, ltb-true, cond-true, cond-false, ne_eqb}
use Rattle.std.proofs.lemmas.Option.{slice_get-get_or, slice_get-map, get_or_from_slice_get}
use Rattle.lattice_words.specs.Ladders.{shift_of, keep_align_of}
use Rattle.attr_ids.specs.declared.ids.PosId.{PosId}
use Rattle.rule_terms.specs.declared.system.System.TheInside.{Inside}
use Rattle.rule_terms.specs.declared.term.Term.{Term}
use Rattle.rule_terms.specs.declared.term.TermId.{TermId}
use Rattle.rule_terms.specs.declared.term.NewTerm.TheOpen.{NewTerm-F as new}
use Rattle.rule_terms.specs.declared.term.NewTerm.TheFolds.{fold-roll-NewTerm}
use Rattle.rule_terms.specs.Meaning.{all_ones, meaning, layer_meaning, meet_of}
use Rattle.rule_terms.specs.Slots.{Numbered, const, word, both, either, unless, shift, keep_align, spread, nth, slot_terms, named, input_at, is_numbered}
use Rattle.rule_terms.specs.Slots.{numbered_meaning, IsReadable}
use Rattle.rule_terms.specs.Names.{names_of, with_names}
use Rattle.rule_terms.specs.Kept.{Rule, met_terms, term_at}
use Rattle.rule_terms.specs.Meeting.{meet_places}
use Rattle.rule_terms.specs.Inside.{shown, rules_in, IsKept}
use Rattle.rule_terms.specs.System.{System, terms_at, value, inputs_of, looked_word}

module _ (inputs : List PosId) (words look : ℕ → ℕ) (agree : (n : ℕ) → n < length inputs → words (input_at inputs n).0 ≡ look n) where
  input_agrees : (n : ℕ) → nat_lt n (length inputs) ≡ true → words (input_at inputs n).0 ≡ look n
  input_agrees n is = agree n (ltb-true n (length inputs) is)

  -- a term by its names means what it means by its inputs' numbers
  pub meaning-named : (t : Numbered) → is_numbered (length inputs) t ≡ true → meaning words (named inputs t) ≡ numbered_meaning look t
  meaning-named (const bits) is = fold-roll-NewTerm ℕ (layer_meaning words) (new.Const bits)
  meaning-named (word number) is = fold-roll-NewTerm ℕ (layer_meaning words) (new.Word (input_at inputs number)) ∙ input_agrees number is
  meaning-named (both left right) is =
      let parts = and_parts (is_numbered (length inputs) left) (is_numbered (length inputs) right) is in
      rw (
        fold-roll-NewTerm ℕ (layer_meaning words) (new.And (named inputs left) (named inputs right)),
        meaning-named left parts.0,
        meaning-named right parts.1,
      ) refl
  meaning-named (either left right) is =
      let parts = and_parts (is_numbered (length inputs) left) (is_numbered (length inputs) right) is in
      rw (
        fold-roll-NewTerm ℕ (layer_meaning words) (new.Or (named inputs left) (named inputs right)),
        meaning-named left parts.0,
        meaning-named right parts.1,
      ) refl
  meaning-named (unless input bit then') is =
      let outer = and_parts (nat_lt input (length inputs) && nat_lt bit 64) (is_numbered (length inputs) then') is in
      let inner = and_parts (nat_lt input (length inputs)) (nat_lt bit 64) outer.0 in
      fold-roll-NewTerm ℕ (layer_meaning words) (new.Unless (input_at inputs input) bit (named inputs then'))
      ∙ ap (λ w. cond (eqb (bit_at w bit) 1) all_ones (meaning words (named inputs then'))) (input_agrees input inner.0)
      ∙ ap (cond (eqb (bit_at (look input) bit) 1) all_ones) (meaning-named then' outer.1)
  meaning-named (shift bytes of) is = fold-roll-NewTerm ℕ (layer_meaning words) (new.Shift bytes (named inputs of)) ∙ ap (shift_of bytes) (meaning-named of is)
  meaning-named (keep_align step of) is = fold-roll-NewTerm ℕ (layer_meaning words) (new.KeepAlign step (named inputs of)) ∙
      ap (keep_align_of step) (meaning-named of is)
  meaning-named (spread bit to of) is =
      let parts = and_parts (nat_lt bit 64) (is_numbered (length inputs) of) is in
      fold-roll-NewTerm ℕ (layer_meaning words) (new.Spread bit to (named inputs of))
      ∙ ap (λ w. cond (eqb (bit_at w bit) 1) to 0) (meaning-named of parts.1)

  meet-named : (slots : List Term) (mask : ℕ) (places : List TermId) → ((k : ℕ) (place : TermId) → slice_get places k ≡ Some place →
      IsReadable slots (length inputs) place.0) →
      meet_of words mask (map (term_at slots inputs) places) ≡ meet_places look slots mask places
  meet-named slots mask [] readable = refl
  meet-named slots mask (place ∷ places) readable =
      ap (λ m. meet_of words (bit_and mask m) (map (term_at slots inputs) places))
      (meaning-named (nth (slot_terms slots) place.0) (readable zero place refl).numbered)
      ∙ meet-named slots (bit_and mask (numbered_meaning look (nth (slot_terms slots) place.0))) places (λ k other e. readable (suc k) other e)

-- the terms of a position are those of its rule
pub terms_at-shown : (a : Inside) (s : System) (p : ℕ) (rule : Rule) → shown a ≡ s → slice_get (rules_in a) p ≡ Some rule →
    terms_at s p ≡ met_terms a.pool.slots.items rule
terms_at-shown a s p rule same found =
    ap (λ (x : System). terms_at x p) (sym same)
    ∙ get_or_from_slice_get (map (met_terms a.pool.slots.items) (rules_in a)) p (met_terms a.pool.slots.items rule) []
    (slice_get-map (met_terms a.pool.slots.items) (rules_in a) p ∙ ap (option_map (met_terms a.pool.slots.items)) found)

-- the value of a position, read from the slots
pub value-shown : (a : Inside) (s : System) (p : ℕ) (rule : Rule) → IsKept a → shown a ≡ s → slice_get (rules_in a) p ≡ Some rule →
    (words look : ℕ → ℕ) → ((n : ℕ) → n < length rule.inputs → words (input_at rule.inputs n).0 ≡ look n) →
    meet_places look a.pool.slots.items (slice_index a.masks p) rule.places ≡ value s p words
unfolding met_terms
value-shown a s p rule kept same found words look agree =
    sym (meet-named rule.inputs words look agree a.pool.slots.items (slice_index a.masks p) rule.places (kept.rules p rule found).places)
    ∙ ap (meet_of words (slice_index a.masks p)) (sym (terms_at-shown a s p rule same found))
    ∙ ap (λ m. meet_of words m (terms_at s p)) (ap (λ (x : System). slice_index x.masks p) same)

-- the inputs of a position are those of its rule
pub inputs-shown : (a : Inside) (s : System) (p : ℕ) (rule : Rule) → IsKept a → shown a ≡ s → slice_get (rules_in a) p ≡ Some rule → rule.inputs ≡ inputs_of s p
inputs-shown a s p rule kept same found =
    (kept.rules p rule found).inputs ∙ ap (λ terms. with_names [] (flat_map names_of terms)) (sym (terms_at-shown a s p rule same found))

-- the word that was looked at for the input of a number
pub looked_word-at : (inputs : List PosId) (looked : List ℕ) → ((i j : ℕ) (p q : PosId) → slice_get inputs i ≡ Some p → slice_get inputs j ≡ Some q →
    p.0 ≡ q.0 → i ≡ j) → length looked ≡ length inputs →
    (n : ℕ) → n < length inputs → looked_word inputs looked (input_at inputs n).0 ≡ slice_index looked n
looked_word-at [] looked apart long n l = absurd (omega arith)
looked_word-at (p ∷ ps) [] apart long n l = absurd (omega arith)
looked_word-at (p ∷ ps) (w ∷ ws) apart long zero l = cond-true (eqb p.0 p.0) w (looked_word ps ws p.0) (eq-eqb p.0 p.0 refl)
looked_word-at (p ∷ ps) (w ∷ ws) apart long (suc n) l =
    let within : n < length ps = omega arith in
    let q : PosId = input_at ps n in
    let other : p.0 ≢ q.0 = λ same. let none : zero ≡ suc n = apart zero (suc n) p q refl (slice_get-get_or ps n (record { 0 = 0 }) within) same in
    absurd (omega arith) in
    cond-false (eqb p.0 q.0) w (looked_word ps ws q.0) (ne_eqb p.0 q.0 other)
    ∙ looked_word-at ps ws (λ i j x y e f same. let one : suc i ≡ suc j = apart (suc i) (suc j) x y e f same in omega arith) (omega arith) n within
