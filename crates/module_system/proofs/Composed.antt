-- The greatest words of a module's system hold the greatest set of its facts. The words of effects are raised, from the
-- words of facts, to what the system leaves there: then they are what the set of facts gives.
use Rattle.std.proofs.Common.{arith, ◌≡◌, ◌+◌, ◌<◌, ◌≤◌, ◌^◌, ◌&&◌, ◌⊎◌, ◌↔◌, not, if◌then◌else◌, ℕ, zero, suc, Bool, true, false, List, [], ◌∷◌}
use Rattle.std.proofs.Common.{length, slice_get, slice_index, Option, None, Some, refl, sym, ap, subst, ◌∙◌, inl, inr}
use Rattle.std.specs.Int.{bit_at}
use Rattle.std.specs.Prelude.{replicate, slice_index_or, bit_and}
use Rattle.std.proofs.lemmas.Bool.{cases_lt, both_ways}
use Rattle.std.proofs.lemmas.Option.{slice_get_within, slice_get_past}
use Rattle.std.proofs.lemmas.List.{length-map, get_or_past}
use Rattle.std.proofs.lemmas.List.Elements.{All-get_or, All-from_get_or}
use Rattle.std.proofs.lemmas.Nat.{and_le_l}
use Rattle.std.proofs.lemmas.Nat.Bits.{bit_at-lt, bit_at_above, bit_at-zero, bit_at_and}
use Rattle.lattice_words.specs.declared.word.TheConstants.{FACT_BITS}
use Rattle.lattice_words.specs.Words.{bit_of, word_of, IsWithin}
use Rattle.lattice_words.proofs.WordBits.{bit_at-word_of, word_of-lt}
use Rattle.ir_module.specs.declared.module.Module.{Module}
use Rattle.facts.specs.declared.pos.Pos.{Pos}
use Rattle.facts.specs.declared.pos.Pos.TheVariants as pos
use Rattle.facts.specs.Facts.{Fact, fact, function, effect, is_effect}
use Rattle.facts.specs.Masks.{is_bit, mask_of}
use Rattle.facts.specs.Justified.{JustifiedAt, EachEffect, Rule, AreEffects, HasMore, SupportsItself, IsGreatest}
use Rattle.facts.proofs.Growing.{justified_more}
use Rattle.facts.proofs.Effects.{effects_stand}
use Rattle.rule_terms.specs.declared.term.NewTerm.{NewTerm}
use Rattle.rule_terms.specs.Meaning.{meaning, meet_of}
use Rattle.rule_terms.specs.System.{System, with_masks, terms_at, value, value_in}
use Rattle.rule_terms.specs.Greatest as rule
use Rattle.rule_terms.proofs.Monotone.{value-within}
use Rattle.positions.specs.Numbering.{Numbered}
use Rattle.rule_says.specs.Reading.{held_in, facts_in, AreLegal, IsNumbering}
use Rattle.rule_says.specs.Saying.{IsSet}
use Rattle.rule_says.proofs.Held.{mask_at, mask_bits, held_gives, has_at_set, legal_bit, is_bit_small, listed}
use Rattle.module_system.specs.Filled.{IsSystemOf}

-- ---- sets with and without effects

no_effect : (e held : Bool) → (not e && held) ≡ true → (e ≡ false) × (held ≡ true)
no_effect false held h = (refl, h)
no_effect true held h = absurd (cc)

with_no_effect : (e held : Bool) → e ≡ false → held ≡ true → (not e && held) ≡ true
with_no_effect false held e h = h
with_no_effect true held e h = absurd (cc)

-- ---- a list of the words of so many numbers

abbrev tabled : (ℕ → ℕ) → ℕ → ℕ → List ℕ
tabled word i zero = []
tabled word i (suc k) = word i ∷ tabled word (i + 1) k

tabled-length : (word : ℕ → ℕ) (i k : ℕ) → length (tabled word i k) ≡ k
tabled-length word i zero = refl
tabled-length word i (suc k) = ap suc (tabled-length word (i + 1) k)

tabled-at : (word : ℕ → ℕ) (i k n : ℕ) → n < k → slice_index (tabled word i k) n ≡ word (i + n)
tabled-at word i zero n l = absurd (omega arith)
tabled-at word i (suc k) zero l = ap word (omega arith)
tabled-at word i (suc k) (suc n) l = tabled-at word (i + 1) k n (omega arith) ∙ ap word (omega arith)

-- where there is no element the list has ended
none_past : {X : Type 0} (xs : List X) (n : ℕ) → slice_get xs n ≡ None → length xs ≤ n
none_past [] n e = omega arith
none_past (x ∷ xs) zero e = absurd (cc)
none_past (x ∷ xs) (suc n) e = let rest = none_past xs n e in omega (arith, rest)

-- so many positions without a term
abbrev empties : ℕ → List (List NewTerm)
empties k = replicate k []

-- ---- masks alone

module _ (m : Module) (ps : Numbered) (is : IsNumbering m ps) (s : System) (of : IsSystemOf m ps s) where
  no_terms : (k n : ℕ) → slice_index_or (empties k) n [] ≡ []
  no_terms zero n = refl
  no_terms (suc k) zero = refl
  no_terms (suc k) (suc n) = no_terms k n

  -- what the masks alone leave
  mask_left : (n : ℕ) (word : ℕ → ℕ) → value (with_masks ps.masks) n word ≡ slice_index ps.masks n
  mask_left n word = ap (meet_of word (slice_index ps.masks n)) (no_terms (length ps.masks) n)

  -- a bit is left where it is in the mask and its rule holds
  left_by_rule : (n : ℕ) (p : Pos) → slice_get ps.list n ≡ Some p → (word : ℕ → ℕ) → AreLegal ps word → (bit : ℕ) → bit < 64 →
      IsSet (value s n word) bit ↔ ((is_bit m p bit ≡ true) × Rule m (held_in ps word) p bit)
  left_by_rule n p at word legal bit l = (down, up)
    where
      masked : IsSet (value (with_masks ps.masks) n word) bit ↔ (is_bit m p bit ≡ true)
      masked = subst (λ w. IsSet w bit ↔ (is_bit m p bit ≡ true)) (sym (mask_left n word)) (mask_bits m ps is n p at bit)

      down : IsSet (value s n word) bit → (is_bit m p bit ≡ true) × Rule m (held_in ps word) p bit
      down h = let w = (of.meets.left n p at word legal bit l).0 h in let has = masked.0 w.0 in (has, w.1 has)

      up : (is_bit m p bit ≡ true) × Rule m (held_in ps word) p bit → IsSet (value s n word) bit
      up w = (of.meets.left n p at word legal bit l).1 (masked.1 w.0, λ has. w.1)

  -- what is left lies within the mask
  left_within : (n : ℕ) (word : ℕ → ℕ) → value s n word ≤ slice_index ps.masks n
  left_within n word = subst (λ masks. value s n word ≤ slice_index masks n) of.masks (meets_below word (terms_at s n) (slice_index s.masks n))
    where
      meets_below : (word : ℕ → ℕ) (terms : List NewTerm) (w : ℕ) → meet_of word w terms ≤ w
      meets_below word [] w = omega arith
      meets_below word (t ∷ ts) w = let rest = meets_below word ts (bit_and w (meaning word t)) in let less = and_le_l w (meaning word t) in
          omega (arith, rest, less)

  left_bits : (n : ℕ) (word : ℕ → ℕ) → IsWithin (value s n word) (slice_index ps.masks n)
  left_bits n word = subst (λ masks. IsWithin (value s n word) (slice_index masks n)) of.masks (meets_within word (terms_at s n) (slice_index s.masks n))
    where
      meets_within : (word : ℕ → ℕ) (terms : List NewTerm) (w : ℕ) → IsWithin (meet_of word w terms) w
      meets_within word [] w i l = omega arith
      meets_within word (t ∷ ts) w i l =
          let rest = meets_within word ts (bit_and w (meaning word t)) i l in
          let and = bit_at_and w (meaning word t) i in
          omega (arith, rest, and)

  mask_small : (n : ℕ) → slice_index ps.masks n < 2 ^ FACT_BITS
  mask_small n = by (slice_get ps.list n) refl
    where
      long : length ps.masks ≡ length ps.list
      long = ap length is.masks ∙ length-map ps.list (mask_of m)

      by : (o : Option Pos) → slice_get ps.list n ≡ o → slice_index ps.masks n < 2 ^ FACT_BITS
      by (Some p) at = let same = mask_at m ps is n p at in let small = word_of-lt (is_bit m p) FACT_BITS in omega (arith, same, small)
      by None none = let past = none_past ps.list n none in let zero = get_or_past ps.masks n 0 (omega (arith, past, long)) in omega (arith, zero)

  -- ---- effects raised

  -- the word of an effect is what the system leaves it
  abbrev raised_at : (ℕ → ℕ) → ℕ → Option Pos → ℕ
  raised_at word n None = word n
  raised_at word n (Some p) = if is_effect p then value s n word else word n

  abbrev raised : (ℕ → ℕ) → ℕ → ℕ
  raised word n = raised_at word n (slice_get ps.list n)

  raised_effect : (word : ℕ → ℕ) (n : ℕ) (p : Pos) → slice_get ps.list n ≡ Some p → is_effect p ≡ true → raised word n ≡ value s n word
  raised_effect word n p at e = ap (raised_at word n) at ∙ ap (λ b. if b then value s n word else word n) e

  raised_fact : (word : ℕ → ℕ) (n : ℕ) (p : Pos) → slice_get ps.list n ≡ Some p → is_effect p ≡ false → raised word n ≡ word n
  raised_fact word n p at e = ap (raised_at word n) at ∙ ap (λ b. if b then value s n word else word n) e

  -- each word stays or is what is left
  raised_is : (word : ℕ → ℕ) (n : ℕ) → (raised word n ≡ word n) ⊎ (raised word n ≡ value s n word)
  raised_is word n = by (slice_get ps.list n)
    where
      which : (b : Bool) → ((if b then value s n word else word n) ≡ word n) ⊎ ((if b then value s n word else word n) ≡ value s n word)
      which true = inr refl
      which false = inl refl

      by : (o : Option Pos) → (raised_at word n o ≡ word n) ⊎ (raised_at word n o ≡ value s n word)
      by None = inl refl
      by (Some p) = which (is_effect p)

  module _ (word : ℕ → ℕ) (legal : AreLegal ps word) where
    raised_legal : AreLegal ps (raised word)
    raised_legal n = elim (raised_is word n) [
      | inl same ↦ (subst (λ w. w < 2 ^ 64) (sym same) (legal n).0, subst (λ w. IsWithin w (slice_index ps.masks n)) (sym same) (legal n).1)
      | inr left ↦ (
        (let low = left_within n word in let small = mask_small n in omega (arith, left, low, small)),
        subst (λ w. IsWithin w (slice_index ps.masks n)) (sym left) (left_bits n word),
      )
    ]

    -- facts are held as before
    raised_has : HasMore (held_in ps word) (held_in ps (raised word))
    raised_has x e h =
        let w = held_gives m ps is word x h in
        (has_at_set m ps is (raised word) w.0 x.pos w.1 x.bit).0 (subst (λ v. IsSet v x.bit) (sym (raised_fact word w.0 x.pos w.1 e)) w.2)

    raised_no_more : HasMore (held_in ps (raised word)) (held_in ps word)
    raised_no_more x e h =
        let w = held_gives m ps is (raised word) x h in
        (has_at_set m ps is word w.0 x.pos w.1 x.bit).0 (subst (λ v. IsSet v x.bit) (raised_fact word w.0 x.pos w.1 e) w.2)

    -- effects are what the set of facts gives
    raised_effects : AreEffects m (held_in ps (raised word))
    raised_effects = record {
      given = λ k bit h.
          let w = held_gives m ps is (raised word) (fact (effect k) bit) h in
          let small = is_bit_small m (effect k) bit (legal_bit m ps is (raised word) raised_legal (fact (effect k) bit) h) in
          let left : IsSet (value s w.0 word) bit = subst (λ v. IsSet v bit) (raised_effect word w.0 (effect k) w.1 refl) w.2 in
          justified_more m (held_in ps word) (held_in ps (raised word)) raised_has (fact (effect k) bit)
          ((left_by_rule w.0 (effect k) w.1 word legal bit (omega (arith, small))).0 left).1;
      all = λ k bit has rule.
          let w = listed m ps is (effect k) bit has in
          let small = is_bit_small m (effect k) bit has in
          let left = (left_by_rule w.0 (effect k) w.1 word legal bit (omega (arith, small))).1
          (has, justified_more m (held_in ps (raised word)) (held_in ps word) raised_no_more (fact (effect k) bit) rule) in
          (has_at_set m ps is (raised word) w.0 (effect k) w.1 bit).0 (subst (λ v. IsSet v bit) (sym (raised_effect word w.0 (effect k) w.1 refl)) left);
    }

  -- ---- from words to facts

  module _ (best : List ℕ) (g : rule.IsSelfSupporting s best) where
    abbrev word : ℕ → ℕ
    word = slice_index best

    best_small : (n : ℕ) → word n < 2 ^ 64
    best_small n = elim (cases_lt n (length best)) [
      | inl l ↦ All-get_or (λ w. w < 2 ^ 64) best n 0 l g.fits
      | inr past ↦ (let none = get_or_past best n 0 past in omega (arith, none))
    ]

    best_legal : AreLegal ps word
    best_legal n = (best_small n, subst (λ masks. IsWithin (word n) (slice_index masks n)) of.masks (g.within n))

    -- a bit that is held is left
    best_left : (n : ℕ) (bit : ℕ) → n < length s.masks → bit < 64 → IsSet (word n) bit → IsSet (value s n word) bit
    best_left n bit l small set = let up = g.supported n l bit small in omega (arith, up, set, bit_at-lt (value s n word) bit)

    listed_within : (n : ℕ) (p : Pos) → slice_get ps.list n ≡ Some p → n < length s.masks
    listed_within n p at =
        let inside = slice_get_within ps.list n p at in
        let long = ap length of.masks ∙ (ap length is.masks ∙ length-map ps.list (mask_of m)) in
        omega (arith, inside, long)

    -- the rule of each bit that is held holds
    best_rule : (x : Fact) → held_in ps word x ≡ true → Rule m (held_in ps word) x.pos x.bit
    best_rule x h =
        let w = held_gives m ps is word x h in
        let small = is_bit_small m x.pos x.bit (legal_bit m ps is word best_legal x h) in
        let low : x.bit < 64 = omega (arith, small) in
        ((left_by_rule w.0 x.pos w.1 word best_legal x.bit low).0 (best_left w.0 x.bit (listed_within w.0 x.pos w.1) low w.2)).1

    -- effects too are held after raising
    best_effects : (k bit : ℕ) → held_in ps word (fact (effect k) bit) ≡ true → held_in ps (raised word) (fact (effect k) bit) ≡ true
    best_effects k bit h =
        let w = held_gives m ps is word (fact (effect k) bit) h in
        let small = is_bit_small m (effect k) bit (legal_bit m ps is word best_legal (fact (effect k) bit) h) in
        let left = best_left w.0 bit (listed_within w.0 (effect k) w.1) (omega (arith, small)) w.2 in
        (has_at_set m ps is (raised word) w.0 (effect k) w.1 bit).0 (subst (λ v. IsSet v bit) (sym (raised_effect word w.0 (effect k) w.1 refl)) left)

    to_facts : HasMore (held_in ps word) (facts_in ps word)
    to_facts x e h = with_no_effect (is_effect x.pos) (held_in ps word x) e h

    raised_to_facts : HasMore (held_in ps (raised word)) (facts_in ps word)
    raised_to_facts x e h = to_facts x e (raised_no_more word best_legal x e h)

    best_justified : (p : Pos) (bit : ℕ) → is_effect p ≡ false → held_in ps word (fact p bit) ≡ true → JustifiedAt m (facts_in ps word) p bit
    best_justified (pos.Function f) bit e h =
        let has = legal_bit m ps is word best_legal (fact (pos.Function f) bit) h in
        let each : EachEffect m (held_in ps word) f.0 bit = best_rule (fact (pos.Function f) bit) h in
        let by_effects : JustifiedAt m (held_in ps (raised word)) (function f.0) bit =
        (effects_stand m (held_in ps (raised word)) (raised_effects word best_legal) f.0 bit has).0 (λ k within. best_effects k bit (each k within)) in
        justified_more m (held_in ps (raised word)) (facts_in ps word) raised_to_facts (fact (function f.0) bit) by_effects
    best_justified (pos.Segment k) bit e h =
        justified_more m (held_in ps word) (facts_in ps word) to_facts (fact (pos.Segment k) bit) (best_rule (fact (pos.Segment k) bit) h)
    best_justified (pos.Value v) bit e h =
        justified_more m (held_in ps word) (facts_in ps word) to_facts (fact (pos.Value v) bit) (best_rule (fact (pos.Value v) bit) h)
    best_justified (pos.Entry f at) bit e h =
        justified_more m (held_in ps word) (facts_in ps word) to_facts (fact (pos.Entry f at) bit) (best_rule (fact (pos.Entry f at) bit) h)
    best_justified (pos.Return f) bit e h =
        justified_more m (held_in ps word) (facts_in ps word) to_facts (fact (pos.Return f) bit) (best_rule (fact (pos.Return f) bit) h)
    best_justified (pos.Reach row k) bit e h =
        justified_more m (held_in ps word) (facts_in ps word) to_facts (fact (pos.Reach row k) bit) (best_rule (fact (pos.Reach row k) bit) h)
    best_justified (pos.Effect k) bit e h = absurd (cc)

    pub facts_support : SupportsItself m (facts_in ps word)
    facts_support x h =
        let w = no_effect (is_effect x.pos) (held_in ps word x) h in
        ((w.0, legal_bit m ps is word best_legal x w.1), best_justified x.pos x.bit w.0 w.1)

  -- ---- from facts to words

  module _ (other : Fact → Bool) (self : SupportsItself m other) where
    -- the facts of a position as a word
    abbrev based_at : Option Pos → ℕ
    based_at None = 0
    based_at (Some p) = word_of (λ bit. other (fact p bit)) FACT_BITS

    abbrev base : ℕ → ℕ
    base n = based_at (slice_get ps.list n)

    based : (n : ℕ) (p : Pos) → slice_get ps.list n ≡ Some p → (bit : ℕ) → IsSet (base n) bit ↔ (other (fact p bit) ≡ true)
    based n p at bit = subst (λ w. IsSet w bit ↔ (other (fact p bit) ≡ true)) (sym (ap based_at at)) (down, up)
      where
        test : ℕ → Bool
        test b = other (fact p b)

        down : IsSet (word_of test FACT_BITS) bit → test bit ≡ true
        down h = elim (cases_lt bit FACT_BITS) [
          | inl low ↦ one (test bit) (sym (bit_at-word_of test FACT_BITS bit low) ∙ h)
          | inr high ↦ absurd (let none = bit_at_above (word_of test FACT_BITS) FACT_BITS bit (word_of-lt test FACT_BITS) high in omega (arith, none, h))
        ]
          where
            one : (b : Bool) → bit_of b ≡ 1 → b ≡ true
            one true e = refl
            one false e = absurd (omega (arith, e))

        up : test bit ≡ true → IsSet (word_of test FACT_BITS) bit
        up h = bit_at-word_of test FACT_BITS bit (is_bit_small m p bit (self (fact p bit) h).0.1) ∙ ap bit_of h

    base_small : (n : ℕ) → base n < 2 ^ 64
    base_small n = by (slice_get ps.list n)
      where
        by : (o : Option Pos) → based_at o < 2 ^ 64
        by None = omega arith
        by (Some p) = let small = word_of-lt (λ bit. other (fact p bit)) FACT_BITS in omega (arith, small)

    base_legal : AreLegal ps base
    base_legal n = (base_small n, within)
      where
        within : IsWithin (base n) (slice_index ps.masks n)
        within bit l = by (slice_get ps.list n) refl
          where
            by : (o : Option Pos) → slice_get ps.list n ≡ o → bit_at (base n) bit ≤ bit_at (slice_index ps.masks n) bit
            by None none = let zero : bit_at (base n) bit ≡ 0 = ap (λ o. bit_at (based_at o) bit) none ∙ bit_at-zero bit in omega (arith, zero)
            by (Some p) at = elim (cases_lt (bit_at (base n) bit) 1) [
              | inl none ↦ omega (arith, none)
              | inr one ↦
                  let set : IsSet (base n) bit = omega (arith, one, bit_at-lt (base n) bit) in
                  let mask = (mask_bits m ps is n p at bit).1 (self (fact p bit) ((based n p at bit).0 set)).0.1 in
                  omega (arith, mask, set)
            ]

    abbrev full : ℕ → ℕ
    full = raised base

    full_legal : AreLegal ps full
    full_legal = raised_legal base base_legal

    -- each fact is held
    full_has : HasMore other (held_in ps full)
    full_has x e h =
        let w = listed m ps is x.pos x.bit (self x h).0.1 in
        raised_has base base_legal x e ((has_at_set m ps is base w.0 x.pos w.1 x.bit).0 ((based w.0 x.pos w.1 x.bit).1 h))

    -- no effect is a fact
    base_at_effect : (n : ℕ) (p : Pos) → slice_get ps.list n ≡ Some p → is_effect p ≡ true → (bit : ℕ) → IsSet (base n) bit → ⊥
    base_at_effect n p at e bit set =
        let x = self (fact p bit) ((based n p at bit).0 set) in both_ways (is_effect p) x.0.0 e

    base_full : (n : ℕ) → IsWithin (base n) (full n)
    base_full n bit l = by (slice_get ps.list n) refl
      where
        parted : (p : Pos) → slice_get ps.list n ≡ Some p → (b : Bool) → is_effect p ≡ b → bit_at (base n) bit ≤ bit_at (full n) bit
        parted p at false e = let same = ap (λ w. bit_at w bit) (raised_fact base n p at e) in omega (arith, same)
        parted p at true e = elim (cases_lt (bit_at (base n) bit) 1) [
          | inl none ↦ omega (arith, none)
          | inr one ↦ absurd (base_at_effect n p at e bit (omega (arith, one, bit_at-lt (base n) bit)))
        ]

        by : (o : Option Pos) → slice_get ps.list n ≡ o → bit_at (base n) bit ≤ bit_at (full n) bit
        by None none = let same : full n ≡ base n = ap (raised_at base n) none in let as_bit = ap (λ w. bit_at w bit) same in omega (arith, as_bit)
        by (Some p) at = parted p at (is_effect p) refl

    -- a fact that the set has is left
    rule_holds : (p : Pos) (bit : ℕ) → is_effect p ≡ false → is_bit m p bit ≡ true → JustifiedAt m (held_in ps full) p bit → Rule m (held_in ps full) p bit
    rule_holds (pos.Function f) bit e has h = (effects_stand m (held_in ps full) (raised_effects base base_legal) f.0 bit has).1 h
    rule_holds (pos.Segment k) bit e has h = h
    rule_holds (pos.Value v) bit e has h = h
    rule_holds (pos.Entry f at) bit e has h = h
    rule_holds (pos.Return f) bit e has h = h
    rule_holds (pos.Reach row k) bit e has h = h
    rule_holds (pos.Effect k) bit e has h = absurd (cc)

    fact_left : (n : ℕ) (p : Pos) → slice_get ps.list n ≡ Some p → is_effect p ≡ false → (bit : ℕ) → bit < 64 → IsSet (base n) bit → IsSet (value s n full) bit
    fact_left n p at e bit l set =
        let x = self (fact p bit) ((based n p at bit).0 set) in
        (left_by_rule n p at full full_legal bit l).1 (x.0.1, rule_holds p bit e x.0.1 (justified_more m other (held_in ps full) full_has (fact p bit) x.1))

    full_left : (n : ℕ) → n < length s.masks → IsWithin (full n) (value s n full)
    full_left n l bit small = by (slice_get ps.list n) refl
      where
        parted : (p : Pos) → slice_get ps.list n ≡ Some p → (b : Bool) → is_effect p ≡ b → bit_at (full n) bit ≤ bit_at (value s n full) bit
        parted p at true e =
            let same = ap (λ w. bit_at w bit) (raised_effect base n p at e) in
            let more = value-within s of.system n base full base_full bit small in
            omega (arith, same, more)
        parted p at false e =
            let same = ap (λ w. bit_at w bit) (raised_fact base n p at e) in
            elim (cases_lt (bit_at (base n) bit) 1) [
              | inl none ↦ omega (arith, none, same)
              | inr one ↦
                  let left = fact_left n p at e bit small (omega (arith, one, bit_at-lt (base n) bit)) in
                  omega (arith, left, bit_at-lt (full n) bit)
            ]

        by : (o : Option Pos) → slice_get ps.list n ≡ o → bit_at (full n) bit ≤ bit_at (value s n full) bit
        by None none =
            let zero : full n ≡ 0 = ap (raised_at base n) none ∙ ap based_at none in
            let as_bit = ap (λ w. bit_at w bit) zero ∙ bit_at-zero bit in
            omega (arith, as_bit)
        by (Some p) at = parted p at (is_effect p) refl

    -- the words as a list
    abbrev words : List ℕ
    words = tabled full 0 (length s.masks)

    word_is : (n : ℕ) → slice_index words n ≡ full n
    word_is n = elim (cases_lt n (length s.masks)) [
      | inl l ↦ tabled-at full 0 (length s.masks) n l ∙ ap full (omega arith)
      | inr past ↦ get_or_past words n 0 (let long = tabled-length full 0 (length s.masks) in omega (arith, past, long)) ∙ sym (beyond past)
    ]
      where
        beyond : length s.masks ≤ n → full n ≡ 0
        beyond past =
            let long = ap length of.masks ∙ (ap length is.masks ∙ length-map ps.list (mask_of m)) in
            let none : slice_get ps.list n ≡ None = slice_get_past ps.list n (omega (arith, past, long)) in
            ap (raised_at base n) none ∙ ap based_at none

    same_left : (n : ℕ) → IsWithin (value s n full) (value_in s n words)
    same_left n = value-within s of.system n full (slice_index words) (λ q i l. let same = ap (λ w. bit_at w i) (word_is q) in omega (arith, same))

    pub words_support : rule.IsSelfSupporting s words
    words_support = record {
      long = tabled-length full 0 (length s.masks);
      fits = All-from_get_or (λ w. w < 2 ^ 64) words 0 (λ n l. subst (λ w. w < 2 ^ 64) (sym (word_is n)) (full_legal n).0);
      within = λ n. subst (λ w. IsWithin w (slice_index s.masks n)) (sym (word_is n))
          (subst (λ masks. IsWithin (full n) (slice_index masks n)) (sym of.masks) (full_legal n).1);
      supported = λ n l i small.
          let same = ap (λ w. bit_at w i) (word_is n) in
          let left = full_left n l i small in
          let more = same_left n i small in
          omega (arith, same, left, more);
    }

    -- words that contain these hold each fact
    pub words_hold : (best : List ℕ) → rule.AreWithin words best → (x : Fact) → other x ≡ true → facts_in ps (slice_index best) x ≡ true
    words_hold best less x h =
        let fact_of = (self x h).0 in
        let w = listed m ps is x.pos x.bit fact_of.1 in
        let small = is_bit_small m x.pos x.bit fact_of.1 in
        let set = (based w.0 x.pos w.1 x.bit).1 h in
        let same : slice_index words w.0 ≡ base w.0 = word_is w.0 ∙ raised_fact base w.0 x.pos w.1 fact_of.0 in
        let as_bit = ap (λ v. bit_at v x.bit) same in
        let more = less w.0 x.bit (omega (arith, small)) in
        let held = (has_at_set m ps is (slice_index best) w.0 x.pos w.1 x.bit).0 (omega (arith, set, as_bit, more, bit_at-lt (slice_index best w.0) x.bit)) in
        with_no_effect (is_effect x.pos) (held_in ps (slice_index best) x) fact_of.0 held

  -- the greatest words hold the greatest set
  pub composed : (best : List ℕ) → rule.IsGreatest s best → IsGreatest m (facts_in ps (slice_index best))
  composed best g = record {
    is_one = facts_support best g.is_one;
    contains = λ other self x h. words_hold other self best (g.contains (words other self) (words_support other self)) x h;
  }
