-- What was met in between two systems, step by step.
use Rattle.std.proofs.Common.{arith, ◌≡◌, ◌≢◌, ◌+◌, ◌-◌, ◌<◌, ◌≤◌, ◌^◌, ◌==◌, ◌&&◌, ◌||◌, ◌⊎◌, ◌↔◌, min, max, if◌then◌else◌, ℕ, zero, suc, Bool, true, false}
use Rattle.std.proofs.Common.{List, [], ◌∷◌, ◌++◌, length, slice_get, slice_index, Some, IsTrue, refl, sym, ap, subst, ◌∙◌, inl, inr, bit_and, bit_or, eq-eqb}
use Rattle.std.proofs.Common.{eqb-true, get_or-set_same, get_or-set_other}
use Rattle.std.specs.List.{list_any, flat_map}
use Rattle.std.specs.Int.{bit_at, w64}
use Rattle.std.proofs.lemmas.Bool.{and_from, or_cases, or_left, or_right, cases_eq, both_ways}
use Rattle.std.proofs.lemmas.Option.{slice_get_within}
use Rattle.std.proofs.lemmas.List.{append-nil}
use Rattle.std.proofs.lemmas.List.Folds.{list_any-append}
use Rattle.std.proofs.lemmas.Grind.{flat_map-append}
use Rattle.std.proofs.lemmas.Nat.{and_le_l}
use Rattle.std.proofs.lemmas.Nat.Bits.{bit_at-lt, bit_at_and, bit_at_or, bit_at-zero, bit_at_not}
use Rattle.lattice_words.proofs.WordBits.{word_of-lt}
use Rattle.attr_ids.specs.declared.ids.PosId.{PosId}
use Rattle.ir_module.specs.declared.module.Module.{Module}
use Rattle.facts.specs.declared.pos.Pos.{Pos}
use Rattle.facts.specs.Facts.{Fact, fact}
use Rattle.facts.specs.Masks.{is_bit, mask_of}
use Rattle.rule_terms.specs.declared.term.NewTerm.{NewTerm}
use Rattle.rule_terms.specs.declared.term.NewTerm.TheOpen.{NewTerm-F as new'}
use Rattle.rule_terms.specs.declared.term.NewTerm.TheViews.{roll-NewTerm}
use Rattle.rule_terms.specs.declared.term.NewTerm.TheFolds.{fold-roll-NewTerm}
use Rattle.rule_terms.specs.Meaning.{all_ones, layer_meaning, meaning}
use Rattle.rule_terms.specs.Names.{has_name, with_names, names_of, layer_names, is_over, is_layer_over}
use Rattle.rule_terms.specs.System.{System, IsSystem, with_term, value, inputs_of, terms_at}
use Rattle.rule_terms.proofs.Meeting.{value-with_term, value-with_term_other}
use Rattle.rule_terms.proofs.Naming.{inputs-has, inputs-only}
use Rattle.positions.specs.Numbering.{Numbered}
use Rattle.rule_says.specs.Reading.{held_in, AreLegal, IsNumbering}
use Rattle.rule_says.specs.Saying.{IsSet, Has, IsSpokenOf, Says}
use Rattle.rule_says.specs.Meeting.{IsInput, Meets, HasSome, for_bits, IsMet}
use Rattle.rule_says.proofs.Held.{set_bit, bit_set, mask_bits, mask_at, legal_bit}
use Rattle.rule_says.proofs.Terms.{spoken_as, some_bit}

-- a set has bits of masks alone
abbrev pub HoldsBits : Module → (Fact → Bool) → Type 0
HoldsBits m held = (x : Fact) → held x ≡ true → is_bit m x.pos x.bit ≡ true

-- the names of a term for some bits are those of the term
for_names : (bits : ℕ) (t : NewTerm) → names_of (for_bits bits t) ≡ names_of t
for_names bits t =
    fold-roll-NewTerm (List PosId) layer_names (new'.Or (roll-NewTerm (new'.Const (all_ones - bits))) t)
    ∙ ap (λ xs. xs ++ names_of t) (fold-roll-NewTerm (List PosId) layer_names (new'.Const (all_ones - bits)))

-- it gives all other bits
for_means : (word : ℕ → ℕ) (bits : ℕ) (t : NewTerm) → meaning word (for_bits bits t) ≡ bit_or (all_ones - bits) (meaning word t)
for_means word bits t =
    fold-roll-NewTerm ℕ (layer_meaning word) (new'.Or (roll-NewTerm (new'.Const (all_ones - bits))) t)
    ∙ ap (λ w. bit_or w (meaning word t)) (fold-roll-NewTerm ℕ (layer_meaning word) (new'.Const (all_ones - bits)))

pub for_over : (count bits : ℕ) (t : NewTerm) → is_over count t ≡ true → is_over count (for_bits bits t) ≡ true
for_over count bits t over =
    fold-roll-NewTerm Bool (is_layer_over count) (new'.Or (roll-NewTerm (new'.Const (all_ones - bits))) t)
    ∙ and_from (is_over count (roll-NewTerm (new'.Const (all_ones - bits)))) (is_over count t)
    (fold-roll-NewTerm Bool (is_layer_over count) (new'.Const (all_ones - bits))) over

-- the inputs after one more term
inputs_more : (s : System) (n : ℕ) (t : NewTerm) (q : PosId) → n < length s.terms →
    IsInput (with_term s n t) n q ↔ (IsInput s n q ⊎ IsTrue (has_name (names_of t) q))
inputs_more s n t q within = (down, up)
  where
    terms : terms_at (with_term s n t) n ≡ terms_at s n ++ t ∷ []
    terms = get_or-set_same s.terms n (terms_at s n ++ t ∷ []) [] within

    names : flat_map names_of (terms_at (with_term s n t) n) ≡ flat_map names_of (terms_at s n) ++ names_of t
    names = ap (flat_map names_of) terms ∙
        (flat_map-append names_of (terms_at s n) (t ∷ []) ∙ ap (λ xs. flat_map names_of (terms_at s n) ++ xs) (append-nil (names_of t)))

    parted : has_name (flat_map names_of (terms_at (with_term s n t) n)) q ≡ (has_name (flat_map names_of (terms_at s n)) q || has_name (names_of t) q)
    parted = ap (λ xs. has_name xs q) names ∙ list_any-append (λ r. q.0 == r.0) (flat_map names_of (terms_at s n)) (names_of t)

    down : IsInput (with_term s n t) n q → IsInput s n q ⊎ IsTrue (has_name (names_of t) q)
    down h = elim (or_cases (has_name (flat_map names_of (terms_at s n)) q) (has_name (names_of t) q) (sym parted ∙ inputs-only (with_term s n t) n q h)) [
      | inl old ↦ inl (inputs-has s n q old)
      | inr new ↦ inr new
    ]

    up : IsInput s n q ⊎ IsTrue (has_name (names_of t) q) → IsInput (with_term s n t) n q
    up (inl old) = inputs-has (with_term s n t) n q (parted ∙
        or_left (has_name (flat_map names_of (terms_at s n)) q) (has_name (names_of t) q) (inputs-only s n q old))
    up (inr new) = inputs-has (with_term s n t) n q (parted ∙ or_right (has_name (flat_map names_of (terms_at s n)) q) (has_name (names_of t) q) new)

-- no other position's inputs change
inputs_other : (s : System) (n k : ℕ) (t : NewTerm) → k ≢ n → inputs_of (with_term s n t) k ≡ inputs_of s k
inputs_other s n k t other = ap (λ ts. with_names [] (flat_map names_of ts)) (get_or-set_other s.terms n k (terms_at s n ++ t ∷ []) [] other)

-- a bit of the meet: one of `asked` is the term's, others stay
bit_for : (old asked given bit : ℕ) → asked < 2 ^ 64 → bit < 64 →
    IsSet (bit_and old (bit_or (all_ones - asked) given)) bit ↔ (IsSet old bit × (IsSet asked bit → IsSet given bit))
bit_for old asked given bit small l = (down, up)
  where
    not : bit_at (all_ones - asked) bit ≡ 1 - bit_at asked bit
    not = bit_at_not w64 asked bit small l

    or : bit_at (bit_or (all_ones - asked) given) bit ≡ max (bit_at (all_ones - asked) bit) (bit_at given bit)
    or = bit_at_or (all_ones - asked) given bit

    and : bit_at (bit_and old (bit_or (all_ones - asked) given)) bit ≡ min (bit_at old bit) (bit_at (bit_or (all_ones - asked) given) bit)
    and = bit_at_and old (bit_or (all_ones - asked) given) bit

    down : IsSet (bit_and old (bit_or (all_ones - asked) given)) bit → IsSet old bit × (IsSet asked bit → IsSet given bit)
    down h = (
      omega (arith, h, and, bit_at-lt old bit, bit_at-lt (bit_or (all_ones - asked) given) bit),
      λ set. omega (arith, h, and, or, not, set, bit_at-lt old bit, bit_at-lt given bit, bit_at-lt (bit_or (all_ones - asked) given) bit),
    )

    up : IsSet old bit × (IsSet asked bit → IsSet given bit) → IsSet (bit_and old (bit_or (all_ones - asked) given)) bit
    up w = elim (cases_eq (bit_at asked bit) 1) [
      | inl set ↦ (let g = w.1 set in let o = w.0 in omega (arith, g, o, and, or, not, bit_at-lt given bit, bit_at-lt (all_ones - asked) bit))
      | inr none ↦ (let o = w.0 in let low : bit_at asked bit ≡ 0 = zero_bit (bit_at asked bit) (bit_at-lt asked bit) none in
          omega (arith, o, and, or, not, low, bit_at-lt given bit))
    ]
      where
        zero_bit : (n : ℕ) → n < 2 → (n ≡ 1 → ⊥) → n ≡ 0
        zero_bit zero l none = refl
        zero_bit (suc zero) l none = absurd (none refl)
        zero_bit (suc (suc n)) l none = absurd (omega (arith, l))

module _ (m : Module) (ps : Numbered) where
  -- ---- nothing, one thing after the other, the same said otherwise

  pub meets_none : (s : System) → Meets m ps s s (λ held p bit. Unit {0}) (λ p y. ⊥)
  meets_none s = record {
    masks = refl;
    left = λ n p at word legal bit l. ((λ h. (h, tt)), λ w. w.0);
    named = λ n p at q. ((λ h. inl h), none n q);
  }
    where
      none : (n : ℕ) (q : PosId) → IsInput s n q ⊎ IsSpokenOf m ps (λ y. ⊥) q → IsInput s n q
      none n q (inl h) = h
      none n q (inr w) = absurd w.4

  pub meets_then : (a b c : System) (A B : (Fact → Bool) → Pos → ℕ → Type 0) (S R : Pos → Fact → Type 0) → Meets m ps a b A S → Meets m ps b c B R →
      Meets m ps a c (λ held p bit. A held p bit × B held p bit) (λ p y. S p y ⊎ R p y)
  meets_then a b c A B S R first second = record {
    masks = second.masks ∙ first.masks;
    left = λ n p at word legal bit l. (
      (λ h. let w = (second.left n p at word legal bit l).0 h in let v = (first.left n p at word legal bit l).0 w.0 in (v.0, (v.1, w.1))),
      λ w. (second.left n p at word legal bit l).1 ((first.left n p at word legal bit l).1 (w.0, w.1.0), w.1.1),
    );
    named = λ n p at q. (
      (λ h. down n p at q ((second.named n p at q).0 h)),
      λ w. up n p at q w,
    );
  }
    where
      down : (n : ℕ) (p : Pos) → slice_get ps.list n ≡ Some p → (q : PosId) → IsInput b n q ⊎ IsSpokenOf m ps (R p) q →
          IsInput a n q ⊎ IsSpokenOf m ps (λ y. S p y ⊎ R p y) q
      down n p at q (inr w) = inr (spoken_as m ps (R p) (λ y. S p y ⊎ R p y) (λ r bit is x. inr x) q w)
      down n p at q (inl h) = elim ((first.named n p at q).0 h) [
        | inl old ↦ inl old
        | inr w ↦ inr (spoken_as m ps (S p) (λ y. S p y ⊎ R p y) (λ r bit is x. inl x) q w)
      ]

      up : (n : ℕ) (p : Pos) → slice_get ps.list n ≡ Some p → (q : PosId) → IsInput a n q ⊎ IsSpokenOf m ps (λ y. S p y ⊎ R p y) q → IsInput c n q
      up n p at q (inl h) = (second.named n p at q).1 (inl ((first.named n p at q).1 (inl h)))
      up n p at q (inr w) = elim w.4 [
        | inl s ↦ (second.named n p at q).1 (inl ((first.named n p at q).1 (inr (w.0, w.1, w.2, w.3, s))))
        | inr r ↦ (second.named n p at q).1 (inr (w.0, w.1, w.2, w.3, r))
      ]

  pub meets_iff : (a b : System) (A B : (Fact → Bool) → Pos → ℕ → Type 0) (S R : Pos → Fact → Type 0) → Meets m ps a b A S →
      ((held : Fact → Bool) (p : Pos) (bit : ℕ) → A held p bit ↔ B held p bit) → ((p : Pos) (y : Fact) → S p y ↔ R p y) → Meets m ps a b B R
  meets_iff a b A B S R first asks speaks = record {
    masks = first.masks;
    left = λ n p at word legal bit l. (
      (λ h. let w = (first.left n p at word legal bit l).0 h in (w.0, (asks (held_in ps word) p bit).0 w.1)),
      λ w. (first.left n p at word legal bit l).1 (w.0, (asks (held_in ps word) p bit).1 w.1),
    );
    named = λ n p at q. (
      (λ h. by n p q S R (λ y. (speaks p y).0) ((first.named n p at q).0 h)),
      λ w. (first.named n p at q).1 (by n p q R S (λ y. (speaks p y).1) w),
    );
  }
    where
      by : (n : ℕ) (p : Pos) (q : PosId) (S R : Pos → Fact → Type 0) → ((y : Fact) → S p y → R p y) → IsInput a n q ⊎ IsSpokenOf m ps (S p) q →
          IsInput a n q ⊎ IsSpokenOf m ps (R p) q
      by n p q S R h (inl old) = inl old
      by n p q S R h (inr w) = inr (spoken_as m ps (S p) (R p) (λ r bit is x. h (fact r bit) x) q w)

  -- the same where only sets of bits of masks, and bits of masks, count
  pub meets_within : IsNumbering m ps → (a b : System) (A B : (Fact → Bool) → Pos → ℕ → Type 0) (S R : Pos → Fact → Type 0) → Meets m ps a b A S →
      ((held : Fact → Bool) (p : Pos) (bit : ℕ) → HoldsBits m held → A held p bit ↔ B held p bit) →
      ((p q : Pos) (bit : ℕ) → is_bit m q bit ≡ true → S p (fact q bit) ↔ R p (fact q bit)) → Meets m ps a b B R
  meets_within is a b A B S R first asks speaks = record {
    masks = first.masks;
    left = λ n p at word legal bit l. (
      (λ h. let w = (first.left n p at word legal bit l).0 h in (w.0, (asks (held_in ps word) p bit (legal_bit m ps is word legal)).0 w.1)),
      λ w. (first.left n p at word legal bit l).1 (w.0, (asks (held_in ps word) p bit (legal_bit m ps is word legal)).1 w.1),
    );
    named = λ n p at q. (
      (λ h. by n p q S R (λ r bit has. (speaks p r bit has).0) ((first.named n p at q).0 h)),
      λ w. (first.named n p at q).1 (by n p q R S (λ r bit has. (speaks p r bit has).1) w),
    );
  }
    where
      by : (n : ℕ) (p : Pos) (q : PosId) (S R : Pos → Fact → Type 0) → ((r : Pos) (bit : ℕ) → is_bit m r bit ≡ true → S p (fact r bit) → R p (fact r bit)) →
          IsInput a n q ⊎ IsSpokenOf m ps (S p) q → IsInput a n q ⊎ IsSpokenOf m ps (R p) q
      by n p q S R h (inl old) = inl old
      by n p q S R h (inr w) = inr (spoken_as m ps (S p) (R p) h q w)

  -- ---- one term

  -- what is asked of the bits that are met into
  abbrev pub AskAt : Pos → ℕ → ((Fact → Bool) → ℕ → Type 0) → (Fact → Bool) → Pos → ℕ → Type 0
  AskAt p bits A held q bit = q ≡ p → IsSet bits bit → is_bit m p bit ≡ true → A held bit

  -- what is spoken of there
  abbrev pub SpeakAt : Pos → ℕ → (Fact → Type 0) → Pos → Fact → Type 0
  SpeakAt p bits S q y = (q ≡ p) × HasSome m p bits × S y

  pub meets_term : IsNumbering m ps → (old new : System) (p : Pos) (bits : ℕ) (t : NewTerm) (A : (Fact → Bool) → ℕ → Type 0) (S : Fact → Type 0) →
      length old.masks ≡ length ps.list → IsMet ps old new p bits t → Says m ps bits t A S → Meets m ps old new (AskAt p bits A) (SpeakAt p bits S)
  meets_term is old new p bits t A S long met says = by (bit_and (slice_index ps.masks met.number.0) bits == 0) refl met.met
    where
      place : ℕ
      place = met.number.0

      mask : ℕ
      mask = slice_index ps.masks place

      asked : ℕ
      asked = bit_and mask bits

      within : place < length old.terms
      within = let inside = slice_get_within ps.list place p met.is in let same = met.system.long in omega (arith, inside, same, long)

      asked_small : asked < 2 ^ 64
      asked_small =
          let less = and_le_l mask bits in
          let same = mask_at m ps is place p met.is in
          let small = word_of-lt (is_bit m p) 47 in
          omega (arith, less, same, small)

      -- the bits that are asked are those that are in the mask too
      asked_bit : (bit : ℕ) → IsSet asked bit → IsSet bits bit × (is_bit m p bit ≡ true)
      asked_bit bit set =
          let and = bit_at_and mask bits bit in (
            omega (arith, set, and, bit_at-lt mask bit, bit_at-lt bits bit),
            (mask_bits m ps is place p met.is bit).0 (omega (arith, set, and, bit_at-lt mask bit, bit_at-lt bits bit)),
          )

      bit_asked : (bit : ℕ) → IsSet bits bit → is_bit m p bit ≡ true → IsSet asked bit
      bit_asked bit set has =
          let and = bit_at_and mask bits bit in
          let one = (mask_bits m ps is place p met.is bit).1 has in
          omega (arith, set, and, one)

      nothing : (asked == 0) ≡ true → (bit : ℕ) → IsSet bits bit → is_bit m p bit ≡ true → ⊥
      nothing e bit set has =
          let one = bit_asked bit set has in
          let none : bit_at asked bit ≡ 0 = ap (λ n. bit_at n bit) (eqb-true asked 0 e) ∙ bit_at-zero bit in
          omega (arith, one, none)

      none_met : (asked == 0) ≡ true → Meets m ps old old (AskAt p bits A) (SpeakAt p bits S)
      none_met e = record {
        masks = refl;
        left = λ n q at word legal bit l. ((λ h. (h, λ same set has. absurd (nothing e bit set has))), λ w. w.0);
        named = λ n q at r. ((λ h. inl h), unnamed n q r);
      }
        where
          unnamed : (n : ℕ) (q : Pos) (r : PosId) → IsInput old n r ⊎ IsSpokenOf m ps (SpeakAt p bits S q) r → IsInput old n r
          unnamed n q r (inl h) = h
          unnamed n q r (inr w) = absurd (nothing e w.4.1.0 w.4.1.1 w.4.1.2)

      whole : NewTerm
      whole = for_bits asked t

      met_left : (n : ℕ) (q : Pos) → slice_get ps.list n ≡ Some q → (word : ℕ → ℕ) → AreLegal ps word → (bit : ℕ) → bit < 64 →
          IsSet (value (with_term old place whole) n word) bit ↔ (IsSet (value old n word) bit × AskAt p bits A (held_in ps word) q bit)
      met_left n q at word legal bit l = elim (cases_eq n place) [
        | inl here ↦ subst (λ k. IsSet (value (with_term old place whole) k word) bit ↔ (IsSet (value old k word) bit ×
            AskAt p bits A (held_in ps word) q bit)) (sym here) (there here)
        | inr other ↦
            let same = value-with_term_other old place n whole word other in
            let apart : q ≡ p → ⊥ = (λ e. other (is.positions.once n place p (subst (λ r. slice_get ps.list n ≡ Some r) e at) met.is)) in
            subst (λ v. IsSet v bit ↔ (IsSet (value old n word) bit × AskAt p bits A (held_in ps word) q bit)) (sym same)
            ((λ h. (h, λ e set has. absurd (apart e))), λ w. w.0)
      ]
        where
          left_is : value (with_term old place whole) place word ≡ bit_and (value old place word) (bit_or (all_ones - asked) (meaning word t))
          left_is = value-with_term old place whole word within ∙ ap (bit_and (value old place word)) (for_means word asked t)

          bits_of : IsSet (value (with_term old place whole) place word) bit ↔ (IsSet (value old place word) bit ×
              (IsSet asked bit → IsSet (meaning word t) bit))
          bits_of = subst (λ v. IsSet v bit ↔ (IsSet (value old place word) bit × (IsSet asked bit → IsSet (meaning word t) bit))) (sym left_is)
              (bit_for (value old place word) asked (meaning word t) bit asked_small l)

          there : n ≡ place → IsSet (value (with_term old place whole) place word) bit ↔ (IsSet (value old place word) bit ×
              AskAt p bits A (held_in ps word) q bit)
          there here = (
            λ h. let w = bits_of.0 h in (w.0, λ e set has. (says.means word legal bit l set).0 (w.1 (bit_asked bit set has))),
            λ w. bits_of.1 (w.0, λ set. let v = asked_bit bit set in (says.means word legal bit l v.0).1 (w.1 same v.0 v.1)),
          )
            where
              same : q ≡ p
              same = let q_at : slice_get ps.list place ≡ Some q = subst (λ k. slice_get ps.list k ≡ Some q) here at in let p_at = met.is in cc

      met_named : (asked == 0) ≡ false → (n : ℕ) (q : Pos) → slice_get ps.list n ≡ Some q → (r : PosId) →
          IsInput (with_term old place whole) n r ↔ (IsInput old n r ⊎ IsSpokenOf m ps (SpeakAt p bits S q) r)
      met_named e n q at r = elim (cases_eq n place) [
        | inl here ↦ subst (λ k. IsInput (with_term old place whole) k r ↔ (IsInput old k r ⊎ IsSpokenOf m ps (SpeakAt p bits S q) r)) (sym here) (there here)
        | inr other ↦
            let apart : q ≡ p → ⊥ = (λ e. other (is.positions.once n place p (subst (λ s. slice_get ps.list n ≡ Some s) e at) met.is)) in
            subst (λ xs. IsTrue (has_name xs r) ↔ (IsInput old n r ⊎ IsSpokenOf m ps (SpeakAt p bits S q) r)) (sym (inputs_other old place n whole other))
            ((λ h. inl h), not_spoken apart)
      ]
        where
          not_spoken : (q ≡ p → ⊥) → IsInput old n r ⊎ IsSpokenOf m ps (SpeakAt p bits S q) r → IsInput old n r
          not_spoken apart (inl h) = h
          not_spoken apart (inr w) = absurd (apart w.4.0)

          there : n ≡ place → IsInput (with_term old place whole) place r ↔ (IsInput old place r ⊎ IsSpokenOf m ps (SpeakAt p bits S q) r)
          there here = (λ h. down ((inputs_more old place whole r within).0 h), λ w. (inputs_more old place whole r within).1 (up w))
            where
              same : q ≡ p
              same = let q_at : slice_get ps.list place ≡ Some q = subst (λ k. slice_get ps.list k ≡ Some q) here at in let p_at = met.is in cc

              some : HasSome m p bits
              some = let one = some_bit asked asked_small e in let v = asked_bit one.0 one.2 in (one.0, v.0, v.1)

              down : IsInput old place r ⊎ IsTrue (has_name (names_of whole) r) → IsInput old place r ⊎ IsSpokenOf m ps (SpeakAt p bits S q) r
              down (inl h) = inl h
              down (inr h) = inr (spoken_as m ps S (SpeakAt p bits S q) (λ u bit has s. (same, some, s)) r
                  ((says.named r).0 (subst (λ xs. IsTrue (has_name xs r)) (for_names asked t) h)))

              up : IsInput old place r ⊎ IsSpokenOf m ps (SpeakAt p bits S q) r → IsInput old place r ⊎ IsTrue (has_name (names_of whole) r)
              up (inl h) = inl h
              up (inr w) = inr (subst (λ xs. IsTrue (has_name xs r)) (sym (for_names asked t))
                  ((says.named r).1 (spoken_as m ps (SpeakAt p bits S q) S (λ u bit has s. s.2) r w)))

      by : (b : Bool) → (asked == 0) ≡ b → new ≡ (if b then old else with_term old place whole) → Meets m ps old new (AskAt p bits A) (SpeakAt p bits S)
      by true e f = subst (λ s. Meets m ps old s (AskAt p bits A) (SpeakAt p bits S)) (sym f) (none_met e)
      by false e f = subst (λ s. Meets m ps old s (AskAt p bits A) (SpeakAt p bits S)) (sym f) (record { masks = refl; left = met_left; named = met_named e })
