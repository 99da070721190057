-- What each term says, given what its parts say.
use Rattle.std.proofs.Common.{arith, ◌≡◌, ◌+◌, ◌-◌, ◌<◌, ◌≤◌, ◌^◌, ◌==◌, ◌&&◌, ◌||◌, ◌⊎◌, ◌↔◌, not, nat_lt, if◌then◌else◌, ℕ, zero, suc, Bool, true, false}
use Rattle.std.proofs.Common.{MatchBool, List, [], ◌∷◌, ◌++◌, length, slice_get, slice_index, Some, IsTrue, refl, sym, ap, subst, ◌∙◌, inl, inr, bit_and}
use Rattle.std.proofs.Common.{bit_or, eq-eqb, eqb-true, eqb, cond}
use Rattle.std.specs.List.{list_any}
use Rattle.std.specs.Int.{bit_at, w64}
use Rattle.std.proofs.lemmas.Bool.{and_parts, and_from, or_cases, or_left, or_right, cases_lt, lt-ltb, both_ways}
use Rattle.std.proofs.lemmas.Option.{slice_get_within}
use Rattle.std.proofs.lemmas.List.Folds.{list_any-append}
use Rattle.std.proofs.lemmas.Nat.{and_le_l}
use Rattle.std.proofs.lemmas.Nat.Bits.{bit_at-lt, bit_at_and, bit_at_or, bit_at-zero, bit_at_ones, bit_at-trailing_zeros}
use Rattle.lattice_words.specs.Words.{has_bit, bit_of, word_of}
use Rattle.lattice_words.proofs.WordBits.{bit_of-has_bit, word_of-lt}
use Rattle.attr_ids.specs.declared.ids.PosId.{PosId}
use Rattle.ir_module.specs.declared.module.Module.{Module}
use Rattle.facts.specs.declared.pos.Pos.{Pos}
use Rattle.facts.specs.Facts.{Fact, fact}
use Rattle.facts.specs.Masks.{is_bit, mask_of}
use Rattle.rule_terms.specs.declared.term.NewTerm.{NewTerm}
use Rattle.rule_terms.specs.declared.term.NewTerm.TheOpen.{NewTerm-F as new}
use Rattle.rule_terms.specs.declared.term.NewTerm.TheViews.{roll-NewTerm}
use Rattle.rule_terms.specs.declared.term.NewTerm.TheFolds.{fold-roll-NewTerm, map-NewTerm}
use Rattle.rule_terms.specs.Meaning.{all_ones, layer_meaning, meaning}
use Rattle.rule_terms.specs.Names.{has_name, names_of, layer_names, is_over, is_layer_over}
use Rattle.positions.specs.Numbering.{Numbered}
use Rattle.rule_says.specs.Reading.{held_in, AreLegal, IsNumbering}
use Rattle.rule_says.specs.Saying.{IsSet, Has, IsSpokenOf, Says, IsWord, IsUnless, Shifted}
use Rattle.rule_says.proofs.Held.{set_bit, bit_set, mask_bits, mask_at, has_at_set, legal_bit}

-- ---- names

name_first : (xs ys : List PosId) (q : PosId) → IsTrue (has_name (xs ++ ys) q) ↔ (IsTrue (has_name xs q) ⊎ IsTrue (has_name ys q))
name_first xs ys q = (
  λ h. or_cases (has_name xs q) (has_name ys q) (sym (list_any-append (λ r. q.0 == r.0) xs ys) ∙ h),
  λ h. list_any-append (λ r. q.0 == r.0) xs ys ∙ either h,
)
  where
    either : IsTrue (has_name xs q) ⊎ IsTrue (has_name ys q) → (has_name xs q || has_name ys q) ≡ true
    either (inl a) = or_left (has_name xs q) (has_name ys q) a
    either (inr b) = or_right (has_name xs q) (has_name ys q) b

-- a number other than 0 has a bit
pub some_bit : (n : ℕ) → n < 2 ^ 64 → (n == 0) ≡ false → (bit : ℕ) × (bit < 64) × IsSet n bit
some_bit n l e =
    let more : 0 < n = positive n e in
    let w = bit_at-trailing_zeros w64 n more l in
    (_, w.0, w.1)
  where
    positive : (n : ℕ) → (n == 0) ≡ false → 0 < n
    positive zero e = absurd (cc)
    positive (suc n) e = omega arith

clash : {A : Type 0} → true ≡ false → A
clash e = absurd (cc)

module _ (m : Module) (ps : Numbered) where
  -- ---- what is spoken of

  spoken_or : (S R : Fact → Type 0) (q : PosId) → IsSpokenOf m ps (λ y. S y ⊎ R y) q ↔ (IsSpokenOf m ps S q ⊎ IsSpokenOf m ps R q)
  spoken_or S R q = (down, up)
    where
      down : IsSpokenOf m ps (λ y. S y ⊎ R y) q → IsSpokenOf m ps S q ⊎ IsSpokenOf m ps R q
      down w = elim w.4 [
        | inl s ↦ inl (w.0, w.1, w.2, w.3, s)
        | inr r ↦ inr (w.0, w.1, w.2, w.3, r)
      ]

      up : IsSpokenOf m ps S q ⊎ IsSpokenOf m ps R q → IsSpokenOf m ps (λ y. S y ⊎ R y) q
      up (inl w) = (w.0, w.1, w.2, w.3, inl w.4)
      up (inr w) = (w.0, w.1, w.2, w.3, inr w.4)

  pub spoken_as : (S R : Fact → Type 0) → ((p : Pos) (bit : ℕ) → is_bit m p bit ≡ true → S (fact p bit) → R (fact p bit)) → (q : PosId) →
      IsSpokenOf m ps S q → IsSpokenOf m ps R q
  spoken_as S R h q w = (w.0, w.1, w.2, w.3, h w.0 w.1 w.3 w.4)

  -- ---- a term by its layer

  pub over_as : (x : new NewTerm) → is_layer_over (length ps.list) (map-NewTerm NewTerm Bool (is_over (length ps.list)) x) ≡ true →
      is_over (length ps.list) (roll-NewTerm x) ≡ true
  over_as x e = fold-roll-NewTerm Bool (is_layer_over (length ps.list)) x ∙ e

  pub means_as : (word : ℕ → ℕ) (x : new NewTerm) (bit : ℕ) (A : Type 0) →
      IsSet (layer_meaning word (map-NewTerm NewTerm ℕ (meaning word) x)) bit ↔ A → IsSet (meaning word (roll-NewTerm x)) bit ↔ A
  means_as word x bit A h = subst (λ w. IsSet w bit ↔ A) (sym (fold-roll-NewTerm ℕ (layer_meaning word) x)) h

  pub names_as : (x : new NewTerm) (q : PosId) (A : Type 0) →
      IsTrue (has_name (layer_names (map-NewTerm NewTerm (List PosId) names_of x)) q) ↔ A → IsTrue (has_name (names_of (roll-NewTerm x)) q) ↔ A
  names_as x q A h = subst (λ xs. IsTrue (has_name xs q) ↔ A) (sym (fold-roll-NewTerm (List PosId) layer_names x)) h

  -- ---- constants, and, or

  pub says_bits : (bits given : ℕ) → Says m ps bits (roll-NewTerm (new.Const given)) (λ held bit. IsSet given bit) (λ y. ⊥)
  says_bits bits given = record {
    over = over_as (new.Const given) refl;
    means = λ word legal bit l set. means_as word (new.Const given) bit (IsSet given bit) ((λ h. h), λ h. h);
    named = λ q. names_as (new.Const given) q (IsSpokenOf m ps (λ y. ⊥) q) ((λ h. absurd (cc)), λ w. absurd w.4);
  }

  module _ (bits : ℕ) (a b : NewTerm) (A B : (Fact → Bool) → ℕ → Type 0) (S R : Fact →
      Type 0) (left : Says m ps bits a A S) (right : Says m ps bits b B R) where
    names_both : (q : PosId) → IsTrue (has_name (names_of a ++ names_of b) q) ↔ IsSpokenOf m ps (λ y. S y ⊎ R y) q
    names_both q = (
      λ h. (spoken_or S R q).1 (down ((name_first (names_of a) (names_of b) q).0 h)),
      λ w. (name_first (names_of a) (names_of b) q).1 (up ((spoken_or S R q).0 w)),
    )
      where
        down : IsTrue (has_name (names_of a) q) ⊎ IsTrue (has_name (names_of b) q) → IsSpokenOf m ps S q ⊎ IsSpokenOf m ps R q
        down (inl x) = inl ((left.named q).0 x)
        down (inr x) = inr ((right.named q).0 x)

        up : IsSpokenOf m ps S q ⊎ IsSpokenOf m ps R q → IsTrue (has_name (names_of a) q) ⊎ IsTrue (has_name (names_of b) q)
        up (inl x) = inl ((left.named q).1 x)
        up (inr x) = inr ((right.named q).1 x)

    pub says_and : Says m ps bits (roll-NewTerm (new.And a b)) (λ held bit. A held bit × B held bit) (λ y. S y ⊎ R y)
    says_and = record {
      over = over_as (new.And a b) (and_from (is_over (length ps.list) a) (is_over (length ps.list) b) left.over right.over);
      means = λ word legal bit l set. means_as word (new.And a b) bit (A (held_in ps word) bit × B (held_in ps word) bit) (
        (λ h. (
          (left.means word legal bit l set).0 (both_set (meaning word a) (meaning word b) bit h).0,
          (right.means word legal bit l set).0 (both_set (meaning word a) (meaning word b) bit h).1,
        )),
        λ w. set_both (meaning word a) (meaning word b) bit ((left.means word legal bit l set).1 w.0) ((right.means word legal bit l set).1 w.1),
      );
      named = λ q. names_as (new.And a b) q (IsSpokenOf m ps (λ y. S y ⊎ R y) q) (names_both q);
    }
      where
        both_set : (u v bit : ℕ) → IsSet (bit_and u v) bit → IsSet u bit × IsSet v bit
        both_set u v bit h =
            let e = bit_at_and u v bit in
            (omega (arith, h, e, bit_at-lt u bit, bit_at-lt v bit), omega (arith, h, e, bit_at-lt u bit, bit_at-lt v bit))

        set_both : (u v bit : ℕ) → IsSet u bit → IsSet v bit → IsSet (bit_and u v) bit
        set_both u v bit g h = let e = bit_at_and u v bit in omega (arith, g, h, e)

    pub says_or : Says m ps bits (roll-NewTerm (new.Or a b)) (λ held bit. A held bit ⊎ B held bit) (λ y. S y ⊎ R y)
    says_or = record {
      over = over_as (new.Or a b) (and_from (is_over (length ps.list) a) (is_over (length ps.list) b) left.over right.over);
      means = λ word legal bit l set. means_as word (new.Or a b) bit (A (held_in ps word) bit ⊎ B (held_in ps word) bit) (
        (λ h. down word legal bit l set (some_set (meaning word a) (meaning word b) bit h)),
        λ w. set_some (meaning word a) (meaning word b) bit (up word legal bit l set w),
      );
      named = λ q. names_as (new.Or a b) q (IsSpokenOf m ps (λ y. S y ⊎ R y) q) (names_both q);
    }
      where
        some_set : (u v bit : ℕ) → IsSet (bit_or u v) bit → IsSet u bit ⊎ IsSet v bit
        some_set u v bit h =
            let e = bit_at_or u v bit in
            elim (cases_lt (bit_at u bit) 1) [
              | inl none ↦ inr (omega (arith, h, e, none, bit_at-lt v bit))
              | inr one ↦ inl (omega (arith, one, bit_at-lt u bit))
            ]

        set_some : (u v bit : ℕ) → IsSet u bit ⊎ IsSet v bit → IsSet (bit_or u v) bit
        set_some u v bit (inl h) = let e = bit_at_or u v bit in omega (arith, h, e, bit_at-lt v bit)
        set_some u v bit (inr h) = let e = bit_at_or u v bit in omega (arith, h, e, bit_at-lt u bit)

        down : (word : ℕ → ℕ) → AreLegal ps word → (bit : ℕ) → bit < 64 → IsSet bits bit →
            IsSet (meaning word a) bit ⊎ IsSet (meaning word b) bit → A (held_in ps word) bit ⊎ B (held_in ps word) bit
        down word legal bit l set (inl h) = inl ((left.means word legal bit l set).0 h)
        down word legal bit l set (inr h) = inr ((right.means word legal bit l set).0 h)

        up : (word : ℕ → ℕ) → AreLegal ps word → (bit : ℕ) → bit < 64 → IsSet bits bit →
            A (held_in ps word) bit ⊎ B (held_in ps word) bit → IsSet (meaning word a) bit ⊎ IsSet (meaning word b) bit
        up word legal bit l set (inl h) = inl ((left.means word legal bit l set).1 h)
        up word legal bit l set (inr h) = inr ((right.means word legal bit l set).1 h)

  -- ---- the same, said otherwise

  pub says_iff : (bits : ℕ) (t : NewTerm) (A B : (Fact → Bool) → ℕ → Type 0) (S R : Fact → Type 0) → Says m ps bits t A S →
      ((held : Fact → Bool) (bit : ℕ) → IsSet bits bit → A held bit ↔ B held bit) → ((y : Fact) → S y ↔ R y) → Says m ps bits t B R
  says_iff bits t A B S R says asks speaks = record {
    over = says.over;
    means = λ word legal bit l set. (
      (λ h. (asks (held_in ps word) bit set).0 ((says.means word legal bit l set).0 h)),
      λ w. (says.means word legal bit l set).1 ((asks (held_in ps word) bit set).1 w),
    );
    named = λ q. (
      (λ h. spoken_as S R (λ p bit is. (speaks (fact p bit)).0) q ((says.named q).0 h)),
      λ w. (says.named q).1 (spoken_as R S (λ p bit is. (speaks (fact p bit)).1) q w),
    );
  }

  -- ---- words and tests

  module _ (is : IsNumbering m ps) where
    pub says_word : (bits : ℕ) (t : NewTerm) (p : Pos) → IsWord ps bits t p →
        Says m ps bits t (λ held bit. Has held p bit) (λ y. (y.pos ≡ p) × IsSet bits y.bit)
    says_word bits t p w = by (bit_and (slice_index ps.masks w.number.0) bits == 0) refl w.term
      where
        mask : ℕ
        mask = slice_index ps.masks w.number.0

        asked : ℕ
        asked = bit_and mask bits

        none_asked : (asked == 0) ≡ true → (bit : ℕ) → is_bit m p bit ≡ true → IsSet bits bit → ⊥
        none_asked e bit has set =
            let one : IsSet mask bit = (mask_bits m ps is w.number.0 p w.is bit).1 has in
            let and = bit_at_and mask bits bit in
            let nothing : bit_at asked bit ≡ 0 = ap (λ n. bit_at n bit) (eqb-true asked 0 e) ∙ bit_at-zero bit in
            omega (arith, one, set, and, nothing)

        asked_small : asked < 2 ^ 64
        asked_small =
            let less = and_le_l mask bits in
            let same = mask_at m ps is w.number.0 p w.is in
            let small = word_of-lt (is_bit m p) 47 in
            omega (arith, less, same, small)

        spoken : Fact → Type 0
        spoken y = (y.pos ≡ p) × IsSet bits y.bit

        by : (b : Bool) → (bit_and (slice_index ps.masks w.number.0) bits == 0) ≡ b →
            t ≡ (if b then roll-NewTerm (new.Const 0) else roll-NewTerm (new.Word w.number)) → Says m ps bits t (λ held bit. Has held p bit) (λ y. (y.pos ≡ p) ×
            IsSet bits y.bit)
        by true e f = subst (λ u. Says m ps bits u (λ held bit. Has held p bit) spoken) (sym f) (record {
          over = over_as (new.Const 0) refl;
          means = λ word legal bit l set. means_as word (new.Const 0) bit (Has (held_in ps word) p bit) (
            (λ h. absurd (let z = bit_at-zero bit in omega (arith, h, z))),
            λ h. absurd (none_asked e bit (legal_bit m ps is word legal (fact p bit) h) set),
          );
          named = λ q. names_as (new.Const 0) q (IsSpokenOf m ps spoken q) (
            (λ h. absurd (cc)),
            λ v. absurd (none_asked e v.1 (subst (λ r. is_bit m r v.1 ≡ true) v.4.0 v.3) v.4.1),
          );
        })
        by false e f = subst (λ u. Says m ps bits u (λ held bit. Has held p bit) spoken) (sym f) (record {
          over = over_as (new.Word w.number) (lt-ltb w.number.0 (length ps.list) (slice_get_within ps.list w.number.0 p w.is));
          means = λ word legal bit l set. means_as word (new.Word w.number) bit (Has (held_in ps word) p bit) (has_at_set m ps is word w.number.0 p w.is bit);
          named = λ q. names_as (new.Word w.number) q (IsSpokenOf m ps spoken q) (
            (λ h. named_down q (or_cases (q.0 == w.number.0) false h)),
            λ v. or_left (q.0 == w.number.0) false (eq-eqb q.0 w.number.0
                (is.positions.once q.0 w.number.0 p (subst (λ r. slice_get ps.list q.0 ≡ Some r) v.4.0 v.2) w.is)),
          );
        })
          where
            named_down : (q : PosId) → ((q.0 == w.number.0) ≡ true) ⊎ (false ≡ true) → IsSpokenOf m ps spoken q
            named_down q (inl h) =
                let same = eqb-true q.0 w.number.0 h in
                let one = some_bit asked asked_small e in
                let and = bit_at_and mask bits one.0 in
                let set = one.2 in
                let in_mask : IsSet mask one.0 = omega (arith, set, and, bit_at-lt mask one.0, bit_at-lt bits one.0) in
                let in_bits : IsSet bits one.0 = omega (arith, set, and, bit_at-lt mask one.0, bit_at-lt bits one.0) in
                (p, one.0, subst (λ n. slice_get ps.list n ≡ Some p) (sym same) w.is, (mask_bits m ps is w.number.0 p w.is one.0).0 in_mask, (refl, in_bits))
            named_down q (inr h) = absurd (cc)

    pub says_unless : (bits : ℕ) (t : NewTerm) (p : Pos) (tested : ℕ) (then' : NewTerm) (A : (Fact → Bool) → ℕ → Type 0) (S : Fact → Type 0) → tested < 64 →
        IsUnless ps t p tested then' → Says m ps bits then' A S →
        Says m ps bits t (λ held bit. Has held p tested ⊎ A held bit) (λ y. (y ≡ fact p tested) ⊎ S y)
    says_unless bits t p tested then' A S small w says = by (has_bit (slice_index ps.masks w.number.0) tested) refl w.term
      where
        asks : (Fact → Bool) → ℕ → Type 0
        asks held bit = Has held p tested ⊎ A held bit

        spoken : Fact → Type 0
        spoken y = (y ≡ fact p tested) ⊎ S y

        masked : has_bit (slice_index ps.masks w.number.0) tested ≡ true → is_bit m p tested ≡ true
        masked e = (mask_bits m ps is w.number.0 p w.is tested).0 (set_bit (slice_index ps.masks w.number.0) tested e)

        none_masked : has_bit (slice_index ps.masks w.number.0) tested ≡ false → is_bit m p tested ≡ true → ⊥
        none_masked e has = both_ways (has_bit (slice_index ps.masks w.number.0) tested) e
            (bit_set (slice_index ps.masks w.number.0) tested ((mask_bits m ps is w.number.0 p w.is tested).1 has))

        means_down : (word : ℕ → ℕ) → AreLegal ps word → (bit : ℕ) → bit < 64 → IsSet bits bit → (b : Bool) → (bit_at (word w.number.0) tested == 1) ≡ b →
            IsSet (if b then all_ones else meaning word then') bit → asks (held_in ps word) bit
        means_down word legal bit l set true e h = inl ((has_at_set m ps is word w.number.0 p w.is tested).0 (eqb-true (bit_at (word w.number.0) tested) 1 e))
        means_down word legal bit l set false e h = inr ((says.means word legal bit l set).0 h)

        means_up : (word : ℕ → ℕ) → AreLegal ps word → (bit : ℕ) → bit < 64 → IsSet bits bit → (b : Bool) → (bit_at (word w.number.0) tested == 1) ≡ b →
            asks (held_in ps word) bit → IsSet (if b then all_ones else meaning word then') bit
        means_up word legal bit l set true e h = bit_at_ones 64 bit l
        means_up word legal bit l set false e (inl h) =
            absurd (both_ways (bit_at (word w.number.0) tested == 1) e
            (eq-eqb (bit_at (word w.number.0) tested) 1 ((has_at_set m ps is word w.number.0 p w.is tested).1 h)))
        means_up word legal bit l set false e (inr h) = (says.means word legal bit l set).1 h

        named_down : (q : PosId) → has_bit (slice_index ps.masks w.number.0) tested ≡ true →
            ((q.0 == w.number.0) ≡ true) ⊎ (has_name (names_of then') q ≡ true) →
            IsSpokenOf m ps spoken q
        named_down q e (inl h) =
            (p, tested, subst (λ n. slice_get ps.list n ≡ Some p) (sym (eqb-true q.0 w.number.0 h)) w.is, masked e, inl refl)
        named_down q e (inr h) = spoken_as S spoken (λ r bit has s. inr s) q ((says.named q).0 h)

        named_up : (q : PosId) → IsSpokenOf m ps spoken q → ((q.0 == w.number.0) || has_name (names_of then') q) ≡ true
        named_up q v = elim v.4 [
          | inl same ↦ or_left (q.0 == w.number.0) (has_name (names_of then') q) (eq-eqb q.0 w.number.0
              (is.positions.once q.0 w.number.0 p (subst (λ r. slice_get ps.list q.0 ≡ Some r) (ap (λ (y : Fact). y.pos) same) v.2) w.is))
          | inr s ↦ or_right (q.0 == w.number.0) (has_name (names_of then') q) ((says.named q).1 (v.0, v.1, v.2, v.3, s))
        ]

        skipped : (q : PosId) → has_bit (slice_index ps.masks w.number.0) tested ≡ false → IsSpokenOf m ps spoken q → IsSpokenOf m ps S q
        skipped q e v = elim v.4 [
          | inl same ↦ absurd (none_masked e (subst (λ y. is_bit m y.pos y.bit ≡ true) same v.3))
          | inr s ↦ (v.0, v.1, v.2, v.3, s)
        ]

        not_held : (word : ℕ → ℕ) → AreLegal ps word → (bit : ℕ) → has_bit (slice_index ps.masks w.number.0) tested ≡ false →
            asks (held_in ps word) bit → A (held_in ps word) bit
        not_held word legal bit e (inl h) = absurd (none_masked e (legal_bit m ps is word legal (fact p tested) h))
        not_held word legal bit e (inr h) = h

        by : (b : Bool) → has_bit (slice_index ps.masks w.number.0) tested ≡ b → t ≡ (if b then roll-NewTerm (new.Unless w.number tested then') else then') →
            Says m ps bits t (λ held bit. Has held p tested ⊎ A held bit) (λ y. (y ≡ fact p tested) ⊎ S y)
        by true e f = subst (λ u. Says m ps bits u asks spoken) (sym f) (record {
          over = over_as (new.Unless w.number tested then') (and_from (nat_lt w.number.0 (length ps.list) && nat_lt tested 64) (is_over (length ps.list) then')
              (and_from (nat_lt w.number.0 (length ps.list)) (nat_lt tested 64)
              (lt-ltb w.number.0 (length ps.list) (slice_get_within ps.list w.number.0 p w.is)) (lt-ltb tested 64 small))
              says.over);
          means = λ word legal bit l set. means_as word (new.Unless w.number tested then') bit (asks (held_in ps word) bit) (
            means_down word legal bit l set (bit_at (word w.number.0) tested == 1) refl,
            means_up word legal bit l set (bit_at (word w.number.0) tested == 1) refl,
          );
          named = λ q. names_as (new.Unless w.number tested then') q (IsSpokenOf m ps spoken q) (
            (λ h. named_down q e (or_cases (q.0 == w.number.0) (has_name (names_of then') q) h)),
            named_up q,
          );
        })
        by false e f = subst (λ u. Says m ps bits u asks spoken) (sym f) (record {
          over = says.over;
          means = λ word legal bit l set. (
            (λ h. inr ((says.means word legal bit l set).0 h)),
            λ h. (says.means word legal bit l set).1 (not_held word legal bit e h),
          );
          named = λ q. (
            (λ h. spoken_as S spoken (λ r bit has s. inr s) q ((says.named q).0 h)),
            λ v. (says.named q).1 (skipped q e v),
          );
        })

  -- ---- one bit for others, and after an offset

  pub says_spread : (bits inner bit to : ℕ) (of : NewTerm) (A : (Fact → Bool) → ℕ → Type 0) (S : Fact → Type 0) → bit < 64 → IsSet inner bit →
      Says m ps inner of A S →
      Says m ps bits (roll-NewTerm (new.Spread bit to of)) (λ held b. A held bit × IsSet to b) S
  says_spread bits inner bit to of A S small asked says = record {
    over = over_as (new.Spread bit to of) (and_from (nat_lt bit 64) (is_over (length ps.list) of) (lt-ltb bit 64 small) says.over);
    means = λ word legal b l set. means_as word (new.Spread bit to of) b (A (held_in ps word) bit × IsSet to b) (
      down word legal b (bit_at (meaning word of) bit == 1) refl,
      up word legal b (bit_at (meaning word of) bit == 1) refl,
    );
    named = λ q. names_as (new.Spread bit to of) q (IsSpokenOf m ps S q) (says.named q);
  }
    where
      down : (word : ℕ → ℕ) → AreLegal ps word → (b : ℕ) → (test : Bool) → (bit_at (meaning word of) bit == 1) ≡ test →
          IsSet (if test then to else 0) b → A (held_in ps word) bit × IsSet to b
      down word legal b true e h = ((says.means word legal bit small asked).0 (eqb-true (bit_at (meaning word of) bit) 1 e), h)
      down word legal b false e h = absurd (let z = bit_at-zero b in omega (arith, h, z))

      up : (word : ℕ → ℕ) → AreLegal ps word → (b : ℕ) → (test : Bool) → (bit_at (meaning word of) bit == 1) ≡ test →
          A (held_in ps word) bit × IsSet to b → IsSet (if test then to else 0) b
      up word legal b true e w = w.1
      up word legal b false e w = absurd
          (both_ways (bit_at (meaning word of) bit == 1) e (eq-eqb (bit_at (meaning word of) bit) 1 ((says.means word legal bit small asked).1 w.0)))
