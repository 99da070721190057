-- A value goes by the bits that are read alone.
use Rattle.std.proofs.Common.{◌≡◌, ℕ, zero, suc, ◌^◌, ◌<◌, Bool, true, false, cond, eqb, eq-eqb, eqb-true, ◌&&◌, nat_lt, List, [], ◌∷◌, length, slice_index}
use Rattle.std.proofs.Common.{All, bit_and, bit_or, refl, ap, sym, ◌∙◌, subst, arith, inl, inr}
use Rattle.std.specs.List.{fold}
use Rattle.std.specs.Int.{bit_at}
use Rattle.std.proofs.lemmas.Bool.{and_parts, and_from, ltb-true, le-leb, cond-true, cases_Bool, cases_eq, cases_lt}
use Rattle.std.proofs.lemmas.List.Elements.{All-head, All-tail, All-get_or}
use Rattle.std.proofs.lemmas.List.{get_or_past}
use Rattle.std.proofs.lemmas.Nat.{and_le_l}
use Rattle.std.proofs.lemmas.Nat.Bits.{bit_at_and, bit_at_or, bit_at-lt, bit_at-zero, bit_at-pow_same, bit_at_mask_below, bit_at_mask_above}
use Rattle.std.proofs.lemmas.Nat.Bits.{same_from_bits_below}
use Rattle.lattice_words.specs.declared.word.TheConstants.{FACT_BITS}
use Rattle.lattice_words.specs.Ladders.{shift_of, is_byte_bit}
use Rattle.lattice_words.specs.declared.value.TheConstants.{ALL_BYTES}
use Rattle.lattice_words.proofs.LadderBits.{bit_at-shift_of-other, byte_bit}
use Rattle.lattice_words.proofs.Locality.{same_after_shift, same_after_step}
use Rattle.attr_ids.specs.declared.ids.PosId.{PosId}
use Rattle.rule_terms.specs.declared.term.NewTerm.{NewTerm}
use Rattle.rule_terms.specs.declared.term.NewTerm.TheOpen.{NewTerm-F}
use Rattle.rule_terms.specs.declared.term.NewTerm.TheOpen.NewTerm-F.{Const, Word, And, Or, Unless, Shift, KeepAlign, Spread}
use Rattle.rule_terms.specs.declared.term.NewTerm.TheViews.{roll-NewTerm}
use Rattle.rule_terms.specs.declared.term.NewTerm.TheFolds.{fold-roll-NewTerm, ind-NewTerm, map-NewTerm}
use Rattle.rule_terms.specs.Meaning.{all_ones, layer_meaning, meaning, meet_of}
use Rattle.rule_terms.specs.Names.{is_layer_over, is_over}
use Rattle.rule_terms.specs.Reads.{with_byte_bits, layer_reads, reads_of, reads_by, reads_at, AgreeOn}
use Rattle.rule_terms.specs.System.{System, IsSystem, terms_at, value, value_at, inputs_of, looked_word}
use Rattle.rule_terms.specs.Slots.{input_at}
use Rattle.rule_terms.proofs.Monotone.{terms-over}

-- ---- bits
or_left : (a b i : ℕ) → bit_at a i ≡ 1 → bit_at (bit_or a b) i ≡ 1
or_left a b i is = omega (arith, bit_at_or a b i, is, bit_at-lt b i)

or_right : (a b i : ℕ) → bit_at b i ≡ 1 → bit_at (bit_or a b) i ≡ 1
or_right a b i is = omega (arith, bit_at_or a b i, is, bit_at-lt a i)

-- agreement on more is agreement on less
pub agree_left : (a b x y : ℕ) → AgreeOn (bit_or a b) x y → AgreeOn a x y
agree_left a b x y h i l is = h i l (or_left a b i is)

pub agree_right : (a b x y : ℕ) → AgreeOn (bit_or a b) x y → AgreeOn b x y
agree_right a b x y h i l is = h i l (or_right a b i is)

agree_same : (a b x y : ℕ) → a ≡ b → AgreeOn a x y → AgreeOn b x y
agree_same a b x y e h = subst (λ w. AgreeOn w x y) e h

bit_byte : (i : ℕ) → bit_at ALL_BYTES i ≡ 1 → is_byte_bit i ≡ true
bit_byte i is = elim (cases_lt i 23) [
  | inl low ↦ absurd (omega (arith, is, bit_at_mask_below 23 39 i low))
  | inr above ↦ elim (cases_lt i 39) [
    | inl inside ↦ and_from _ _ (le-leb 23 i above) (le-leb i 38 (omega arith))
    | inr high ↦ absurd (omega (arith, is, bit_at_mask_above 23 39 i high))
  ]
]

-- the wanted bits are among those with the rungs
wanted_among : (wanted i : ℕ) → bit_at wanted i ≡ 1 → bit_at (with_byte_bits wanted) i ≡ 1
wanted_among wanted i is = by_case (eqb (bit_and wanted ALL_BYTES) 0) where
  by_case : (b : Bool) → bit_at (cond b wanted (bit_or wanted ALL_BYTES)) i ≡ 1
  by_case true = is
  by_case false = or_left wanted ALL_BYTES i is

-- where a rung is wanted, all rungs are among them
rungs_among : (wanted i j : ℕ) → bit_at wanted i ≡ 1 → is_byte_bit i ≡ true → is_byte_bit j ≡ true → bit_at (with_byte_bits wanted) j ≡ 1
rungs_among wanted i j is rung other = by_case (eqb (bit_and wanted ALL_BYTES) 0) refl where
  by_case : (b : Bool) → eqb (bit_and wanted ALL_BYTES) 0 ≡ b → bit_at (cond b wanted (bit_or wanted ALL_BYTES)) j ≡ 1
  by_case true e =
      let none : bit_and wanted ALL_BYTES ≡ 0 = eqb-true (bit_and wanted ALL_BYTES) 0 e in
      absurd (omega (arith, bit_at_and wanted ALL_BYTES i, ap (λ x. bit_at x i) none, bit_at-zero i, is, byte_bit i rung))
  by_case false e = or_right wanted ALL_BYTES j (byte_bit j other)

shift_agrees : (bytes wanted x y : ℕ) → AgreeOn (with_byte_bits wanted) x y → AgreeOn wanted (shift_of bytes x) (shift_of bytes y)
shift_agrees bytes wanted x y h i l is = elim (cases_Bool (is_byte_bit i)) [
  | inl rung ↦ same_after_shift bytes x y (λ j m on. h j m (rungs_among wanted i j is rung on)) i l rung
  | inr other ↦ bit_at-shift_of-other bytes x i l other ∙ h i l (wanted_among wanted i is) ∙ sym (bit_at-shift_of-other bytes y i l other)
]

same_test : (x y bit : ℕ) → bit_at x bit ≡ bit_at y bit → eqb (bit_at x bit) 1 ≡ eqb (bit_at y bit) 1
same_test x y bit e = ap (λ b. eqb b 1) e

cond_agrees : (b : Bool) (w z x y : ℕ) → AgreeOn w x y → AgreeOn w (cond b z x) (cond b z y)
cond_agrees true w z x y h = λ i l is. refl
cond_agrees false w z x y h = h

-- ---- terms
module _ (count : ℕ) (words others : ℕ → ℕ) where
  abbrev IsLocalAt : NewTerm → Type 0
  IsLocalAt t = is_over count t ≡ true → (wanted : ℕ) → ((q : ℕ) → AgreeOn (reads_of q t wanted) (words q) (others q)) →
      AgreeOn wanted (meaning words t) (meaning others t)

  local_layer : (x : NewTerm-F NewTerm) →
      (is_layer_over count (map-NewTerm NewTerm Bool (is_over count) x) ≡ true → (wanted : ℕ) →
      ((q : ℕ) → AgreeOn (layer_reads q (map-NewTerm NewTerm (ℕ → ℕ) (reads_of q) x) wanted) (words q) (others q)) →
      AgreeOn wanted (layer_meaning words (map-NewTerm NewTerm ℕ (meaning words) x)) (layer_meaning others (map-NewTerm NewTerm ℕ (meaning others) x))) →
      IsLocalAt (roll-NewTerm x)
  local_layer x h over wanted agree i l is =
      ap (λ w. bit_at w i) (fold-roll-NewTerm ℕ (layer_meaning words) x)
      ∙ h (sym (fold-roll-NewTerm Bool (is_layer_over count) x) ∙ over) wanted
      (λ q. agree_same (reads_of q (roll-NewTerm x) wanted) (layer_reads q (map-NewTerm NewTerm (ℕ →
      ℕ) (reads_of q) x) wanted) (words q) (others q) (ap (λ f. f wanted) (fold-roll-NewTerm (ℕ → ℕ) (layer_reads q) x)) (agree q)) i l is
      ∙ ap (λ w. bit_at w i) (sym (fold-roll-NewTerm ℕ (layer_meaning others) x))

  layers : (y : NewTerm-F ((t : NewTerm) × IsLocalAt t)) → IsLocalAt (roll-NewTerm (map-NewTerm ((t : NewTerm) × IsLocalAt t) NewTerm (λ e. e.0) y))
  layers (Const bits) = local_layer (Const bits) (λ over wanted agree i l is. refl)
  layers (Word p) = local_layer (Word p) (λ over wanted agree.
      agree_same (cond (eqb p.0 p.0) wanted 0) wanted (words p.0) (others p.0) (cond-true (eqb p.0 p.0) wanted 0 (eq-eqb p.0 p.0 refl)) (agree p.0))
  layers (And left right) = local_layer (And left.0 right.0) (λ over wanted agree i l is.
      let parts = and_parts (is_over count left.0) (is_over count right.0) over in
      let first = left.1 parts.0 wanted (λ q. agree_left (reads_of q left.0 wanted) (reads_of q right.0 wanted) (words q) (others q) (agree q)) i l is in
      let second = right.1 parts.1 wanted (λ q. agree_right (reads_of q left.0 wanted) (reads_of q right.0 wanted) (words q) (others q) (agree q)) i l is in
      bit_at_and (meaning words left.0) (meaning words right.0) i ∙ rw (first, second) (sym (bit_at_and (meaning others left.0) (meaning others right.0) i)))
  layers (Or left right) = local_layer (Or left.0 right.0) (λ over wanted agree i l is.
      let parts = and_parts (is_over count left.0) (is_over count right.0) over in
      let first = left.1 parts.0 wanted (λ q. agree_left (reads_of q left.0 wanted) (reads_of q right.0 wanted) (words q) (others q) (agree q)) i l is in
      let second = right.1 parts.1 wanted (λ q. agree_right (reads_of q left.0 wanted) (reads_of q right.0 wanted) (words q) (others q) (agree q)) i l is in
      bit_at_or (meaning words left.0) (meaning words right.0) i ∙ rw (first, second) (sym (bit_at_or (meaning others left.0) (meaning others right.0) i)))
  layers (Unless input bit then') = local_layer (Unless input bit then'.0) (λ over wanted agree.
      let outer = and_parts (nat_lt input.0 count && nat_lt bit 64) (is_over count then'.0) over in
      let small = ltb-true bit 64 (and_parts (nat_lt input.0 count) (nat_lt bit 64) outer.0).1 in
      let tested : bit_at (cond (eqb input.0 input.0) (2 ^ bit) 0) bit ≡ 1 =
      ap (λ w. bit_at w bit) (cond-true (eqb input.0 input.0) (2 ^ bit) 0 (eq-eqb input.0 input.0 refl)) ∙ bit_at-pow_same bit in
      let one : bit_at (words input.0) bit ≡ bit_at (others input.0) bit =
      agree input.0 bit small (or_left (cond (eqb input.0 input.0) (2 ^ bit) 0) (reads_of input.0 then'.0 wanted) bit tested) in
      let part : AgreeOn wanted (meaning words then'.0) (meaning others then'.0) =
      then'.1 outer.1 wanted (λ q. agree_right (cond (eqb input.0 q) (2 ^ bit) 0) (reads_of q then'.0 wanted) (words q) (others q) (agree q)) in
      subst (λ b. AgreeOn wanted (cond (eqb (bit_at (words input.0) bit) 1) all_ones (meaning words then'.0)) (cond b all_ones (meaning others then'.0)))
      (same_test (words input.0) (others input.0) bit one) (cond_agrees (eqb (bit_at (words input.0) bit) 1) wanted all_ones (meaning words then'.0)
      (meaning others then'.0) part))
  layers (Shift bytes of) = local_layer (Shift bytes of.0) (λ over wanted agree.
      shift_agrees bytes wanted (meaning words of.0) (meaning others of.0) (of.1 over (with_byte_bits wanted) agree))
  layers (KeepAlign step of) = local_layer (KeepAlign step of.0) (λ over wanted agree i l is.
      same_after_step step (meaning words of.0) (meaning others of.0) i l (of.1 over wanted agree i l is))
  layers (Spread bit to of) = local_layer (Spread bit to of.0) (λ over wanted agree i l is.
      let parts = and_parts (nat_lt bit 64) (is_over count of.0) over in
      let one : bit_at (meaning words of.0) bit ≡ bit_at (meaning others of.0) bit =
      of.1 parts.1 (2 ^ bit) agree bit (ltb-true bit 64 parts.0) (bit_at-pow_same bit) in
      ap (λ b. bit_at (cond b to 0) i) (same_test (meaning words of.0) (meaning others of.0) bit one))

  -- a term gives the same of the wanted bits where the inputs have the same of the bits that it reads for them
  pub meaning-agrees : (t : NewTerm) → IsLocalAt t
  meaning-agrees = ind-NewTerm IsLocalAt (λ x y is. subst (λ z. IsLocalAt (roll-NewTerm z)) is (layers y))

  -- agreement on what a list of terms reads is agreement on what it starts from
  reads_start : (q wanted start : ℕ) (terms : List NewTerm) →
      AgreeOn (fold (λ bits term. bit_or bits (reads_of q term wanted)) start terms) (words q) (others q) → AgreeOn start (words q) (others q)
  reads_start q wanted start [] h = h
  reads_start q wanted start (term ∷ terms) h =
      agree_left start (reads_of q term wanted) (words q) (others q) (reads_start q wanted (bit_or start (reads_of q term wanted)) terms h)

  pub meet-agrees : (terms : List NewTerm) → All (λ term. is_over count term ≡ true) terms → (wanted : ℕ) (starts : ℕ → ℕ) →
      ((q : ℕ) → AgreeOn (fold (λ bits term. bit_or bits (reads_of q term wanted)) (starts q) terms) (words q) (others q)) →
      (a b : ℕ) → AgreeOn wanted a b → AgreeOn wanted (meet_of words a terms) (meet_of others b terms)
  meet-agrees [] over wanted starts agree a b h = h
  meet-agrees (term ∷ terms) over wanted starts agree a b h =
      let more : ℕ → ℕ = λ q. bit_or (starts q) (reads_of q term wanted) in
      let here : AgreeOn wanted (meaning words term) (meaning others term) =
      meaning-agrees term (All-head (λ t. is_over count t ≡ true) term terms over) wanted
      (λ q. agree_right (starts q) (reads_of q term wanted) (words q) (others q) (reads_start q wanted (more q) terms (agree q))) in
      meet-agrees terms (All-tail (λ t. is_over count t ≡ true) term terms over) wanted more agree (bit_and a (meaning words term))
      (bit_and b (meaning others term))
      (λ i l is. bit_at_and a (meaning words term) i ∙ rw (h i l is, here i l is) (sym (bit_at_and b (meaning others term) i)))

-- ---- systems
-- a position's value has the same facts of its mask where the inputs have the same of what is read
pub value-agrees : (s : System) → IsSystem s → (p : ℕ) (words others : ℕ → ℕ) → ((q : ℕ) → AgreeOn (reads_by s p q) (words q) (others q)) →
    AgreeOn (slice_index s.masks p) (value s p words) (value s p others)
value-agrees s is p words others agree =
    meet-agrees (length s.masks) words others (terms_at s p) (terms-over s is p) (slice_index s.masks p) (λ q. 0) agree (slice_index s.masks p)
    (slice_index s.masks p) (λ i l on. refl)

-- the words that were looked at agree on what is read of each position, where they do on what is read of each input
looked_agrees : (inputs : List PosId) (a b : List ℕ) (reads : ℕ → ℕ) → length a ≡ length inputs → length b ≡ length inputs →
    ((i : ℕ) → i < length inputs → AgreeOn (reads (input_at inputs i).0) (slice_index a i) (slice_index b i)) → (q : ℕ) →
    AgreeOn (reads q) (looked_word inputs a q) (looked_word inputs b q)
looked_agrees [] a b reads long same agree q = λ i l is. refl
looked_agrees (p ∷ ps) [] b reads long same agree q = absurd (omega arith)
looked_agrees (p ∷ ps) (v ∷ vs) [] reads long same agree q = absurd (omega arith)
looked_agrees (p ∷ ps) (v ∷ vs) (w ∷ ws) reads long same agree q =
    by_case (eqb p.0 q) refl (looked_agrees ps vs ws reads (omega arith) (omega arith) (λ i l. agree (suc i) (omega arith)) q) where
      by_case : (b : Bool) → eqb p.0 q ≡ b → AgreeOn (reads q) (looked_word ps vs q) (looked_word ps ws q) →
          AgreeOn (reads q) (cond b v (looked_word ps vs q)) (cond b w (looked_word ps ws q))
      by_case true e rest = subst (λ n. AgreeOn (reads n) v w) (eqb-true p.0 q e) (agree zero (omega arith))
      by_case false e rest = rest

-- words that agree on a mask are equal when cut to it
cut_same : (mask x y : ℕ) → mask < 2 ^ 64 → AgreeOn mask x y → bit_and mask x ≡ bit_and mask y
cut_same mask x y small agree =
    same_from_bits_below 64 (bit_and mask x) (bit_and mask y) (omega (arith, and_le_l mask x)) (omega (arith, and_le_l mask y))
    (λ i l. elim (cases_eq (bit_at mask i) 1) [
      | inl set ↦ omega (arith, bit_at_and mask x i, bit_at_and mask y i, agree i l set)
      | inr unset ↦ omega (arith, bit_at_and mask x i, bit_at_and mask y i, bit_at-lt mask i)
    ])

mask_fits : (s : System) → IsSystem s → (p : ℕ) → slice_index s.masks p < 2 ^ 64
mask_fits s is p = elim (cases_lt p (length s.masks)) [
  | inl within ↦ omega (arith, All-get_or (λ mask. mask < 2 ^ FACT_BITS) s.masks p 0 within is.facts)
  | inr past ↦ omega (arith, get_or_past s.masks p 0 past)
]

pub value_at-agrees : (s : System) → IsSystem s → (p : ℕ) (a b : List ℕ) → length a ≡ length (inputs_of s p) → length b ≡ length (inputs_of s p) →
    ((i : ℕ) → i < length (inputs_of s p) → AgreeOn (reads_at s p i) (slice_index a i) (slice_index b i)) →
    bit_and (slice_index s.masks p) (value_at s p a) ≡ bit_and (slice_index s.masks p) (value_at s p b)
value_at-agrees s is p a b long same agree =
    cut_same (slice_index s.masks p) (value_at s p a) (value_at s p b) (mask_fits s is p)
    (value-agrees s is p (looked_word (inputs_of s p) a) (looked_word (inputs_of s p) b) (looked_agrees (inputs_of s p) a b (reads_by s p) long same agree))
