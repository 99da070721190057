-- What a seat looked at, what a cut leaves, and whom it owes: the parts of the law that a cut keeps the core invariant.
use Rattle.std.proofs.Common.{◌≡◌, ◌⊎◌, ℕ, zero, suc, ◌<◌, Bool, true, false, cond, eqb, eqb-true, List, [], ◌∷◌, length, map, slice_index, slice_get, bit_and}
use Rattle.std.proofs.Common.{Option, Some, None, Contains, refl, ap, sym, ◌∙◌, subst, arith, inl, inr}
use Rattle.std.specs.Int.{bit_at}
use Rattle.std.proofs.lemmas.Bool.{cases_lt}
use Rattle.std.proofs.lemmas.List.{get_or_past, get_or-map, length-map}
use Rattle.std.proofs.lemmas.List.Elements.{Contains-append_right}
use Rattle.std.proofs.lemmas.Nat.Bits.{bit_at_and, bit_at_xor, bit_at-zero, bit_at-lt}
use Rattle.std.proofs.lemmas.Option.{same_Some}
use Rattle.lattice_words.proofs.WordBits.{within_trans}
use Rattle.lattice_words.specs.Words.{IsWithin}
use Rattle.attr_ids.specs.declared.ids.PosId.{PosId}
use Rattle.rule_terms.specs.Greatest.{IsSelfSupporting}
use Rattle.rule_terms.specs.Reads.{AgreeOn}
use Rattle.rule_terms.specs.System.{System, IsSystem, inputs_of, looked_word, value_at, value_in}
use Rattle.rule_terms.proofs.Monotone.{value-within}
use Rattle.rule_terms.proofs.Naming.{value_in-value_at}
use Rattle.dep_graph.specs.Row.{Row}
use Rattle.fix_core.specs.declared.state.CoreState.{CoreState}
use Rattle.fix_core.specs.declared.state.CoreSeat.{CoreSeat}
use Rattle.fix_core.specs.declared.state.CoreMode.TheVariants.{Open}
use Rattle.fix_core.specs.Machine.{facts_of, cut_to, lost_by, readers_of, values_of, has_all}
use Rattle.fix_core.specs.Invariant.{AreLooked, IsMode, IsCore}

-- ---- what was looked at
pub values_long : (looked : List (Option ℕ)) → length (values_of looked) ≡ length looked
values_long [] = refl
values_long (None ∷ looked) = ap suc (values_long looked)
values_long (Some x ∷ looked) = ap suc (values_long looked)

-- each value, where every input was looked at
pub value_looked : (looked : List (Option ℕ)) (i : ℕ) → has_all looked ≡ true → i < length looked →
    slice_get looked i ≡ Some (Some (slice_index (values_of looked) i))
value_looked [] i all l = absurd (omega arith)
value_looked (None ∷ looked) i all l = absurd (cc)
value_looked (Some x ∷ looked) zero all l = refl
value_looked (Some x ∷ looked) (suc i) all l = value_looked looked i all (omega arith)

-- more facts of each input are more facts of each position as it was looked at
looked_within : (inputs : List PosId) (a b : List ℕ) → length a ≡ length b → ((i : ℕ) → IsWithin (slice_index a i) (slice_index b i)) → (q : ℕ) →
    IsWithin (looked_word inputs a q) (looked_word inputs b q)
looked_within [] a b long less q = λ i l. omega arith
looked_within (p ∷ ps) [] [] long less q = λ i l. omega arith
looked_within (p ∷ ps) [] (w ∷ ws) long less q = absurd (omega arith)
looked_within (p ∷ ps) (v ∷ vs) [] long less q = absurd (omega arith)
looked_within (p ∷ ps) (v ∷ vs) (w ∷ ws) long less q = by_case (eqb p.0 q) (looked_within ps vs ws (omega arith) (λ i. less (suc i)) q) where
  by_case : (b : Bool) → IsWithin (looked_word ps vs q) (looked_word ps ws q) → IsWithin (cond b v (looked_word ps vs q)) (cond b w (looked_word ps ws q))
  by_case true rest = less zero
  by_case false rest = rest

-- what is left of a position is monotone in what was looked at
pub value_at-within : (s : System) → IsSystem s → (p : ℕ) (a b : List ℕ) → length a ≡ length b → ((i : ℕ) → IsWithin (slice_index a i) (slice_index b i)) →
    IsWithin (value_at s p a) (value_at s p b)
value_at-within s is p a b long less =
    value-within s is p (looked_word (inputs_of s p) a) (looked_word (inputs_of s p) b) (looked_within (inputs_of s p) a b long less)

-- ---- what is owed
-- a dependent is owed, or it reads none of the lost bits
pub owed_split : (lost : ℕ) (ds : List PosId) (reads : List ℕ) (j : ℕ) (d : PosId) → length reads ≡ length ds → slice_get ds j ≡ Some d →
    Contains (readers_of lost ds reads) d ⊎ (bit_and (slice_index reads j) lost ≡ 0)
owed_split lost [] reads j d long e = cc
owed_split lost (x ∷ xs) [] j d long e = absurd (omega arith)
owed_split lost (x ∷ xs) (bits ∷ reads) zero d long e = by_case (eqb (bit_and bits lost) 0) refl where
  by_case : (b : Bool) → eqb (bit_and bits lost) 0 ≡ b → Contains (cond b (readers_of lost xs reads) (x ∷ readers_of lost xs reads)) d ⊎ (bit_and bits lost ≡ 0)
  by_case true is = inr (eqb-true (bit_and bits lost) 0 is)
  by_case false is = inl (zero, omega arith, same_Some x d e)
owed_split lost (x ∷ xs) (bits ∷ reads) (suc j) d long e = elim (owed_split lost xs reads j d (omega arith) e) [
  | inl has ↦ inl (by_case (eqb (bit_and bits lost) 0) has)
  | inr none' ↦ inr none'
] where
  by_case : (b : Bool) → Contains (readers_of lost xs reads) d → Contains (cond b (readers_of lost xs reads) (x ∷ readers_of lost xs reads)) d
  by_case true has = has
  by_case false has = Contains-append_right (x ∷ []) (readers_of lost xs reads) d has

-- bits that lost nothing of what is read agree on it
pub unread_agree : (bits new word : ℕ) → bit_and bits (lost_by new word) ≡ 0 → AgreeOn bits (facts_of word) (facts_of (cut_to new word))
unread_agree bits new word none' i l on =
    omega (
      arith,
      ap (λ n. bit_at n i) none',
      bit_at_and bits (lost_by new word) i,
      bit_at_xor (facts_of word) (facts_of (cut_to new word)) i,
      bit_at-zero i,
      bit_at-lt (facts_of word) i,
      bit_at-lt (facts_of (cut_to new word)) i,
    )

-- ---- what a cut leaves
module _ (s : System) (g : List Row) (workers : ℕ) (is : IsSystem s) (c : CoreState) (inv : IsCore s g workers c) (w : ℕ) (seat : CoreSeat)
    (at : slice_get c.seats w ≡ Some seat)
    (p : PosId) (looked : List (Option ℕ)) (mode : seat.mode ≡ Open p looked) (all : has_all looked ≡ true) where
  pub looked_list : AreLooked s p.0 looked
  looked_list = subst (IsMode s g) mode (inv.modes w seat at)

  -- what the cut leaves contains every list that supports itself
  pub left_above : (others : List ℕ) → IsSelfSupporting s others → IsWithin (slice_index others p.0) (value_at s p.0 (values_of looked))
  left_above others self =
      let there : List ℕ = map (λ (q : PosId). slice_index others q.0) (inputs_of s p.0) in
      let long : length there ≡ length (values_of looked) = length-map (inputs_of s p.0) (λ (q : PosId). slice_index others q.0) ∙
      (sym looked_list.long ∙ sym (values_long looked)) in
      let less : (i : ℕ) → IsWithin (slice_index there i) (slice_index (values_of looked) i) = λ i. elim (cases_lt i (length (inputs_of s p.0))) [
        | inl inside ↦ subst (λ (n : ℕ). IsWithin n (slice_index (values_of looked) i))
            (sym (get_or-map (λ (q : PosId). slice_index others q.0) (inputs_of s p.0) i (record { 0 = 0 }) 0 inside))
            ((looked_list.values i (slice_index (values_of looked) i) (value_looked looked i all (omega (arith, looked_list.long)))).above others self)
        | inr past ↦ subst (λ (n : ℕ). IsWithin n (slice_index (values_of looked) i)) (sym (get_or_past there i 0 (omega (
          arith,
          length-map (inputs_of s p.0) (λ (q : PosId). slice_index others q.0),
        ))))
            (λ k l. omega (arith, bit_at-zero k))
      ] in
      within_trans (slice_index others p.0) (value_in s p.0 others) (value_at s p.0 (values_of looked)) (self.supported p.0 looked_list.place)
      (subst (λ (n : ℕ). IsWithin n (value_at s p.0 (values_of looked))) (sym (value_in-value_at s p.0 others))
      (value_at-within s is p.0 there (values_of looked) long less))
