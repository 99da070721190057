-- What a slot that is read tells of its parts.
use Rattle.std.proofs.Common.{◌≡◌, ℕ, ◌<◌, true, ◌&&◌, List, get_or, slice_get, Some, ap, sym, ◌∙◌, arith, nat_lt, cond, eqb, eq-eqb, bit_and, ◌/◌, ◌^◌}
use Rattle.std.proofs.lemmas.Bool.{and_parts, ltb-true, cond-true, cond-false, ne_eqb}
use Rattle.std.proofs.lemmas.Nat.Bits.{shr_and_one}
use Rattle.std.specs.Int.{bit_at}
use Rattle.std.proofs.lemmas.Option.{slice_get-get_or}
use Rattle.rule_terms.specs.declared.term.Term.{Term}
use Rattle.rule_terms.specs.declared.term.Term.TheVariants as slot
use Rattle.rule_terms.specs.declared.term.TermId.{TermId}
use Rattle.rule_terms.specs.Slots.{const, word, both, either, unless, shift, keep_align, spread, nth, slot_term, slot_terms, is_numbered, AreOrdered, IsBehind}
use Rattle.rule_terms.specs.Slots.{IsReadable}
use Rattle.rule_terms.proofs.Slotted.{nth-slot}

module _ (slots : List Term) (ordered : AreOrdered slots) (count place : ℕ) (readable : IsReadable slots count place) where
  -- the term at a place that is read, and what holds of its slot
  read : (s : Term) → get_or slots place (slot.Const 0) ≡ s → (nth (slot_terms slots) place ≡ slot_term (slot_terms slots) s) × IsBehind place s ×
      (is_numbered count (slot_term (slot_terms slots) s) ≡ true)
  read s is =
      let found : slice_get slots place ≡ Some s = slice_get-get_or slots place (slot.Const 0) readable.within ∙ ap Some is in
      let here = nth-slot slots place s ordered found in
      (here, ordered place s found, ap (is_numbered count) (sym here) ∙ readable.numbered)

  part : (below : ℕ) → below < place → is_numbered count (nth (slot_terms slots) below) ≡ true → (below < place) × IsReadable slots count below
  part below l is = (l, record { within = omega (arith, readable.within); numbered = is })

  pub const_at : (bits : ℕ) → get_or slots place (slot.Const 0) ≡ slot.Const bits → nth (slot_terms slots) place ≡ const bits
  const_at bits is = (read (slot.Const bits) is).0

  pub word_at : (number : ℕ) → get_or slots place (slot.Const 0) ≡ slot.Word number → (number < count) × (nth (slot_terms slots) place ≡ word number)
  word_at number is = let all = read (slot.Word number) is in (ltb-true number count all.2, all.0)

  pub and_at : (l r : TermId) → get_or slots place (slot.Const 0) ≡ slot.And l r → ((l.0 < place) × IsReadable slots count l.0) ×
      ((r.0 < place) × IsReadable slots count r.0) × (nth (slot_terms slots) place ≡ both (nth (slot_terms slots) l.0) (nth (slot_terms slots) r.0))
  and_at l r is =
      let all = read (slot.And l r) is in
      let parts = and_parts _ _ all.2 in
      (part l.0 all.1.0 parts.0, part r.0 all.1.1 parts.1, all.0)

  pub or_at : (l r : TermId) → get_or slots place (slot.Const 0) ≡ slot.Or l r → ((l.0 < place) × IsReadable slots count l.0) ×
      ((r.0 < place) × IsReadable slots count r.0) × (nth (slot_terms slots) place ≡ either (nth (slot_terms slots) l.0) (nth (slot_terms slots) r.0))
  or_at l r is =
      let all = read (slot.Or l r) is in
      let parts = and_parts _ _ all.2 in
      (part l.0 all.1.0 parts.0, part r.0 all.1.1 parts.1, all.0)

  pub unless_at : (number bit : ℕ) (then' : TermId) → get_or slots place (slot.Const 0) ≡ slot.Unless number bit then' → ((number < count) × (bit < 64)) ×
      ((then'.0 < place) × IsReadable slots count then'.0) × (nth (slot_terms slots) place ≡ unless number bit (nth (slot_terms slots) then'.0))
  unless_at number bit then' is =
      let all = read (slot.Unless number bit then') is in
      let outer = and_parts (nat_lt number count && nat_lt bit 64) (is_numbered count (nth (slot_terms slots) then'.0)) all.2 in
      let inner = and_parts (nat_lt number count) (nat_lt bit 64) outer.0 in
      ((ltb-true number count inner.0, ltb-true bit 64 inner.1), part then'.0 all.1 outer.1, all.0)

  pub shift_at : (bytes : ℕ) (of : TermId) → get_or slots place (slot.Const 0) ≡ slot.Shift bytes of → ((of.0 < place) × IsReadable slots count of.0) ×
      (nth (slot_terms slots) place ≡ shift bytes (nth (slot_terms slots) of.0))
  shift_at bytes of is = let all = read (slot.Shift bytes of) is in (part of.0 all.1 all.2, all.0)

  pub keep_align_at : (step : ℕ) (of : TermId) → get_or slots place (slot.Const 0) ≡ slot.KeepAlign step of → ((of.0 < place) × IsReadable slots count of.0) ×
      (nth (slot_terms slots) place ≡ keep_align step (nth (slot_terms slots) of.0))
  keep_align_at step of is = let all = read (slot.KeepAlign step of) is in (part of.0 all.1 all.2, all.0)

  pub spread_at : (bit to : ℕ) (of : TermId) → get_or slots place (slot.Const 0) ≡ slot.Spread bit to of → (bit < 64) ×
      ((of.0 < place) × IsReadable slots count of.0) × (nth (slot_terms slots) place ≡ spread bit to (nth (slot_terms slots) of.0))
  spread_at bit to of is =
      let all = read (slot.Spread bit to of) is in
      let parts = and_parts (nat_lt bit 64) (is_numbered count (nth (slot_terms slots) of.0)) all.2 in
      (ltb-true bit 64 parts.0, part of.0 all.1 parts.1, all.0)

-- the test `(word >> bit) & 1 == 1`, as it is read
pub taken_branch : (whole found bit x y : ℕ) → found ≡ whole → bit_and (found / 2 ^ bit) 1 ≡ 1 → x ≡ cond (eqb (bit_at whole bit) 1) x y
taken_branch whole found bit x y same is =
    sym (cond-true (eqb (bit_at whole bit) 1) x y (eq-eqb (bit_at whole bit) 1 (ap (λ w. bit_at w bit) (sym same) ∙ sym (shr_and_one found bit) ∙ is)))

pub other_branch : (whole found bit x y : ℕ) → found ≡ whole → (bit_and (found / 2 ^ bit) 1 ≡ 1 → ⊥) → y ≡ cond (eqb (bit_at whole bit) 1) x y
other_branch whole found bit x y same isnt =
    sym (cond-false (eqb (bit_at whole bit) 1) x y (ne_eqb (bit_at whole bit) 1 (λ is. isnt (shr_and_one found bit ∙ ap (λ w. bit_at w bit) same ∙ is))))
