-- The decided rule is the one that the rules of operands name: how far down the parts go is bounded by how many there are.
use Rattle.std.proofs.Common.{◌≡◌, ◌<◌, ◌≤◌, ◌+◌, inl, inr, ℕ, zero, suc, List, [], ◌∷◌, length, slice_get, Option, None, Some, refl, sym, subst, ◌∙◌, arith}
use Rattle.std.proofs.lemmas.Option.{none-some, same_Some}
use Rattle.attr_ids.specs.declared.ids.TypeId.{TypeId}
use Rattle.ir_types.specs.declared.ir_type.IrType.{IrType}
use Rattle.ir_module.specs.declared.op.Shape.TheVariants as shape
use Rattle.ir_module.specs.declared.op.Operand.{Operand}
use Rattle.ir_module.specs.declared.op.Operand.TheVariants as operand
use Rattle.ir_module.specs.declared.op.Written.{Written}
use Rattle.ir_module.specs.WellFormed.{Each, HasPartsBelow}
use Rattle.ir_operands.specs.declared.rule.Site.{Site}
use Rattle.ir_operands.specs.declared.rule.Site.TheVariants as at
use Rattle.ir_operands.specs.declared.rule.ConstantRule.{ConstantRule}
use Rattle.ir_operands.specs.Constants.{own_first, own_count, ArePartsBelow, KeepsAlone, AllOf, number, parts_rule}
use Rattle.ir_operands.specs.Offsets.{KeepsOffset, IsFirstBroken, rules_at}
use Rattle.ir_operands.proofs.Parts.{itself, own_parts, all_of}
use Rattle.ir_consts.specs.Decide.{Decided}
use Rattle.ir_consts.specs.Broken.{KeepsTo, OffsetKeeps, offset_keeps, or_next, first_broken, broken}

-- ---- the first rule that is not kept
next_kept : {P : Type 0} (r : ConstantRule) (rest : Option ConstantRule) (d : Decided P) → P → or_next r rest d ≡ rest
next_kept r rest (inl kept) p = refl
next_kept r rest (inr fails) p = absurd (fails p)

next_broken : {P : Type 0} (r : ConstantRule) (rest : Option ConstantRule) (d : Decided P) → (P → ⊥) → or_next r rest d ≡ Some r
next_broken r rest (inl kept) n = absurd (n kept)
next_broken r rest (inr fails) n = refl

module _ (P : ConstantRule → Type 0) (d : (r : ConstantRule) → Decided (P r)) where
  -- the first that is not kept is found, by its place
  found_at : (rules : List ConstantRule) (k : ℕ) (r : ConstantRule) → slice_get rules k ≡ Some r → (P r → ⊥)
      → ((j : ℕ) (s : ConstantRule) → j < k → slice_get rules j ≡ Some s → P s) → first_broken d rules ≡ Some r
  found_at [] k r at n before = absurd (none-some r at)
  found_at (q ∷ rules) zero r at n before =
      next_broken q (first_broken d rules) (d q) (subst (λ s. P s → ⊥) (sym (same_Some q r at)) n) ∙ at
  found_at (q ∷ rules) (suc k) r at n before =
      next_kept q (first_broken d rules) (d q) (before 0 q (omega arith) refl)
      ∙ found_at rules k r at n (λ j s l e. before (suc j) s (omega (arith, l)) e)

  none_found : (rules : List ConstantRule) → Each rules (λ k r. P r) → first_broken d rules ≡ None
  none_found [] h = refl
  none_found (q ∷ rules) h = next_kept q (first_broken d rules) (d q) (h 0 q refl) ∙ none_found rules (λ k r at. h (suc k) r at)

  -- what is found is not kept, and all before it are
  only_found : (rules : List ConstantRule) (r : ConstantRule) → first_broken d rules ≡ Some r → IsFirstBroken P rules r
  only_found [] r e = absurd (none-some r e)
  only_found (q ∷ rules) r e = elim (d q) as (λ x. or_next q (first_broken d rules) x ≡ Some r → IsFirstBroken P (q ∷ rules) r) [
    | inl kept ↦ λ f.
        let h = only_found rules r f in
        (suc h.0, h.1, h.2, λ j s l at. before q rules kept h.0 h.3 j s l at)
    | inr fails ↦ λ f. (0, f, subst (λ s. P s → ⊥) (same_Some q r f) fails, λ j s l at. absurd (omega (arith, l)))
  ] e where
    before : (q : ConstantRule) (rules : List ConstantRule) → P q → (k : ℕ) → ((j : ℕ) (s : ConstantRule) → j < k → slice_get rules j ≡ Some s → P s)
        → (j : ℕ) (s : ConstantRule) → j < suc k → slice_get (q ∷ rules) j ≡ Some s → P s
    before q rules kept k h zero s l at = subst P (same_Some q s at) kept
    before q rules kept k h (suc j) s l at = h j s (omega (arith, l)) at

  all_kept : (rules : List ConstantRule) → first_broken d rules ≡ None → Each rules (λ k r. P r)
  all_kept [] e = λ k r at. absurd (none-some r at)
  all_kept (q ∷ rules) e = elim (d q) as (λ x. or_next q (first_broken d rules) x ≡ None → Each (q ∷ rules) (λ k r. P r)) [
    | inl kept ↦ λ f. each_of q rules kept (all_kept rules f)
    | inr fails ↦ λ f. absurd (none-some q (sym f))
  ] e where
    each_of : (q : ConstantRule) (rules : List ConstantRule) → P q → Each rules (λ k r. P r) → Each (q ∷ rules) (λ k r. P r)
    each_of q rules kept h zero r at = subst P (same_Some q r at) kept
    each_of q rules kept h (suc k) r at = h k r at

-- ---- how far down the parts go
-- the parts that a constant names end before its own number
own_within : (k : ℕ) (o : Operand) → HasPartsBelow k o → own_first o + own_count o ≤ k
own_within k (operand.Parts shape.Bytes first count) h = omega arith
own_within k (operand.Parts shape.Array first count) h = h
own_within k (operand.Parts shape.Struct first count) h = h
own_within k (operand.Parts shape.Packed first count) h = h
own_within k (operand.AnyInt first count) h = h
own_within k (operand.Value v) h = omega arith
own_within k (operand.Int bits fits) h = omega arith
own_within k (operand.Truth value) h = omega arith
own_within k operand.Zero h = omega arith
own_within k operand.Null h = omega arith
own_within k operand.Undef h = omega arith
own_within k operand.Poison h = omega arith
own_within k (operand.Global g) h = omega arith
own_within k (operand.Func f) h = omega arith
own_within k (operand.Offset base bytes inbounds wrap) h = omega arith
own_within k (operand.WrongOffset rule) h = omega arith

module _ (types : List IrType) (numbers : List ℕ) (parts : List Written) (r : ConstantRule) where
  abbrev P : Written → Type 0
  P = KeepsAlone types numbers parts r

  -- what keeps a rule all the way down keeps it so many steps down
  shown : (n : ℕ) (w : Written) → AllOf P parts w → KeepsTo types numbers parts n r w
  shown zero w h = tt
  shown (suc n) w h = (
    itself P parts w h,
    λ i x l at. shown n x (own_parts P parts w (own_first w.val) (own_count w.val) refl refl h i x l at),
  )

  -- and more steps than there are parts before it are all of them
  held : ArePartsBelow parts → (n k : ℕ) (w : Written) → k < n → HasPartsBelow k w.val → KeepsTo types numbers parts n r w → AllOf P parts w
  held below zero k w l inside h = absurd (omega (arith, l))
  held below (suc n) k w l inside h = all_of P parts w (own_first w.val) (own_count w.val) refl refl h.0 (λ i x place at.
      let ends = own_within k w.val inside in
      held below n (own_first w.val + i) x (omega (arith, l, ends, place)) (below (own_first w.val + i) x at) (h.1 i x place at))

module _ (types : List IrType) (numbers : List ℕ) (parts : List Written) (elem : TypeId) (below : ArePartsBelow parts) where
  -- of a getelementptr both say the same
  bounded : (operands : List Written) (r : ConstantRule) → KeepsOffset types numbers parts r elem operands
      → OffsetKeeps types numbers parts elem operands r
  bounded [] r h = h
  bounded (base ∷ indices) r h = (h.0, λ k w at. shown types numbers parts r (suc (length parts)) w (h.1 k w at))

  unbounded : (operands : List Written) → Each operands (λ k w. HasPartsBelow (length parts) w.val) → (r : ConstantRule)
      → OffsetKeeps types numbers parts elem operands r → KeepsOffset types numbers parts r elem operands
  unbounded [] inside r h = h
  unbounded (base ∷ indices) inside r h = (
    h.0,
    λ k w at.
        held types numbers parts r below (suc (length parts)) (length parts) w (omega arith) (inside k w at) (h.1 k w at),
  )

  -- the rule that is found first is the one that is broken first
  pub broken_is : (site : Site) (operands : List Written) → Each operands (λ k w. HasPartsBelow (length parts) w.val) → (r : ConstantRule)
      → IsFirstBroken (λ s. KeepsOffset types numbers parts s elem operands) (rules_at site) r → broken types numbers site parts elem operands ≡ Some r
  unfolding broken
  broken_is site operands inside r first =
      found_at (OffsetKeeps types numbers parts elem operands) (offset_keeps types numbers parts elem operands) (rules_at site) first.0 r first.1
      (λ h. first.2 (unbounded operands inside r h)) (λ j s l at. bounded operands s (first.3 j s l at))

  pub none_is : (site : Site) (operands : List Written) → Each (rules_at site) (λ k r. KeepsOffset types numbers parts r elem operands)
      → broken types numbers site parts elem operands ≡ None
  unfolding broken
  none_is site operands kept =
      none_found (OffsetKeeps types numbers parts elem operands) (offset_keeps types numbers parts elem operands) (rules_at site)
      (λ k r at. bounded operands r (kept k r at))

  pub rule_is_first : (site : Site) (operands : List Written) → Each operands (λ k w. HasPartsBelow (length parts) w.val) → (r : ConstantRule)
      → broken types numbers site parts elem operands ≡ Some r → IsFirstBroken (λ s. KeepsOffset types numbers parts s elem operands) (rules_at site) r
  unfolding broken
  rule_is_first site operands inside r e =
      let h = only_found (OffsetKeeps types numbers parts elem operands) (offset_keeps types numbers parts elem operands) (rules_at site) r e in
      (h.0, h.1, λ kept. h.2 (bounded operands r kept), λ j s l at. unbounded operands inside s (h.3 j s l at))

  pub rules_are_kept : (site : Site) (operands : List Written) → Each operands (λ k w. HasPartsBelow (length parts) w.val)
      → broken types numbers site parts elem operands ≡ None → Each (rules_at site) (λ k r. KeepsOffset types numbers parts r elem operands)
  unfolding broken
  rules_are_kept site operands inside e k r at = unbounded operands inside r
      (all_kept (OffsetKeeps types numbers parts elem operands) (offset_keeps types numbers parts elem operands) (rules_at site) e k r at)

  -- without a base the first rule is broken
  pub baseless : (site : Site) → broken types numbers site parts elem [] ≡ Some (parts_rule site)
  unfolding broken
  baseless site = next_broken (parts_rule site) _ (offset_keeps types numbers parts elem [] (parts_rule site)) (λ h. h)

pub parts_rule_number : (site : Site) → number (parts_rule site) ≡ 1
parts_rule_number at.Plain = refl
parts_rule_number at.Pair = refl
parts_rule_number at.Filter = refl
parts_rule_number at.Initial = refl
