-- Operands as terms: a value by its word, a constant by its table.
use Rattle.std.proofs.Common.{◌≡◌, ◌∙◌, ◌<◌, ◌^◌, inl, inr, ℕ, Bool, true, false, refl, sym, ap, subst, arith}
use Rattle.std.specs.Int.{bit_at}
use Rattle.std.proofs.lemmas.Bool.{cases_lt}
use Rattle.std.proofs.lemmas.Nat.Bits.{bit_at_above}
use Rattle.attr_ids.specs.declared.ids.TypeId.{TypeId}
use Rattle.attr_ids.specs.declared.ids.ValueId.{ValueId}
use Rattle.lattice_words.specs.Words.{word_of, bit_of}
use Rattle.lattice_words.proofs.WordBits.{bit_at-word_of}
use Rattle.ir_module.specs.declared.op.Operand.{Operand}
use Rattle.ir_module.specs.declared.op.Operand.TheVariants as operand
use Rattle.ir_module.specs.declared.op.Written.{Written}
use Rattle.ir_module.specs.declared.module.Module.{Module}
use Rattle.facts.specs.declared.pos.Pos.TheVariants as pos
use Rattle.facts.specs.Facts.{Fact, fact, of_value}
use Rattle.facts.specs.Known.{operand_has, written_has}
use Rattle.rule_terms.specs.declared.term.NewTerm.{NewTerm}
use Rattle.rule_terms.specs.declared.term.NewTerm.TheOpen.{NewTerm-F as new}
use Rattle.rule_terms.specs.declared.term.NewTerm.TheViews.{roll-NewTerm}
use Rattle.positions.specs.Numbering.{Numbered}
use Rattle.rule_says.specs.Reading.{IsNumbering}
use Rattle.rule_says.specs.Saying.{IsSet, Has, Says, IsWord}
use Rattle.rule_says.proofs.Terms.{says_bits, says_word, says_iff}
use Rattle.operand_says.specs.Asked.{nothing, AsksOperand, SpeaksOperand}

test_is : (b : Bool) → bit_of b ≡ 1 → b ≡ true
test_is true e = refl
test_is false e = absurd (omega (arith, e))

is_test : (b : Bool) → b ≡ true → bit_of b ≡ 1
is_test b e = ap bit_of e

module _ (m : Module) (held : Fact → Bool) (ty : TypeId) (bit : ℕ) where
  -- of a constant the set has no say
  constant_has : (o : Operand) → ((v : ValueId) → o ≡ operand.Value v → ⊥) → operand_has m held ty o bit ≡ operand_has m nothing ty o bit
  constant_has (operand.Value v) not = absurd (not v refl)
  constant_has (operand.Int bits fits) not = refl
  constant_has (operand.Truth value) not = refl
  constant_has operand.Zero not = refl
  constant_has operand.Null not = refl
  constant_has operand.Undef not = refl
  constant_has operand.Poison not = refl
  constant_has (operand.Global g) not = refl
  constant_has (operand.Func f) not = refl
  constant_has (operand.Offset base bytes inbounds wrap) not = refl
  constant_has (operand.WrongOffset rule) not = refl
  constant_has (operand.Parts shape first count) not = refl
  constant_has (operand.AnyInt first count) not = refl

module _ (m : Module) (ps : Numbered) (w : Written) (asked : ℕ) (low : asked < 2 ^ 43) where
  small : (bit : ℕ) → IsSet asked bit → bit < 43
  small bit set = elim (cases_lt bit 43) [
    | inl l ↦ l
    | inr l ↦ absurd (let none = bit_at_above asked 43 bit low l in omega (arith, none, set))
  ]

  pub constant_says : (t : NewTerm) → ((v : ValueId) → w.val ≡ operand.Value v → ⊥) → t ≡ roll-NewTerm (new.Const (word_of (written_has m nothing w) 43))
      → Says m ps asked t (AsksOperand m w) (SpeaksOperand w asked)
  constant_says t not is =
      let given = word_of (written_has m nothing w) 43 in
      subst (λ z. Says m ps asked z (AsksOperand m w) (SpeaksOperand w asked)) (sym is)
      (says_iff m ps asked (roll-NewTerm (new.Const given)) (λ held bit. IsSet given bit) (AsksOperand m w) (λ y. ⊥) (SpeaksOperand w asked)
      (says_bits m ps asked given)
      (λ held bit set. (down held bit (small bit set), up held bit (small bit set)))
      (λ y. ((λ h. absurd h), λ h. not (record { 0 = h.2.0 }) h.2.1)))
    where
      same : (bit : ℕ) → bit < 43 → bit_at (word_of (written_has m nothing w) 43) bit ≡ bit_of (written_has m nothing w bit)
      same bit l = bit_at-word_of (written_has m nothing w) 43 bit l

      down : (held : Fact → Bool) (bit : ℕ) → bit < 43 → IsSet (word_of (written_has m nothing w) 43) bit → written_has m held w bit ≡ true
      down held bit l h = constant_has m held w.ty bit w.val not ∙ test_is (written_has m nothing w bit) (sym (same bit l) ∙ h)

      up : (held : Fact → Bool) (bit : ℕ) → bit < 43 → written_has m held w bit ≡ true → IsSet (word_of (written_has m nothing w) 43) bit
      up held bit l h = same bit l ∙ is_test (written_has m nothing w bit) (sym (constant_has m held w.ty bit w.val not) ∙ h)

  pub value_says : IsNumbering m ps → (t : NewTerm) (v : ValueId) → w.val ≡ operand.Value v → IsWord ps asked t (pos.Value v)
      → Says m ps asked t (AsksOperand m w) (SpeaksOperand w asked)
  value_says numbering t v is reads =
      says_iff m ps asked t (λ held bit. Has held (pos.Value v) bit) (AsksOperand m w) (λ y. (y.pos ≡ pos.Value v) × IsSet asked y.bit) (SpeaksOperand w asked)
      (says_word m ps numbering asked t (pos.Value v) reads)
      (λ held bit set. ((λ h. has held bit ∙ h), λ h. sym (has held bit) ∙ h))
      (λ y. ((λ h. (y.bit, h.1, (v.0, is, ap (λ p. fact p y.bit) h.0))), λ h. back y h.0 h.2.0 h.1 h.2.1 h.2.2))
    where
      has : (held : Fact → Bool) (bit : ℕ) → written_has m held w bit ≡ held (fact (pos.Value v) bit)
      has held bit = ap (λ (o : Operand). operand_has m held w.ty o bit) is

      back : (y : Fact) (bit u : ℕ) → IsSet asked bit → w.val ≡ operand.Value (record { 0 = u }) → y ≡ of_value u bit
          → (y.pos ≡ pos.Value v) × IsSet asked y.bit
      back y bit u set names same =
          let one : operand.Value (record { 0 = u }) ≡ operand.Value v = sym names ∙ is in
          let number : u ≡ v.0 = cc in
          (ap (λ (z : Fact). z.pos) same ∙ ap (λ n. pos.Value (record { 0 = n })) number, subst (IsSet asked) (sym (ap (λ (z : Fact). z.bit) same)) set)
