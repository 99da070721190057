-- What terms tell of pointers and of callees.
use Rattle.std.proofs.Common.{arith, ◌≡◌, ◌<◌, ◌⊎◌, ◌↔◌, ℕ, Bool, true, false, Option, None, Some, refl, sym, ap, subst, ◌∙◌, inl, inr}
use Rattle.std.proofs.lemmas.Nat.Bits.{bit_at-zero}
use Rattle.attr_ids.specs.declared.ids.FuncId.{FuncId}
use Rattle.attr_ids.specs.declared.ids.ValueId.{ValueId}
use Rattle.lattice_words.specs.declared.value.TheConstants.{NOT_UNKNOWN}
use Rattle.ir_module.specs.declared.op.Operand.TheVariants as operand
use Rattle.ir_module.specs.declared.op.Written.{Written}
use Rattle.ir_module.specs.declared.op.Op.{Op}
use Rattle.ir_module.specs.declared.module.Module.{Module}
use Rattle.ir_module.specs.Calls.{inner_callee}
use Rattle.facts.specs.declared.pos.Pos.{Pos}
use Rattle.facts.specs.Kinds.{FunctionFact, function_bit, class_bit}
use Rattle.facts.specs.Facts.{Fact, fact, function, value, of_value, of_function}
use Rattle.facts.specs.Known.{operand_has, written_has}
use Rattle.facts.specs.Memory.{IsNotTo, ToSpeaks}
use Rattle.facts.specs.Promises.{has_by, call_has, CallSpeaks}
use Rattle.rule_terms.specs.declared.term.NewTerm.{NewTerm}
use Rattle.rule_terms.specs.declared.term.NewTerm.TheOpen.{NewTerm-F as new}
use Rattle.rule_terms.specs.declared.term.NewTerm.TheViews.{roll-NewTerm}
use Rattle.positions.specs.Numbering.{Numbered}
use Rattle.rule_says.specs.Reading.{IsNumbering}
use Rattle.rule_says.specs.Saying.{IsSet, Has, Says}
use Rattle.rule_says.proofs.Terms.{says_bits, says_and, says_iff, says_unless}
use Rattle.aa_memory.specs.declared.accesses.Class.{Class}
use Rattle.aa_memory.specs.declared.accesses.Class.TheVariants as class
use Rattle.aa_memory.specs.declared.accesses.Callee.{Callee}
use Rattle.aa_memory.specs.Accesses.{class_of, number_of, IsCallee, has_of, callee_has, CalleeSpeaks}
use Rattle.aa_memory.specs.Asked.{bits_if, IsTest, IsValueOff, IsOfCallee}

-- 0 has no bit
none_set : {A : Type 0} (b : ℕ) → IsSet 0 b → A
none_set b h = absurd (let none = bit_at-zero b in omega (arith, h, none))

class_small : (class : Class) → class_bit (class_of class) < 64
class_small class.Argument = omega arith
class_small class.Global = omega arith

module _ (m : Module) (ps : Numbered) (to : ℕ) where
  -- bits that are given, or not, by a test that no set decides
  pub given_says : (t : NewTerm) (test : Bool) (A : (Fact → Bool) → Type 0) (S : Fact → Type 0) → t ≡ roll-NewTerm (new.Const (bits_if test to)) →
      ((held : Fact → Bool) → A held ↔ (test ≡ true)) → ((y : Fact) → S y → ⊥) → Says m ps to t (λ held b. A held) S
  given_says t test A S e decides silent = subst (λ u. Says m ps to u (λ held b. A held) S) (sym e)
      (says_iff m ps to (roll-NewTerm (new.Const (bits_if test to))) (λ held b. IsSet (bits_if test to) b) (λ held b. A held) (λ y. ⊥) S
      (says_bits m ps to (bits_if test to))
      (λ held b set. ((λ h. (decides held).1 (down b test h)), λ h. up b set test ((decides held).0 h)))
      (λ y. ((λ none. absurd none), λ s. absurd (silent y s))))
    where
      down : (b : ℕ) (v : Bool) → IsSet (bits_if v to) b → v ≡ true
      down b true h = refl
      down b false h = none_set b h

      up : (b : ℕ) → IsSet to b → (v : Bool) → v ≡ true → IsSet (bits_if v to) b
      up b set true v = set
      up b set false v = absurd (cc)

  module _ (is : IsNumbering m ps) where
    -- the test of one bit
    pub test_says : (t : NewTerm) (p : Pos) (bit : ℕ) → bit < 64 → IsTest ps t p bit → Says m ps to t (λ held b. Has held p bit) (λ y. y ≡ fact p bit)
    test_says t p bit small w =
        says_iff m ps to t (λ held b. Has held p bit ⊎ IsSet 0 b) (λ held b. Has held p bit) (λ y. (y ≡ fact p bit) ⊎ ⊥) (λ y. y ≡ fact p bit)
        (says_unless m ps is to t p bit (roll-NewTerm (new.Const 0)) (λ held b. IsSet 0 b) (λ y. ⊥) small w (says_bits m ps to 0))
        (λ held b set. (has held b, λ h. inl h)) (λ y. (same y, λ e. inl e))
      where
        has : (held : Fact → Bool) (b : ℕ) → Has held p bit ⊎ IsSet 0 b → Has held p bit
        has held b (inl h) = h
        has held b (inr h) = none_set b h

        same : (y : Fact) → (y ≡ fact p bit) ⊎ ⊥ → y ≡ fact p bit
        same y (inl e) = e
        same y (inr none) = absurd none

    -- ---- pointers

    module _ (w : Written) (class : Class) where
      -- a value's word tells to which blocks it is not
      pub value_says : (v : ValueId) (t : NewTerm) → w.val ≡ operand.Value v → IsValueOff ps t v.0 class →
          Says m ps to t (λ held b. IsNotTo m held (class_of class) w) (ToSpeaks (class_of class) w)
      value_says v t e off = subst (λ u. Says m ps to u (λ held b. IsNotTo m held (class_of class) w) (ToSpeaks (class_of class) w)) (sym off.term)
          (says_iff m ps to (roll-NewTerm (new.And off.first off.second))
          (λ held b. Has held (value v.0) (class_bit (class_of class)) × Has held (value v.0) NOT_UNKNOWN) (λ held b. IsNotTo m held (class_of class) w)
          (λ y. (y ≡ of_value v.0 (class_bit (class_of class))) ⊎ (y ≡ of_value v.0 NOT_UNKNOWN)) (ToSpeaks (class_of class) w)
          (says_and m ps to off.first off.second (λ held b. Has held (value v.0) (class_bit (class_of class))) (λ held b. Has held (value v.0) NOT_UNKNOWN)
          (λ y. y ≡ of_value v.0 (class_bit (class_of class))) (λ y. y ≡ of_value v.0 NOT_UNKNOWN)
          (test_says off.first (value v.0) (class_bit (class_of class)) (class_small class) off.of_class)
          (test_says off.second (value v.0) NOT_UNKNOWN (omega arith) off.of_unknown))
          (λ held b set. (
            (λ h. (known held (class_bit (class_of class)) ∙ h.0, known held NOT_UNKNOWN ∙ h.1)),
            λ h. (sym (known held (class_bit (class_of class))) ∙ h.0, sym (known held NOT_UNKNOWN) ∙ h.1),
          ))
          (λ y. (named y, speaks y)))
        where
          known : (held : Fact → Bool) (bit : ℕ) → written_has m held w bit ≡ held (of_value v.0 bit)
          known held bit = ap (λ o. operand_has m held w.ty o bit) e

          named : (y : Fact) → (y ≡ of_value v.0 (class_bit (class_of class))) ⊎ (y ≡ of_value v.0 NOT_UNKNOWN) → ToSpeaks (class_of class) w y
          named y (inl h) = inl (v.0, e, h)
          named y (inr h) = inr (v.0, e, h)

          same : (u : ℕ) → w.val ≡ operand.Value (record { 0 = u }) → u ≡ v.0
          same u f = (let a = e in cc)

          speaks : (y : Fact) → ToSpeaks (class_of class) w y → (y ≡ of_value v.0 (class_bit (class_of class))) ⊎ (y ≡ of_value v.0 NOT_UNKNOWN)
          speaks y (inl h) = inl (h.2 ∙ ap (λ u. of_value u (class_bit (class_of class))) (same h.0 h.1))
          speaks y (inr h) = inr (h.2 ∙ ap (λ u. of_value u NOT_UNKNOWN) (same h.0 h.1))

    -- ---- callees

    module _ (kind : FunctionFact) (bit : ℕ) (same : function_bit kind ≡ bit) (small : bit < 64) where
      -- a body's word, or a promise, tells whether the call has the fact
      pub callee_says : (callee : Callee) (t : NewTerm) → IsOfCallee ps t bit to callee.promised callee.body →
          Says m ps to t (λ held b. callee_has held kind callee ≡ true) (CalleeSpeaks kind callee)
      callee_says callee t = by callee.body
        where
          by : (body : Option FuncId) → IsOfCallee ps t bit to callee.promised body →
              Says m ps to t (λ held b. has_of held kind callee.promised body ≡ true) (λ y. (f : FuncId) × (body ≡ Some f) × (y ≡ of_function kind f.0))
          by (Some f) test =
              says_iff m ps to t (λ held b. Has held (function f.0) bit) (λ held b. held (of_function kind f.0) ≡ true)
              (λ y. y ≡ fact (function f.0) bit) (λ y. (g : FuncId) × (Some f ≡ Some g) × (y ≡ of_function kind g.0))
              (test_says t (function f.0) bit small test)
              (λ held b set. (
                (λ h. subst (λ n. Has held (function f.0) n) (sym same) h),
                λ h. subst (λ n. Has held (function f.0) n) same h,
              ))
              (λ y. ((λ e. (f, refl, e ∙ ap (λ n. fact (function f.0) n) (sym same))), λ w. speaks y w))
            where
              speaks : (y : Fact) → (g : FuncId) × (Some f ≡ Some g) × (y ≡ of_function kind g.0) → y ≡ fact (function f.0) bit
              speaks y w =
                  let one : w.0 ≡ f = (let e = w.1 in cc) in
                  w.2 ∙ (ap (λ (g : FuncId). of_function kind g.0) one ∙ ap (λ n. fact (function f.0) n) same)
          by None e = given_says t callee.promised (λ held. callee.promised ≡ true) (λ y. (f : FuncId) × (None ≡ Some f) × (y ≡ of_function kind f.0)) e
              (λ held. ((λ h. h), λ h. h)) (λ y w. (let none = w.1 in cc))

-- ---- what decides of a call

module _ (m : Module) (kind : FunctionFact) (o : Op) (callee : Callee) (is : IsCallee m kind o callee) where
  pub callee_tells : (held : Fact → Bool) → callee_has held kind callee ≡ call_has m held kind o
  callee_tells held =
      by callee.body ∙ (sym (ap (λ n. has_by held kind callee.promised n) is.body) ∙ ap (λ b. has_by held kind b (inner_callee m o)) (sym is.promised))
    where
      by : (body : Option FuncId) → has_of held kind callee.promised body ≡ has_by held kind callee.promised (number_of body)
      by (Some f) = refl
      by None = refl

  pub callee_speaks : (y : Fact) → CalleeSpeaks kind callee y ↔ CallSpeaks m kind o y
  callee_speaks y = ((λ w. (w.0.0, is.body ∙ ap number_of w.1, w.2)), λ w. back w.0 callee.body refl (sym is.body ∙ w.1) w.2)
    where
      back : (g : ℕ) (body : Option FuncId) → callee.body ≡ body → number_of body ≡ Some g → y ≡ of_function kind g → CalleeSpeaks kind callee y
      back g (Some f) here e same = (f, here, same ∙ ap (of_function kind) (let one : g ≡ f.0 = cc in one))
      back g None here e same = absurd (cc)
