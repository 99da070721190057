-- What is met in for one fact of one instruction.
use Rattle.std.proofs.Common.{arith, ◌≡◌, ◌^◌, ◌⊎◌, ◌↔◌, if◌then◌else◌, ℕ, Bool, true, false, length, None, Some, refl, sym, ap, subst, ◌∙◌}
use Rattle.std.proofs.Common.{inl, inr}
use Rattle.std.specs.Int.{bit_at}
use Rattle.std.proofs.lemmas.Bool.{cases_eq, both_ways}
use Rattle.std.proofs.lemmas.Nat.Bits.{bit_at-zero, bit_at-pow_same, bit_at-pow_other}
use Rattle.lattice_words.specs.declared.segment.TheConstants.{DEAD}
use Rattle.ir_module.specs.declared.op.Op.{Op}
use Rattle.ir_module.specs.declared.module.Module.{Module}
use Rattle.facts.specs.declared.pos.Pos.{Pos}
use Rattle.ir_module.specs.Calls.{is_call, inner_callee}
use Rattle.facts.specs.Kinds.{FunctionFact, NoUnwind, function_bit}
use Rattle.facts.specs.Facts.{Fact, fact, segment, function, effect, dead, of_function}
use Rattle.facts.specs.Promises.{has_by, promises_fact, call_has, CallSpeaks}
use Rattle.facts.specs.Masks.{is_bit}
use Rattle.facts.specs.Functions.{Keeps, Concerns, KeepsSpeaks}
use Rattle.rule_terms.specs.declared.term.NewTerm.{NewTerm}
use Rattle.rule_terms.specs.declared.term.NewTerm.TheOpen.{NewTerm-F as new}
use Rattle.rule_terms.specs.declared.term.NewTerm.TheViews.{roll-NewTerm}
use Rattle.rule_terms.specs.System.{System}
use Rattle.positions.specs.Numbering.{Numbered}
use Rattle.rule_says.specs.Reading.{IsNumbering}
use Rattle.rule_says.specs.Saying.{IsSet, Has, Says, IsWord, IsUnless}
use Rattle.rule_says.specs.Meeting.{Meets, IsMet}
use Rattle.rule_says.proofs.Terms.{says_bits, says_or, says_iff, says_word, says_unless}
use Rattle.rule_says.proofs.Mets.{meets_none, meets_iff, meets_term, AskAt, SpeakAt}
use Rattle.aa_control.specs.Asked.{AsksKind, SpeaksKind, AsksCall, AsksKeeps, is_caught}
use Rattle.aa_control.proofs.Instrs.{uncaught_keeps, caught_keeps}

-- a word of one bit has this one
pub one_bit : (bit b : ℕ) → IsSet (2 ^ bit) b ↔ (b ≡ bit)
one_bit bit b = (down, λ e. subst (λ n. bit_at (2 ^ bit) n ≡ 1) (sym e) (bit_at-pow_same bit))
  where
    down : IsSet (2 ^ bit) b → b ≡ bit
    down set = elim (cases_eq b bit) [
      | inl same ↦ same
      | inr other ↦ absurd (let none = bit_at-pow_other bit b other in omega (arith, set, none))
    ]

module _ (m : Module) (ps : Numbered) (is : IsNumbering m ps) (kind : FunctionFact) (k : ℕ) (o : Op) where
  -- the effect keeps the fact where the segment is dead or the term gives it
  pub kept : (old new : System) (bit : ℕ) (term t : NewTerm) → function_bit kind ≡ bit → length old.masks ≡ length ps.list → Concerns kind o →
      Says m ps (2 ^ bit) term (λ held b. Keeps m held kind o) (KeepsSpeaks m kind o) →
      IsUnless ps t (segment k) DEAD term → IsMet ps old new (effect k) (2 ^ bit) t → Meets m ps old new (AsksKind m kind k o) (SpeaksKind m kind k o)
  kept old new bit term t same long concerned says tested met =
      meets_iff m ps old new (AskAt m ps (effect k) (2 ^ bit) A) (AsksKind m kind k o) (SpeakAt m ps (effect k) (2 ^ bit) S) (SpeaksKind m kind k o)
      (meets_term m ps is old new (effect k) (2 ^ bit) t A S long met
      (says_unless m ps is (2 ^ bit) t (segment k) DEAD term (λ held b. Keeps m held kind o) (KeepsSpeaks m kind o) (omega arith) tested says))
      (λ held q b. (down held q b, up held q b))
      (λ q y. (speak_down q y, speak_up q y))
    where
      A : (Fact → Bool) → ℕ → Type 0
      A held b = Has held (segment k) DEAD ⊎ Keeps m held kind o

      S : Fact → Type 0
      S y = (y ≡ fact (segment k) DEAD) ⊎ KeepsSpeaks m kind o y

      alive : (held : Fact → Bool) → A held 0 → held (dead k) ≡ false → Keeps m held kind o
      alive held (inl h) live = absurd (both_ways (held (dead k)) live h)
      alive held (inr h) live = h

      down : (held : Fact → Bool) (q : Pos) (b : ℕ) → AskAt m ps (effect k) (2 ^ bit) A held q b → AsksKind m kind k o held q b
      down held q b h here at has live =
          alive held (h here ((one_bit bit b).1 (at ∙ same)) (subst (λ p. is_bit m p b ≡ true) here has)) live

      decided : (held : Fact → Bool) (test : Bool) → held (dead k) ≡ test → (held (dead k) ≡ false → Keeps m held kind o) → A held 0
      decided held true e h = inl e
      decided held false e h = inr (h e)

      up : (held : Fact → Bool) (q : Pos) (b : ℕ) → AsksKind m kind k o held q b → AskAt m ps (effect k) (2 ^ bit) A held q b
      up held q b h here set has =
          decided held (held (dead k)) refl (h here ((one_bit bit b).0 set ∙ sym same) (subst (λ p. is_bit m p b ≡ true) (sym here) has))

      speak_down : (q : Pos) (y : Fact) → SpeakAt m ps (effect k) (2 ^ bit) S q y → SpeaksKind m kind k o q y
      speak_down q y w =
          let at : w.1.0 ≡ function_bit kind = (one_bit bit w.1.0).0 w.1.1 ∙ sym same in
          (w.0, subst (λ b. is_bit m q b ≡ true) at (subst (λ p. is_bit m p w.1.0 ≡ true) (sym w.0) w.1.2), concerned, w.2)

      speak_up : (q : Pos) (y : Fact) → SpeaksKind m kind k o q y → SpeakAt m ps (effect k) (2 ^ bit) S q y
      speak_up q y w = (
        w.0,
        (bit, (one_bit bit bit).1 refl, subst (λ b. is_bit m (effect k) b ≡ true) same (subst (λ p. is_bit m p (function_bit kind) ≡ true) w.0 w.1)),
        w.3,
      )

  -- an instruction that is not concerned asks nothing
  pub unconcerned : (s : System) → ((held : Fact → Bool) → Keeps m held kind o) → (Concerns kind o → ⊥) →
      Meets m ps s s (AsksKind m kind k o) (SpeaksKind m kind k o)
  unconcerned s keeps free =
      meets_iff m ps s s (λ held p bit. Unit {0}) (AsksKind m kind k o) (λ p y. ⊥) (SpeaksKind m kind k o) (meets_none m ps s)
      (λ held q b. ((λ h here at has live. keeps held), λ h. tt))
      (λ q y. ((λ w. absurd w), λ w. absurd (free w.2)))

-- ---- calls

module _ (m : Module) (ps : Numbered) (is : IsNumbering m ps) (kind : FunctionFact) (o : Op) (bit : ℕ) (same : function_bit kind ≡ bit) where
  -- an inner call has it where its callee's word has it
  pub of_inner : (t : NewTerm) (f : ℕ) → inner_callee m o ≡ Some f → IsWord ps (2 ^ bit) t (function f) →
      Says m ps (2 ^ bit) t (AsksCall m kind o) (CallSpeaks m kind o)
  of_inner t f inner w =
      says_iff m ps (2 ^ bit) t (λ held b. Has held (function f) b) (AsksCall m kind o) (λ y. (y.pos ≡ function f) ×
      IsSet (2 ^ bit) y.bit) (CallSpeaks m kind o)
      (says_word m ps is (2 ^ bit) t (function f) w)
      (λ held b set.
      let at : b ≡ function_bit kind = (one_bit bit b).0 set ∙ sym same in
      let has : call_has m held kind o ≡ held (of_function kind f) = ap (has_by held kind (promises_fact m kind o)) inner in
      ((λ h. has ∙ subst (λ n. Has held (function f) n) at h), λ h. subst (λ n. Has held (function f) n) (sym at) (sym has ∙ h)))
      (λ y. ((λ v. (f, inner, ap (λ p. fact p y.bit) v.0 ∙ ap (λ n. fact (function f) n) ((one_bit bit y.bit).0 v.1 ∙ sym same))), λ v. speaks y v))
    where
      speaks : (y : Fact) → CallSpeaks m kind o y → (y.pos ≡ function f) × IsSet (2 ^ bit) y.bit
      speaks y v =
          let callee : v.0 ≡ f = (let found = v.1 in cc) in
          (ap (λ (z : Fact). z.pos) v.2 ∙ ap function callee, (one_bit bit y.bit).1 (ap (λ (z : Fact). z.bit) v.2 ∙ same))

  -- an outer call has it where it promises it
  pub of_outer : (t : NewTerm) (promised : Bool) → inner_callee m o ≡ None → promises_fact m kind o ≡ promised →
      t ≡ roll-NewTerm (new.Const (if promised then 2 ^ bit else 0)) → Says m ps (2 ^ bit) t (AsksCall m kind o) (CallSpeaks m kind o)
  of_outer t promised outer says e = subst (λ u. Says m ps (2 ^ bit) u (AsksCall m kind o) (CallSpeaks m kind o)) (sym e)
      (says_iff m ps (2 ^ bit) (roll-NewTerm (new.Const (if promised then 2 ^ bit else 0))) (λ held b. IsSet (if promised then 2 ^ bit else
      0) b) (AsksCall m kind o) (λ y. ⊥) (CallSpeaks m kind o)
      (says_bits m ps (2 ^ bit) (if promised then 2 ^ bit else 0))
      (λ held b set. subst (λ v. IsSet (if promised then 2 ^ bit else 0) b ↔ (v ≡ true)) (sym (has held)) (given b set promised))
      (λ y. ((λ none. absurd none), λ v. absurd (let found = v.1 in cc))))
    where
      has : (held : Fact → Bool) → call_has m held kind o ≡ promised
      has held = ap (has_by held kind (promises_fact m kind o)) outer ∙ says

      given : (b : ℕ) → IsSet (2 ^ bit) b → (v : Bool) → IsSet (if v then 2 ^ bit else 0) b ↔ (v ≡ true)
      given b set true = ((λ h. refl), λ h. set)
      given b set false = ((λ h. absurd (let none = bit_at-zero b in omega (arith, h, none))), λ h. absurd (cc))

-- ---- nounwind of calls

module _ (m : Module) (ps : Numbered) (o : Op) (is : is_call o ≡ true) where
  -- not caught
  pub uncaught : (t : NewTerm) → is_caught m o ≡ false → Says m ps (2 ^ 0) t (AsksCall m NoUnwind o) (CallSpeaks m NoUnwind o) →
      Says m ps (2 ^ 0) t (AsksKeeps m NoUnwind o) (CallSpeaks m NoUnwind o)
  uncaught t free says =
      says_iff m ps (2 ^ 0) t (AsksCall m NoUnwind o) (AsksKeeps m NoUnwind o) (CallSpeaks m NoUnwind o) (CallSpeaks m NoUnwind o) says
      (λ held b set. uncaught_keeps m held o is free) (λ y. ((λ v. v), λ v. v))

  -- caught
  pub caught : (t term : NewTerm) → is_caught m o ≡ true → t ≡ roll-NewTerm (new.Or (roll-NewTerm (new.Const (2 ^ 0))) term) →
      Says m ps (2 ^ 0) term (AsksCall m NoUnwind o) (CallSpeaks m NoUnwind o) → Says m ps (2 ^ 0) t (AsksKeeps m NoUnwind o) (CallSpeaks m NoUnwind o)
  caught t term landing e says = subst (λ u. Says m ps (2 ^ 0) u (AsksKeeps m NoUnwind o) (CallSpeaks m NoUnwind o)) (sym e)
      (says_iff m ps (2 ^ 0) (roll-NewTerm (new.Or (roll-NewTerm (new.Const (2 ^ 0))) term)) (λ held b. IsSet (2 ^ 0) b ⊎ AsksCall m NoUnwind o held b)
      (AsksKeeps m NoUnwind o)
      (λ y. ⊥ ⊎ CallSpeaks m NoUnwind o y) (CallSpeaks m NoUnwind o)
      (says_or m ps (2 ^ 0) (roll-NewTerm (new.Const (2 ^ 0))) term (λ held b. IsSet (2 ^ 0) b) (AsksCall m NoUnwind o) (λ y. ⊥) (CallSpeaks m NoUnwind o)
      (says_bits m ps (2 ^ 0) (2 ^ 0)) says)
      (λ held b set. ((λ h. caught_keeps m held o landing), λ h. inl set))
      (λ y. ((λ v. right y v), λ v. inr v)))
    where
      right : (y : Fact) → ⊥ ⊎ CallSpeaks m NoUnwind o y → CallSpeaks m NoUnwind o y
      right y (inl none) = absurd none
      right y (inr v) = v

-- ---- what is never kept

module _ (m : Module) (ps : Numbered) (kind : FunctionFact) (o : Op) (bit : ℕ) where
  -- the term of no bits says what never holds
  pub never : (t : NewTerm) → t ≡ roll-NewTerm (new.Const 0) → ((held : Fact → Bool) → Keeps m held kind o → ⊥) → ((y : Fact) → KeepsSpeaks m kind o y → ⊥) →
      Says m ps (2 ^ bit) t (AsksKeeps m kind o) (KeepsSpeaks m kind o)
  never t e fails silent = subst (λ u. Says m ps (2 ^ bit) u (AsksKeeps m kind o) (KeepsSpeaks m kind o)) (sym e)
      (says_iff m ps (2 ^ bit) (roll-NewTerm (new.Const 0)) (λ held b. IsSet 0 b) (AsksKeeps m kind o) (λ y. ⊥) (KeepsSpeaks m kind o)
      (says_bits m ps (2 ^ bit) 0)
      (λ held b set. ((λ h. absurd (let none = bit_at-zero b in omega (arith, h, none))), λ h. absurd (fails held h)))
      (λ y. ((λ none. absurd none), λ v. absurd (silent y v))))
