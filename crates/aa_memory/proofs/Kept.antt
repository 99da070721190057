-- What is met in for one term, where its segment is not dead.
use Rattle.std.proofs.Common.{arith, ◌≡◌, ◌^◌, ◌⊎◌, ◌↔◌, ℕ, Bool, true, false, length, refl, sym, subst, ◌∙◌}
use Rattle.std.proofs.Common.{inl, inr}
use Rattle.std.specs.Int.{bit_at}
use Rattle.std.proofs.lemmas.Bool.{cases_eq, both_ways}
use Rattle.std.proofs.lemmas.Nat.Bits.{bit_at-pow_same, bit_at-pow_other}
use Rattle.lattice_words.specs.declared.segment.TheConstants.{DEAD}
use Rattle.ir_module.specs.declared.module.Module.{Module}
use Rattle.facts.specs.declared.pos.Pos.{Pos}
use Rattle.facts.specs.Kinds.{FunctionFact, function_bit}
use Rattle.facts.specs.Facts.{Fact, fact, segment, effect, dead}
use Rattle.facts.specs.Masks.{is_bit}
use Rattle.rule_terms.specs.declared.term.NewTerm.{NewTerm}
use Rattle.rule_terms.specs.System.{System}
use Rattle.positions.specs.Numbering.{Numbered}
use Rattle.rule_says.specs.Reading.{IsNumbering}
use Rattle.rule_says.specs.Saying.{IsSet, Has, IsSpokenOf, Says, IsUnless}
use Rattle.rule_says.specs.Meeting.{Meets, IsMet}
use Rattle.rule_says.proofs.Terms.{says_unless}
use Rattle.rule_says.proofs.Mets.{meets_iff, meets_term, AskAt, SpeakAt}
use Rattle.aa_memory.specs.Asked.{AsksLive, SpeaksLive}

-- a word of one bit has this one
pub one_bit : (bit b : ℕ) → IsSet (2 ^ bit) b ↔ (b ≡ bit)
one_bit bit b = (down, λ e. subst (λ n. bit_at (2 ^ bit) n ≡ 1) (sym e) (bit_at-pow_same bit))
  where
    down : IsSet (2 ^ bit) b → b ≡ bit
    down set = elim (cases_eq b bit) [
      | inl same ↦ same
      | inr other ↦ absurd (let none = bit_at-pow_other bit b other in omega (arith, set, none))
    ]

module _ (m : Module) (ps : Numbered) (is : IsNumbering m ps) (kind : FunctionFact) (k : ℕ) (A : (Fact → Bool) → Type 0) (S : Fact → Type 0) where
  -- the effect keeps the fact where the segment is dead or the term gives it
  pub kept : (old new : System) (bit : ℕ) (term t : NewTerm) → function_bit kind ≡ bit → length old.masks ≡ length ps.list →
      Says m ps (2 ^ bit) term (λ held b. A held) S → IsUnless ps t (segment k) DEAD term → IsMet ps old new (effect k) (2 ^ bit) t →
      Meets m ps old new (AsksLive m kind k A) (SpeaksLive m kind k S)
  kept old new bit term t same long says tested met =
      meets_iff m ps old new (AskAt m ps (effect k) (2 ^ bit) B) (AsksLive m kind k A) (SpeakAt m ps (effect k) (2 ^ bit) R) (SpeaksLive m kind k S)
      (meets_term m ps is old new (effect k) (2 ^ bit) t B R long met
      (says_unless m ps is (2 ^ bit) t (segment k) DEAD term (λ held b. A held) S (omega arith) tested says))
      (λ held q b. (down held q b, up held q b))
      (λ q y. (speak_down q y, speak_up q y))
    where
      B : (Fact → Bool) → ℕ → Type 0
      B held b = Has held (segment k) DEAD ⊎ A held

      R : Fact → Type 0
      R y = (y ≡ fact (segment k) DEAD) ⊎ S y

      alive : (held : Fact → Bool) → Has held (segment k) DEAD ⊎ A held → held (dead k) ≡ false → A held
      alive held (inl h) live = absurd (both_ways (held (dead k)) live h)
      alive held (inr h) live = h

      down : (held : Fact → Bool) (q : Pos) (b : ℕ) → AskAt m ps (effect k) (2 ^ bit) B held q b → AsksLive m kind k A held q b
      down held q b h here at has live =
          alive held (h here ((one_bit bit b).1 (at ∙ same)) (subst (λ p. is_bit m p b ≡ true) here has)) live

      decided : (held : Fact → Bool) (test : Bool) → held (dead k) ≡ test → (held (dead k) ≡ false → A held) → Has held (segment k) DEAD ⊎ A held
      decided held true e h = inl e
      decided held false e h = inr (h e)

      up : (held : Fact → Bool) (q : Pos) (b : ℕ) → AsksLive m kind k A held q b → AskAt m ps (effect k) (2 ^ bit) B held q b
      up held q b h here set has =
          decided held (held (dead k)) refl (h here ((one_bit bit b).0 set ∙ sym same) (subst (λ p. is_bit m p b ≡ true) (sym here) has))

      speak_down : (q : Pos) (y : Fact) → SpeakAt m ps (effect k) (2 ^ bit) R q y → SpeaksLive m kind k S q y
      speak_down q y w =
          let at : w.1.0 ≡ function_bit kind = (one_bit bit w.1.0).0 w.1.1 ∙ sym same in
          (w.0, subst (λ b. is_bit m q b ≡ true) at (subst (λ p. is_bit m p w.1.0 ≡ true) (sym w.0) w.1.2), w.2)

      speak_up : (q : Pos) (y : Fact) → SpeaksLive m kind k S q y → SpeakAt m ps (effect k) (2 ^ bit) R q y
      speak_up q y w = (
        w.0,
        (bit, (one_bit bit bit).1 refl, subst (λ b. is_bit m (effect k) b ≡ true) same (subst (λ p. is_bit m p (function_bit kind) ≡ true) w.0 w.1)),
        w.2,
      )

-- facts of the same positions name the same
pub says_named : (m : Module) (ps : Numbered) (bits : ℕ) (t : NewTerm) (A : (Fact → Bool) → ℕ → Type 0) (S R : Fact → Type 0) → Says m ps bits t A S →
    ((q : _) → IsSpokenOf m ps S q ↔ IsSpokenOf m ps R q) → Says m ps bits t A R
says_named m ps bits t A S R says same = record {
  over = says.over;
  means = says.means;
  named = λ q. ((λ h. (same q).0 ((says.named q).0 h)), λ w. (says.named q).1 ((same q).1 w));
}
