-- Some bits of a position are met in, unless a segment is dead.
use Rattle.std.proofs.Common.{◌≡◌, ◌∙◌, ◌⊎◌, inl, inr, ℕ, Bool, true, false, length, refl, sym, subst, arith}
use Rattle.lattice_words.specs.declared.segment.TheConstants.{DEAD}
use Rattle.ir_module.specs.declared.module.Module.{Module}
use Rattle.facts.specs.declared.pos.Pos.{Pos}
use Rattle.facts.specs.Facts.{Fact, fact, segment, dead}
use Rattle.facts.specs.Masks.{is_bit}
use Rattle.rule_terms.specs.declared.term.NewTerm.{NewTerm}
use Rattle.rule_terms.specs.System.{System}
use Rattle.positions.specs.Numbering.{Numbered}
use Rattle.rule_says.specs.Reading.{IsNumbering}
use Rattle.rule_says.specs.Saying.{IsSet, Has, Says, IsUnless}
use Rattle.rule_says.specs.Meeting.{Meets, IsMet}
use Rattle.rule_says.proofs.Terms.{says_unless}
use Rattle.rule_says.proofs.Mets.{meets_term, meets_iff, AskAt, SpeakAt}

pub by_bool : {A : Type 0} (b : Bool) → (b ≡ true → A) → (b ≡ false → A) → A
by_bool true so other = so refl
by_bool false so other = other refl

pub clash : {A : Type 0} → true ≡ false → A
clash e = absurd (cc)

module _ (m : Module) (ps : Numbered) (numbering : IsNumbering m ps) (old new : System) (p : Pos) (asked : ℕ) (T : ℕ → Type 0)
    (is : (bit : ℕ) → IsSet asked bit → T bit) (of : (bit : ℕ) → T bit → is_bit m p bit ≡ true → IsSet asked bit)
    (long : length old.masks ≡ length ps.list) where
  -- those bits T of the position
  abbrev pub AskGroup : ((Fact → Bool) → ℕ → Type 0) → (Fact → Bool) → Pos → ℕ → Type 0
  AskGroup A held q bit = q ≡ p → is_bit m q bit ≡ true → T bit → A held bit

  abbrev pub SpeakGroup : (Fact → Type 0) → Pos → Fact → Type 0
  SpeakGroup S q y = (bit : ℕ) × (q ≡ p) × (is_bit m q bit ≡ true) × T bit × S y

  -- a term for them
  pub group_met : (t : NewTerm) (A : (Fact → Bool) → ℕ → Type 0) (S : Fact → Type 0) → IsMet ps old new p asked t → Says m ps asked t A S
      → Meets m ps old new (AskGroup A) (SpeakGroup S)
  group_met t A S met says =
      meets_iff m ps old new (AskAt m ps p asked A) (AskGroup A) (SpeakAt m ps p asked S) (SpeakGroup S)
      (meets_term m ps numbering old new p asked t A S long met says)
      (λ held q bit. ((λ h at has test. down held q bit h at has test), λ h at set has. up held q bit h at set has))
      (λ q y. (
        (λ h. (h.1.0, h.0, subst (λ r. is_bit m r h.1.0 ≡ true) (sym h.0) h.1.2, is h.1.0 h.1.1, h.2)),
        λ h. (h.1, (h.0, of h.0 h.3 (subst (λ r. is_bit m r h.0 ≡ true) h.1 h.2), subst (λ r. is_bit m r h.0 ≡ true) h.1 h.2), h.4),
      ))
    where
      down : (held : Fact → Bool) (q : Pos) (bit : ℕ) → AskAt m ps p asked A held q bit → q ≡ p → is_bit m q bit ≡ true → T bit → A held bit
      down held q bit h at has test = let own = subst (λ r. is_bit m r bit ≡ true) at has in h at (of bit test own) own

      up : (held : Fact → Bool) (q : Pos) (bit : ℕ) → AskGroup A held q bit → q ≡ p → IsSet asked bit → is_bit m p bit ≡ true → A held bit
      up held q bit h at set has = h at (subst (λ r. is_bit m r bit ≡ true) (sym at) has) (is bit set)

  -- the same where a segment is not dead
  abbrev pub AskLive : ℕ → ((Fact → Bool) → ℕ → Type 0) → (Fact → Bool) → Pos → ℕ → Type 0
  AskLive k A held q bit = q ≡ p → is_bit m q bit ≡ true → T bit → held (dead k) ≡ false → A held bit

  abbrev pub SpeakLive : ℕ → (Fact → Type 0) → Pos → Fact → Type 0
  SpeakLive k S q y = (bit : ℕ) × (q ≡ p) × (is_bit m q bit ≡ true) × T bit × ((y ≡ dead k) ⊎ S y)

  pub live_met : (k : ℕ) (t u : NewTerm) (A : (Fact → Bool) → ℕ → Type 0) (S : Fact → Type 0) → IsUnless ps t (segment k) DEAD u → IsMet ps old new p asked t
      → Says m ps asked u A S → Meets m ps old new (AskLive k A) (SpeakLive k S)
  live_met k t u A S skips met says =
      meets_iff m ps old new (AskGroup (λ held bit. Has held (segment k) DEAD ⊎ A held bit)) (AskLive k A)
      (SpeakGroup (λ y. (y ≡ fact (segment k) DEAD) ⊎ S y)) (SpeakLive k S)
      (group_met t (λ held bit. Has held (segment k) DEAD ⊎ A held bit) (λ y. (y ≡ fact (segment k) DEAD) ⊎ S y) met
      (says_unless m ps numbering asked t (segment k) DEAD u A S (omega arith) skips says))
      (λ held q bit. ((λ h at has test live. down held bit live (h at has test)), λ h at has test. up held bit (λ live. h at has test live)))
      (λ q y. ((λ h. h), λ h. h))
    where
      down : (held : Fact → Bool) (bit : ℕ) → held (dead k) ≡ false → Has held (segment k) DEAD ⊎ A held bit → A held bit
      down held bit live (inl gone) = clash (sym gone ∙ live)
      down held bit live (inr h) = h

      up : (held : Fact → Bool) (bit : ℕ) → (held (dead k) ≡ false → A held bit) → Has held (segment k) DEAD ⊎ A held bit
      up held bit h = by_bool (held (dead k)) (λ gone. inl gone) (λ live. inr (h live))
