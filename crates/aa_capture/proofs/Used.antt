-- What is met in for one use of a value.
use Rattle.std.proofs.Common.{arith, ◌≡◌, ◌&&◌, ◌⊎◌, ℕ, Bool, true, false, length, slice_get, Option, None, Some, refl, sym, ap, subst, ◌∙◌, inl, inr}
use Rattle.std.proofs.lemmas.Bool.{both_ways, and_parts, and_from}
use Rattle.attr_ids.specs.declared.ids.ValueId.{ValueId}
use Rattle.lattice_words.specs.declared.segment.TheConstants.{DEAD}
use Rattle.lattice_words.specs.declared.value.TheConstants.{ALL_USES}
use Rattle.ir_module.specs.declared.op.Operand.{Operand}
use Rattle.ir_module.specs.declared.op.Operand.TheVariants as operand
use Rattle.ir_module.specs.declared.module.ValueInfo.{ValueInfo}
use Rattle.ir_module.specs.declared.module.Module.{Module}
use Rattle.facts.specs.declared.pos.Pos.{Pos}
use Rattle.facts.specs.Kinds.{Read, Write, UseFact, CapturedByReturnAlone, NotReturned, NotThrough, use_bit}
use Rattle.facts.specs.Bodies.{is_body, is_pointer, param_count}
use Rattle.facts.specs.Facts.{Fact, fact, segment, value, dead}
use Rattle.facts.specs.Masks.{is_built, is_bit_up_to, is_value_bit, has_bit_of, is_bit}
use Rattle.rule_terms.specs.declared.term.NewTerm.{NewTerm}
use Rattle.rule_terms.specs.System.{System}
use Rattle.positions.specs.Numbering.{Numbered}
use Rattle.rule_says.specs.Reading.{IsNumbering}
use Rattle.rule_says.specs.Saying.{IsSet, Has, Says, IsUnless}
use Rattle.rule_says.specs.Meeting.{Meets, IsMet}
use Rattle.rule_says.proofs.Terms.{says_unless}
use Rattle.rule_says.proofs.Mets.{meets_iff, meets_term, AskAt, SpeakAt}
use Rattle.aa_capture.specs.Asked.{AsksEach, SpeaksEach}
use Rattle.aa_capture.proofs.Words.{kind_of, kind_set}

-- ---- masks

built_alike : (v : ℕ) (kind : UseFact) → is_built (value v) (use_bit kind) ≡ is_built (value v) (use_bit NotReturned)
built_alike v CapturedByReturnAlone = refl
built_alike v NotReturned = refl
built_alike v (NotThrough Read) = refl
built_alike v (NotThrough Write) = refl

has_alike : (m : Module) (info : Option ValueInfo) (kind : UseFact) → is_value_bit m (use_bit kind) info ≡ is_value_bit m (use_bit NotReturned) info
has_alike m None kind = refl
has_alike m (Some info) kind = ap (λ b. is_body m info.func.0 && b) (by (is_pointer m info.ty) kind)
  where
    by : (b : Bool) (kind : UseFact) → is_bit_up_to 46 b (param_count m info.func.0) (use_bit kind) ≡
        is_bit_up_to 46 b (param_count m info.func.0) (use_bit NotReturned)
    by true CapturedByReturnAlone = refl
    by true NotReturned = refl
    by true (NotThrough Read) = refl
    by true (NotThrough Write) = refl
    by false CapturedByReturnAlone = refl
    by false NotReturned = refl
    by false (NotThrough Read) = refl
    by false (NotThrough Write) = refl

-- a value that may have one fact of uses may have each
pub bits_alike : (m : Module) (v : ℕ) (a b : UseFact) → is_bit m (value v) (use_bit a) ≡ true → is_bit m (value v) (use_bit b) ≡ true
bits_alike m v a b has =
    let parts = and_parts (is_built (value v) (use_bit a)) (has_bit_of m (value v) (use_bit a)) has in
    and_from (is_built (value v) (use_bit b)) (has_bit_of m (value v) (use_bit b))
    (built_alike v b ∙ (sym (built_alike v a) ∙ parts.0))
    (has_alike m (slice_get m.values v) b ∙ (sym (has_alike m (slice_get m.values v) a) ∙ parts.1))

module _ (m : Module) (ps : Numbered) (is : IsNumbering m ps) (k : ℕ) (A : UseFact → (Fact → Bool) → Type 0) (S : UseFact → Fact → Type 0) (w : Operand) where
  -- if the operand is a value, it has a fact of uses only where something holds, or segment k is dead
  abbrev pub AsksOf : (Fact → Bool) → Pos → ℕ → Type 0
  AsksOf held p bit = (kind : UseFact) (v : ℕ) → w ≡ operand.Value (record { 0 = v }) → p ≡ value v → bit ≡ use_bit kind → is_bit m p bit ≡ true →
      held (dead k) ≡ false → A kind held

  abbrev pub SpeaksOf : Pos → Fact → Type 0
  SpeaksOf p y = (kind : UseFact) × (v : ℕ) × (w ≡ operand.Value (record { 0 = v })) × (p ≡ value v) × (is_bit m p (use_bit kind) ≡ true) ×
      ((y ≡ dead k) ⊎ S kind y)

  module _ (v : ValueId) (named : w ≡ operand.Value v) where
    abbrev B : (Fact → Bool) → ℕ → Type 0
    B held b = Has held (segment k) DEAD ⊎ AsksEach A held b

    abbrev R : Fact → Type 0
    R y = (y ≡ fact (segment k) DEAD) ⊎ SpeaksEach S y

    same : (u : ℕ) → w ≡ operand.Value (record { 0 = u }) → u ≡ v.0
    same u e = (let f = named in cc)

    alive : (held : Fact → Bool) (b : ℕ) (kind : UseFact) → b ≡ use_bit kind → B held b → held (dead k) ≡ false → A kind held
    alive held b kind e (inl h) live = absurd (both_ways (held (dead k)) live h)
    alive held b kind e (inr h) live = h kind e

    down : (held : Fact → Bool) (q : Pos) (b : ℕ) → AskAt m ps (value v.0) ALL_USES B held q b → AsksOf held q b
    down held q b h kind u of here at has live =
        let place : q ≡ value v.0 = here ∙ ap value (same u of) in
        alive held b kind at (h place (subst (λ n. IsSet ALL_USES n) (sym at) (kind_set kind)) (subst (λ p. is_bit m p b ≡ true) place has)) live

    decided : (held : Fact → Bool) (b : ℕ) (test : Bool) → held (dead k) ≡ test → (held (dead k) ≡ false → AsksEach A held b) → B held b
    decided held b true e h = inl e
    decided held b false e h = inr (h e)

    up : (held : Fact → Bool) (q : Pos) (b : ℕ) → AsksOf held q b → AskAt m ps (value v.0) ALL_USES B held q b
    up held q b h here set has =
        decided held b (held (dead k)) refl
        (λ live kind e. h kind v.0 named here e (subst (λ p. is_bit m p b ≡ true) (sym here) has) live)

    bit_there : (q : Pos) (b : ℕ) (kind : UseFact) → q ≡ value v.0 → IsSet ALL_USES b → is_bit m (value v.0) b ≡ true → is_bit m q (use_bit kind) ≡ true
    bit_there q b kind here set has =
        let w = kind_of b set in
        subst (λ p. is_bit m p (use_bit kind) ≡ true) (sym here)
        (bits_alike m v.0 w.0 kind (subst (λ n. is_bit m (value v.0) n ≡ true) w.1 has))

    speak_down : (q : Pos) (y : Fact) → SpeakAt m ps (value v.0) ALL_USES R q y → SpeaksOf q y
    speak_down q y s = by s.2
      where
        by : R y → SpeaksOf q y
        by (inl e) = (NotReturned, v.0, named, s.0, bit_there q s.1.0 NotReturned s.0 s.1.1 s.1.2, inl e)
        by (inr r) = (r.0, v.0, named, s.0, bit_there q s.1.0 r.0 s.0 s.1.1 s.1.2, inr r.1)

    speak_up : (q : Pos) (y : Fact) → SpeaksOf q y → SpeakAt m ps (value v.0) ALL_USES R q y
    speak_up q y s =
        let place : q ≡ value v.0 = s.3 ∙ ap value (same s.1 s.2) in
        (place, (use_bit s.0, kind_set s.0, subst (λ p. is_bit m p (use_bit s.0) ≡ true) place s.4), by s.5)
      where
        by : (y ≡ dead k) ⊎ S s.0 y → R y
        by (inl e) = inl e
        by (inr r) = inr (s.0, r)

    pub used_met : (old new : System) (term t : NewTerm) → length old.masks ≡ length ps.list → Says m ps ALL_USES term (AsksEach A) (SpeaksEach S) →
        IsUnless ps t (segment k) DEAD term → IsMet ps old new (value v.0) ALL_USES t → Meets m ps old new AsksOf SpeaksOf
    used_met old new term t long says tested met =
        meets_iff m ps old new (AskAt m ps (value v.0) ALL_USES B) AsksOf (SpeakAt m ps (value v.0) ALL_USES R) SpeaksOf
        (meets_term m ps is old new (value v.0) ALL_USES t B R long met
        (says_unless m ps is ALL_USES t (segment k) DEAD term (AsksEach A) (SpeaksEach S) (omega arith) tested says))
        (λ held q b. (down held q b, up held q b))
        (λ q y. (speak_down q y, speak_up q y))
