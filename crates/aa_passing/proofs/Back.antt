-- What a `ret` gives back.
use Rattle.std.proofs.Common.{◌≡◌, ◌∙◌, ◌⊎◌, ◌↔◌, ◌&&◌, ◌||◌, ◌<◌, not, nat_le, nat_lt, inl, inr}
use Rattle.std.proofs.Common.{ℕ, Bool, true, false, length, slice_get, Option, None, Some, refl, sym, ap, subst, arith}
use Rattle.std.proofs.lemmas.Bool.{and_parts, leb-true, ltb-true}
use Rattle.std.proofs.lemmas.Nat.Bits.{bit_at-zero}
use Rattle.lattice_words.specs.Words.{word_of}
use Rattle.lattice_words.specs.Ladders.{is_byte_bit}
use Rattle.lattice_words.specs.declared.segment.TheConstants.{DEAD}
use Rattle.lattice_words.specs.declared.value.TheConstants.{ALL_BYTES}
use Rattle.ir_module.specs.declared.op.Written.{Written}
use Rattle.ir_module.specs.declared.module.Func.{Func}
use Rattle.ir_module.specs.declared.module.Module.{Module}
use Rattle.facts.specs.declared.pos.Pos.{Pos}
use Rattle.facts.specs.Bodies.{is_body, is_pointer, is_void}
use Rattle.facts.specs.Kinds.{OwnAlloca, Unknown, class_bit}
use Rattle.facts.specs.Facts.{Fact, segment, returned, dead}
use Rattle.facts.specs.Masks.{is_built, is_same_bit, is_bit_up_to, is_return_bit, has_bit_of, is_bit}
use Rattle.rule_terms.specs.declared.term.NewTerm.{NewTerm}
use Rattle.rule_terms.specs.declared.term.NewTerm.TheOpen.{NewTerm-F as made}
use Rattle.rule_terms.specs.declared.term.NewTerm.TheViews.{roll-NewTerm}
use Rattle.rule_terms.specs.System.{System}
use Rattle.positions.specs.Numbering.{Numbered}
use Rattle.rule_says.specs.Reading.{IsNumbering}
use Rattle.rule_says.specs.Saying.{IsSet, Says, IsUnless}
use Rattle.rule_says.specs.Meeting.{Meets, IsMet}
use Rattle.rule_says.proofs.Terms.{says_bits, says_and}
use Rattle.rule_says.proofs.Mets.{meets_iff}
use Rattle.operand_says.specs.Asked.{AsksOperand, SpeaksOperand, AsksBit, SpeaksBit}
use Rattle.operand_says.proofs.Bits.{test_bits, bytes_set}
use Rattle.operand_says.proofs.Groups.{live_met, AskLive, SpeakLive, by_bool, clash}
use Rattle.aa_passing.specs.Returned.{AsksPlain, SpeaksPlain, AsksLasting, SpeaksLasting, SpeaksRungs, AsksBytes, SpeaksBytes}
use Rattle.aa_passing.specs.Returned.{AsksNothing, SpeaksNothing}

-- ---- the bits of a return
abbrev pub is_plain : ℕ → Bool
is_plain bit = not (is_byte_bit bit)

plain_word : 8246345596927 ≡ word_of is_plain 43
unfolding word_of
plain_word = refl

plain_set : (bit : ℕ) → IsSet 8246345596927 bit ↔ ((bit < 43) × (is_plain bit ≡ true))
plain_set bit = test_bits is_plain 43 8246345596927 plain_word (omega arith) bit

all_word : 8796093022207 ≡ word_of (λ bit. true) 43
unfolding word_of
all_word = refl

all_set : (bit : ℕ) → IsSet 8796093022207 bit ↔ ((bit < 43) × (true ≡ true))
all_set bit = test_bits (λ b. true) 43 8796093022207 all_word (omega arith) bit

crash : {A : Type 0} → false ≡ true → A
crash e = absurd (cc)

unplain : (b : Bool) → not b ≡ true → b ≡ false
unplain true e = crash e
unplain false e = refl

plainly : (b : Bool) → b ≡ false → not b ≡ true
plainly b e = ap not e

same_low : (params bit : ℕ) → is_same_bit params bit ≡ true → bit < 43
same_low params bit e = let l = ltb-true bit 16 (and_parts (nat_lt bit 16) (nat_lt bit params) e).0 in omega (arith, l)

up_to_low : (pointer : Bool) (params bit : ℕ) → is_bit_up_to 42 pointer params bit ≡ true → bit < 43
up_to_low true params bit e = let l = leb-true bit 42 (and_parts (nat_le bit 42) (is_same_bit params bit || nat_le 16 bit) e).0 in omega (arith, l)
up_to_low false params bit e = same_low params bit e

by_func : (m : Module) (f bit : ℕ) (o : Option Func) → is_return_bit m f bit o ≡ true → bit < 43
by_func m f bit None e = crash e
by_func m f bit (Some func) e =
    up_to_low (is_pointer m func.ret) (length func.params) bit
    (and_parts (not (is_void m func.ret)) (is_bit_up_to 42 (is_pointer m func.ret) (length func.params) bit)
    (and_parts (is_body m f) (not (is_void m func.ret) && is_bit_up_to 42 (is_pointer m func.ret) (length func.params) bit) e).1).1

pub return_low : (m : Module) (f bit : ℕ) → is_bit m (returned f) bit ≡ true → bit < 43
return_low m f bit e = by_func m f bit (slice_get m.funcs f) (and_parts (is_built (returned f) bit) (has_bit_of m (returned f) bit) e).1

-- ---- terms
module _ (m : Module) (ps : Numbered) (w : Written) where
  pub lasting_says : (asked : ℕ) (t of own unknown classes : NewTerm) → t ≡ roll-NewTerm (made.And of classes) → classes ≡ roll-NewTerm (made.And own unknown)
      → Says m ps asked of (AsksOperand m w) (SpeaksOperand w asked)
      → Says m ps asked own (AsksBit m w (class_bit OwnAlloca)) (SpeaksBit w (class_bit OwnAlloca))
      → Says m ps asked unknown (AsksBit m w (class_bit Unknown)) (SpeaksBit w (class_bit Unknown))
      → Says m ps asked t (AsksLasting m w) (SpeaksRungs w asked)
  lasting_says asked t of own unknown classes is both says_of says_own says_unknown =
      subst (λ z. Says m ps asked z (AsksLasting m w) (SpeaksRungs w asked)) (sym (is ∙ ap (λ z. roll-NewTerm (made.And of z)) both))
      (says_and m ps asked of (roll-NewTerm (made.And own unknown)) (AsksOperand m w)
      (λ held b. AsksBit m w (class_bit OwnAlloca) held b × AsksBit m w (class_bit Unknown) held b) (SpeaksOperand w asked)
      (λ y. SpeaksBit w (class_bit OwnAlloca) y ⊎ SpeaksBit w (class_bit Unknown) y) says_of
      (says_and m ps asked own unknown (AsksBit m w (class_bit OwnAlloca)) (AsksBit m w (class_bit Unknown)) (SpeaksBit w (class_bit OwnAlloca))
      (SpeaksBit w (class_bit Unknown)) says_own says_unknown))

-- ---- what is met in
module _ (m : Module) (ps : Numbered) (numbering : IsNumbering m ps) (k f : ℕ) (old new : System) (long : length old.masks ≡ length ps.list) where
  module _ (w : Written) (asked : ℕ) where
    abbrev T : ℕ → Type 0
    T bit = is_byte_bit bit ≡ false

    pub plain_met : ((bit : ℕ) → IsSet asked bit ↔ (IsSet 8246345596927 bit × (is_bit m (returned f) bit ≡ true))) → (t u : NewTerm)
        → IsUnless ps t (segment k) DEAD u → IsMet ps old new (returned f) asked t → Says m ps asked u (AsksOperand m w) (SpeaksOperand w asked)
        → Meets m ps old new (AsksPlain m k f w) (SpeaksPlain m k f w)
    plain_met set t u skips met says =
        meets_iff m ps old new (AskLive m ps numbering old new (returned f) asked T is of long k (AsksOperand m w)) (AsksPlain m k f w)
        (SpeakLive m ps numbering old new (returned f) asked T is of long k (SpeaksOperand w asked)) (SpeaksPlain m k f w)
        (live_met m ps numbering old new (returned f) asked T is of long k t u (AsksOperand m w) (SpeaksOperand w asked) skips met says)
        (λ held p bit. ((λ h. h), λ h. h)) (λ p y. (down p y, up p y))
      where
        is : (bit : ℕ) → IsSet asked bit → is_byte_bit bit ≡ false
        is bit h = unplain (is_byte_bit bit) ((plain_set bit).0 ((set bit).0 h).0).1

        of : (bit : ℕ) → is_byte_bit bit ≡ false → is_bit m (returned f) bit ≡ true → IsSet asked bit
        of bit h has = (set bit).1 ((plain_set bit).1 (return_low m f bit has, plainly (is_byte_bit bit) h), has)

        down : (p : Pos) (y : Fact) → SpeakLive m ps numbering old new (returned f) asked T is of long k (SpeaksOperand w asked) p y → SpeaksPlain m k f w p y
        down p y h = elim h.4 [
          | inl gone ↦ (h.0, h.1, h.2, h.3, inl gone)
          | inr s ↦ (s.0, h.1, subst (λ q. is_bit m q s.0 ≡ true) (sym h.1) ((set s.0).0 s.1).1, is s.0 s.1, inr s.2)
        ]

        up : (p : Pos) (y : Fact) → SpeaksPlain m k f w p y → SpeakLive m ps numbering old new (returned f) asked T is of long k (SpeaksOperand w asked) p y
        up p y h = elim h.4 [
          | inl gone ↦ (h.0, h.1, h.2, h.3, inl gone)
          | inr s ↦ (h.0, h.1, h.2, h.3, inr (h.0, of h.0 h.3 (subst (λ q. is_bit m q h.0 ≡ true) h.1 h.2), s))
        ]

    abbrev B : ℕ → Type 0
    B bit = is_byte_bit bit ≡ true

    pub rungs_met : ((bit : ℕ) → IsSet asked bit ↔ (IsSet ALL_BYTES bit × (is_bit m (returned f) bit ≡ true))) → (t u : NewTerm)
        → IsUnless ps t (segment k) DEAD u → IsMet ps old new (returned f) asked t → Says m ps asked u (AsksLasting m w) (SpeaksRungs w asked)
        → Meets m ps old new (AsksBytes m k f w) (SpeaksBytes m k f w)
    rungs_met set t u skips met says =
        meets_iff m ps old new (AskLive m ps numbering old new (returned f) asked B is of long k (AsksLasting m w)) (AsksBytes m k f w)
        (SpeakLive m ps numbering old new (returned f) asked B is of long k (SpeaksRungs w asked)) (SpeaksBytes m k f w)
        (live_met m ps numbering old new (returned f) asked B is of long k t u (AsksLasting m w) (SpeaksRungs w asked) skips met says)
        (λ held p bit. ((λ h. h), λ h. h)) (λ p y. ((λ h. down p y h.0 h.1 h.2 h.3 h.4), λ h. up p y h.0 h.1 h.2 h.3 h.4))
      where
        is : (bit : ℕ) → IsSet asked bit → is_byte_bit bit ≡ true
        is bit h = ((bytes_set bit).0 ((set bit).0 h).0).1

        of : (bit : ℕ) → is_byte_bit bit ≡ true → is_bit m (returned f) bit ≡ true → IsSet asked bit
        of bit h has = (set bit).1 ((bytes_set bit).1 (return_low m f bit has, h), has)

        down : (p : Pos) (y : Fact) (bit : ℕ) → p ≡ returned f → is_bit m p bit ≡ true → is_byte_bit bit ≡ true → (y ≡ dead k) ⊎ SpeaksRungs w asked y
            → SpeaksBytes m k f w p y
        down p y bit at has byte (inl gone) = (bit, at, has, byte, inl gone)
        down p y bit at has byte (inr (inl s)) =
            (s.0, at, subst (λ q. is_bit m q s.0 ≡ true) (sym at) ((set s.0).0 s.1).1, is s.0 s.1, inr (inl s.2))
        down p y bit at has byte (inr (inr s)) = (bit, at, has, byte, inr (inr s))

        up : (p : Pos) (y : Fact) (bit : ℕ) → p ≡ returned f → is_bit m p bit ≡ true → is_byte_bit bit ≡ true → (y ≡ dead k) ⊎ SpeaksLasting w bit y
            → SpeakLive m ps numbering old new (returned f) asked B is of long k (SpeaksRungs w asked) p y
        up p y bit at has byte (inl gone) = (bit, at, has, byte, inl gone)
        up p y bit at has byte (inr (inl s)) = (bit, at, has, byte, inr (inl (bit, of bit byte (subst (λ q. is_bit m q bit ≡ true) at has), s)))
        up p y bit at has byte (inr (inr s)) = (bit, at, has, byte, inr (inr s))

  pub nothing_met : (t u : NewTerm) → IsUnless ps t (segment k) DEAD u → u ≡ roll-NewTerm (made.Const 0) → IsMet ps old new (returned f) 8796093022207 t
      → Meets m ps old new (AsksNothing m k f) (SpeaksNothing m k f)
  nothing_met t u skips none met =
      meets_iff m ps old new (AskLive m ps numbering old new (returned f) 8796093022207 N is of long k (λ held bit. IsSet 0 bit)) (AsksNothing m k f)
      (SpeakLive m ps numbering old new (returned f) 8796093022207 N is of long k (λ y. ⊥)) (SpeaksNothing m k f)
      (live_met m ps numbering old new (returned f) 8796093022207 N is of long k t u (λ held bit. IsSet 0 bit) (λ y. ⊥) skips met
      (subst (λ z. Says m ps 8796093022207 z (λ held bit. IsSet 0 bit) (λ y. ⊥)) (sym none) (says_bits m ps 8796093022207 0)))
      (λ held p bit. (
        (λ h at has. by_bool (held (dead k)) (λ gone. gone) (λ live. absurd (unset bit (h at has tt live)))),
        λ h at has test live. clash (sym (h at has) ∙ live),
      ))
      (λ p y. ((λ h. (h.0, h.1, h.2, gone y h.4)), λ h. (h.0, h.1, h.2, tt, inl h.3)))
    where
      N : ℕ → Type 0
      N bit = Unit {0}

      is : (bit : ℕ) → IsSet 8796093022207 bit → N bit
      is bit h = tt

      of : (bit : ℕ) → N bit → is_bit m (returned f) bit ≡ true → IsSet 8796093022207 bit
      of bit h has = (all_set bit).1 (return_low m f bit has, refl)

      unset : (bit : ℕ) → IsSet 0 bit → ⊥
      unset bit h = absurd (let z = bit_at-zero bit in omega (arith, h, z))

      gone : (y : Fact) → (y ≡ dead k) ⊎ ⊥ → y ≡ dead k
      gone y (inl h) = h
      gone y (inr h) = absurd h
