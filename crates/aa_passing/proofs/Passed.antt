-- What pointer parameters have at entries: from the outside, and by calls.
use Rattle.std.proofs.Common.{◌≡◌, ◌∙◌, ◌⊎◌, ◌↔◌, ◌&&◌, ◌+◌, ◌<◌, ◌≤◌, not, nat_le, inl}
use Rattle.std.proofs.Common.{inr, ℕ, zero, suc, Bool, true, false, length, slice_get, Some}
use Rattle.std.proofs.Common.{if◌then◌else◌, ◌==◌, refl, sym, ap, subst, arith}
use Rattle.std.proofs.lemmas.Bool.{and_parts, leb-true}
use Rattle.std.proofs.lemmas.Option.{none-some, same_Some}
use Rattle.lattice_words.specs.Words.{word_of}
use Rattle.lattice_words.specs.Ladders.{is_byte_bit, align_rungs}
use Rattle.lattice_words.specs.declared.segment.TheConstants.{DEAD}
use Rattle.lattice_words.specs.declared.value.TheConstants.{ALL_BYTES, ALIGN_2}
use Rattle.lattice_words.proofs.WordBits.{word_of-lt}
use Rattle.ir_module.specs.declared.op.Op.{Op}
use Rattle.ir_module.specs.declared.module.Param.{Param}
use Rattle.ir_module.specs.declared.module.Module.{Module}
use Rattle.ir_module.specs.Calls.{is_open}
use Rattle.facts.specs.declared.pos.Pos.{Pos}
use Rattle.facts.specs.Bodies.{is_body, is_pointer, param_of}
use Rattle.facts.specs.Facts.{Fact, fact, segment, entry, dead}
use Rattle.facts.specs.Masks.{is_built, is_pointer_param, has_bit_of, is_bit}
use Rattle.facts.specs.Known.{arg_has, ArgSpeaks}
use Rattle.rule_terms.specs.declared.term.NewTerm.{NewTerm}
use Rattle.rule_terms.specs.declared.term.NewTerm.TheOpen.{NewTerm-F as made}
use Rattle.rule_terms.specs.declared.term.NewTerm.TheViews.{roll-NewTerm}
use Rattle.rule_terms.specs.System.{System}
use Rattle.positions.specs.Numbering.{Numbered}
use Rattle.rule_says.specs.Reading.{IsNumbering}
use Rattle.rule_says.specs.Saying.{IsSet, Has, Says, IsUnless}
use Rattle.rule_says.specs.Meeting.{Meets, IsMet}
use Rattle.rule_says.proofs.Terms.{says_bits, says_and, says_or, says_iff, says_unless}
use Rattle.rule_says.proofs.Mets.{meets_none, meets_iff}
use Rattle.operand_says.specs.Asked.{AsksArgument, SpeaksArgument, AsksGiven, SpeaksGiven}
use Rattle.operand_says.proofs.Bits.{test_bits, bytes_set}
use Rattle.operand_says.proofs.Groups.{group_met, AskGroup, SpeakGroup, by_bool, clash}
use Rattle.aa_passing.specs.Entered.{is_given, AsksStart, SpeaksStart, AsksReached, SpeaksAligned, SpeaksReached, AsksHanded, SpeaksHanded}
use Rattle.aa_passing.specs.Entered.{AsksRungs, SpeaksRungs, AsksPass, SpeaksPass}

-- ---- the bits of an entry
crash : {A : Type 0} → false ≡ true → A
crash e = absurd (cc)

abbrev pub in_entry : ℕ → Bool
in_entry bit = nat_le 16 bit && nat_le bit 38

abbrev pub is_plain : ℕ → Bool
is_plain bit = in_entry bit && not (is_byte_bit bit)

all_word : 549755748352 ≡ word_of in_entry 43
unfolding word_of
all_word = refl

all_set : (bit : ℕ) → IsSet 549755748352 bit ↔ ((bit < 43) × (in_entry bit ≡ true))
all_set bit = test_bits in_entry 43 549755748352 all_word (omega arith) bit

plain_word : 8323072 ≡ word_of is_plain 43
unfolding word_of
plain_word = refl

plain_set : (bit : ℕ) → IsSet 8323072 bit ↔ ((bit < 43) × (is_plain bit ≡ true))
plain_set bit = test_bits is_plain 43 8323072 plain_word (omega arith) bit

unplain : (b : Bool) → not b ≡ true → b ≡ false
unplain true e = crash e
unplain false e = refl

both_true : (a b : Bool) → a ≡ true → b ≡ true → a && b ≡ true
both_true true b e h = h
both_true false b e h = crash e

module _ (m : Module) (f at : ℕ) where
  parts : (bit : ℕ) → is_bit m (entry f at) bit ≡ true → (is_body m f ≡ true) × ((is_pointer_param m (param_of m f at) ≡ true) × (in_entry bit ≡ true))
  parts bit e =
      let has = (and_parts (is_built (entry f at) bit) (has_bit_of m (entry f at) bit) e).1 in
      let one = and_parts (is_body m f) (is_pointer_param m (param_of m f at) && in_entry bit) has in
      (one.0, and_parts (is_pointer_param m (param_of m f at)) (in_entry bit) one.1)

  pub entry_body : (bit : ℕ) → is_bit m (entry f at) bit ≡ true → is_body m f ≡ true
  entry_body bit e = (parts bit e).0

  pub entry_pointer : (bit : ℕ) → is_bit m (entry f at) bit ≡ true → is_pointer_param m (param_of m f at) ≡ true
  entry_pointer bit e = (parts bit e).1.0

  entry_in : (bit : ℕ) → is_bit m (entry f at) bit ≡ true → in_entry bit ≡ true
  entry_in bit e = (parts bit e).1.1

  pub entry_low : (bit : ℕ) → is_bit m (entry f at) bit ≡ true → bit < 43
  entry_low bit e = let l = leb-true bit 38 (and_parts (nat_le 16 bit) (nat_le bit 38) (entry_in bit e)).1 in omega (arith, l)

-- ---- the rungs of alignment
rank : ℕ → ℕ
rank a = if a == 2 then 0 else (if a == 4 then 1 else (if a == 8 then 2 else (if a == 16 then 3 else (if a == 32 then 4 else 5))))

ranked : (r a : ℕ) → slice_get align_rungs r ≡ Some a → r ≡ rank a
unfolding rank
ranked zero a at = subst (λ z. 0 ≡ rank z) (same_Some 2 a at) refl
ranked (suc zero) a at = subst (λ z. 1 ≡ rank z) (same_Some 4 a at) refl
ranked (suc (suc zero)) a at = subst (λ z. 2 ≡ rank z) (same_Some 8 a at) refl
ranked (suc (suc (suc zero))) a at = subst (λ z. 3 ≡ rank z) (same_Some 16 a at) refl
ranked (suc (suc (suc (suc zero)))) a at = subst (λ z. 4 ≡ rank z) (same_Some 32 a at) refl
ranked (suc (suc (suc (suc (suc zero))))) a at = subst (λ z. 5 ≡ rank z) (same_Some 64 a at) refl
ranked (suc (suc (suc (suc (suc (suc r)))))) a at = absurd (none-some a at)

same_rung : (r k a : ℕ) → slice_get align_rungs r ≡ Some a → slice_get align_rungs k ≡ Some a → r ≡ k
same_rung r k a one other = ranked r a one ∙ sym (ranked k a other)

-- ---- terms
module _ (m : Module) (ps : Numbered) (o : Op) (at align asked : ℕ) where
  pub unaligned_says : (t : NewTerm) → ((r : ℕ) → slice_get align_rungs r ≡ Some align → ⊥)
      → Says m ps asked t (AsksArgument m o at) (SpeaksArgument o at asked) → Says m ps asked t (AsksReached m o at align) (SpeaksReached o at align asked)
  unaligned_says t none says =
      says_iff m ps asked t (AsksArgument m o at) (AsksReached m o at align) (SpeaksArgument o at asked) (SpeaksReached o at align asked) says
      (λ held bit set. ((λ h. (h, λ r there. absurd (none r there))), λ h. h.0))
      (λ y. ((λ h. inl h), λ h. back y h))
    where
      back : (y : Fact) → SpeaksReached o at align asked y → SpeaksArgument o at asked y
      back y (inl h) = h
      back y (inr h) = absurd (none h.0 h.1)

  pub aligned_says : (k : ℕ) (t u v : NewTerm) → slice_get align_rungs k ≡ Some align → t ≡ roll-NewTerm (made.And u v)
      → Says m ps asked u (AsksArgument m o at) (SpeaksArgument o at asked)
      → Says m ps asked v (AsksGiven m o at (ALIGN_2 + k)) (SpeaksGiven o at (ALIGN_2 + k))
      → Says m ps asked t (AsksReached m o at align) (SpeaksReached o at align asked)
  aligned_says k t u v there is says_u says_v =
      subst (λ z. Says m ps asked z (AsksReached m o at align) (SpeaksReached o at align asked)) (sym is)
      (says_iff m ps asked (roll-NewTerm (made.And u v)) (λ held bit. AsksArgument m o at held bit × AsksGiven m o at (ALIGN_2 + k) held bit)
      (AsksReached m o at align) (λ y. SpeaksArgument o at asked y ⊎ SpeaksGiven o at (ALIGN_2 + k) y) (SpeaksReached o at align asked)
      (says_and m ps asked u v (AsksArgument m o at) (AsksGiven m o at (ALIGN_2 + k)) (SpeaksArgument o at asked) (SpeaksGiven o at (ALIGN_2 + k))
      says_u says_v)
      (λ held bit set. (
        (λ h. (h.0, λ r place. subst (λ n. arg_has m held o at (ALIGN_2 + n) ≡ true) (same_rung k r align there place) h.1)),
        λ h. (h.0, h.1 k there),
      ))
      (λ y. ((λ h. down y h), λ h. up y h)))
    where
      down : (y : Fact) → SpeaksArgument o at asked y ⊎ SpeaksGiven o at (ALIGN_2 + k) y → SpeaksReached o at align asked y
      down y (inl h) = inl h
      down y (inr h) = inr (k, there, h)

      up : (y : Fact) → SpeaksReached o at align asked y → SpeaksArgument o at asked y ⊎ SpeaksGiven o at (ALIGN_2 + k) y
      up y (inl h) = inl h
      up y (inr h) = inr (subst (λ n. ArgSpeaks o at (ALIGN_2 + n) y) (same_rung h.0 k align h.1 there) h.2)

-- ---- what is met in
module _ (m : Module) (ps : Numbered) (numbering : IsNumbering m ps) (f at : ℕ) (q : Param) (param : param_of m f at ≡ Some q) (s : System) where
  pointer_is : (bit : ℕ) → is_bit m (entry f at) bit ≡ true → is_pointer m q.ty ≡ true
  pointer_is bit has = sym (ap (is_pointer_param m) param) ∙ entry_pointer m f at bit has

  -- what is no pointer has no bits
  no_bits : is_pointer m q.ty ≡ false → (p : Pos) (bit : ℕ) → p ≡ entry f at → is_bit m p bit ≡ true → ⊥
  no_bits other p bit same has = clash (sym (pointer_is bit (subst (λ r. is_bit m r bit ≡ true) same has)) ∙ other)

  pub start_none : is_pointer m q.ty ≡ false → Meets m ps s s (AsksStart m f at q) (SpeaksStart m f at q)
  start_none other = meets_iff m ps s s (λ held p bit. Unit {0}) (AsksStart m f at q) (λ p y. ⊥) (SpeaksStart m f at q) (meets_none m ps s)
      (λ held p bit. ((λ h same has ungiven. absurd (no_bits other p bit same has)), λ h. tt)) (λ p y. ((λ h. h), λ h. h))

  pub start_fine : is_open m f ≡ false → q.attrs.align ≤ 64 → Meets m ps s s (AsksStart m f at q) (SpeaksStart m f at q)
  start_fine closed low = meets_iff m ps s s (λ held p bit. Unit {0}) (AsksStart m f at q) (λ p y. ⊥) (SpeaksStart m f at q) (meets_none m ps s)
      (λ held p bit. ((λ h same has ungiven. (closed, λ byte. low)), λ h. tt)) (λ p y. ((λ h. h), λ h. h))

  pub pass_none : (k : ℕ) (o : Op) → is_pointer m q.ty ≡ false → Meets m ps s s (AsksPass m k o f at q) (SpeaksPass m k o f at q)
  pass_none k o other = meets_iff m ps s s (λ held p bit. Unit {0}) (AsksPass m k o f at q) (λ p y. ⊥) (SpeaksPass m k o f at q) (meets_none m ps s)
      (λ held p bit. ((λ h. ((λ same has. absurd (no_bits other p bit same has)), λ same has. absurd (no_bits other p bit same has))), λ h. tt))
      (λ p y. ((λ h. absurd h), λ h. none p y h))
    where
      none : (p : Pos) (y : Fact) → SpeaksPass m k o f at q p y → ⊥
      none p y (inl h) = no_bits other p h.0 h.1 h.2
      none p y (inr h) = no_bits other p h.0 h.1 h.2

module _ (m : Module) (ps : Numbered) (numbering : IsNumbering m ps) (f at : ℕ) (q : Param) (old new : System) (long : length old.masks ≡ length ps.list) where
  abbrev given : ℕ
  given = word_of (is_given q.attrs) 43

  given_set : (bit : ℕ) → IsSet given bit ↔ ((bit < 43) × (is_given q.attrs bit ≡ true))
  given_set bit = test_bits (is_given q.attrs) 43 given refl (word_of-lt (is_given q.attrs) 43) bit

  set_given : (bit : ℕ) → is_bit m (entry f at) bit ≡ true → is_given q.attrs bit ≡ true → IsSet given bit
  set_given bit has is = (given_set bit).1 (entry_low m f at bit has, is)

  abbrev All : ℕ → Type 0
  All bit = Unit {0}

  -- a body that is open
  pub start_open : (t : NewTerm) → is_open m f ≡ true → t ≡ roll-NewTerm (made.Const given) → IsMet ps old new (entry f at) 549755748352 t
      → Meets m ps old new (AsksStart m f at q) (SpeaksStart m f at q)
  start_open t open' is met =
      meets_iff m ps old new (AskGroup m ps numbering old new (entry f at) 549755748352 All all of long (λ held bit. IsSet given bit)) (AsksStart m f at q)
      (SpeakGroup m ps numbering old new (entry f at) 549755748352 All all of long (λ y. ⊥)) (SpeaksStart m f at q)
      (group_met m ps numbering old new (entry f at) 549755748352 All all of long t (λ held bit. IsSet given bit) (λ y. ⊥) met
      (subst (λ z. Says m ps 549755748352 z (λ held bit. IsSet given bit) (λ y. ⊥)) (sym is) (says_bits m ps 549755748352 given)))
      (λ held p bit. (
        (λ h same has ungiven. clash (sym ((given_set bit).0 (h same has tt)).1 ∙ ungiven)),
        λ h same has test. by_bool (is_given q.attrs bit) (λ g. set_given bit (subst (λ r. is_bit m r bit ≡ true) same has) g)
            (λ g. clash (sym open' ∙ (h same has g).0)),
      ))
      (λ p y. ((λ h. h.4), λ h. absurd h))
    where
      all : (bit : ℕ) → IsSet 549755748352 bit → Unit {0}
      all bit set = tt

      of : (bit : ℕ) → Unit {0} → is_bit m (entry f at) bit ≡ true → IsSet 549755748352 bit
      of bit test has = (all_set bit).1 (entry_low m f at bit has, entry_in m f at bit has)

  abbrev Byte : ℕ → Type 0
  Byte bit = is_byte_bit bit ≡ true

  -- an alignment above the greatest rung
  pub start_high : (t : NewTerm) → is_open m f ≡ false → 64 < q.attrs.align → t ≡ roll-NewTerm (made.Const given) → IsMet ps old new (entry f at) ALL_BYTES t
      → Meets m ps old new (AsksStart m f at q) (SpeaksStart m f at q)
  start_high t closed high is met =
      meets_iff m ps old new (AskGroup m ps numbering old new (entry f at) ALL_BYTES Byte byte of long (λ held bit. IsSet given bit)) (AsksStart m f at q)
      (SpeakGroup m ps numbering old new (entry f at) ALL_BYTES Byte byte of long (λ y. ⊥)) (SpeaksStart m f at q)
      (group_met m ps numbering old new (entry f at) ALL_BYTES Byte byte of long t (λ held bit. IsSet given bit) (λ y. ⊥) met
      (subst (λ z. Says m ps ALL_BYTES z (λ held bit. IsSet given bit) (λ y. ⊥)) (sym is) (says_bits m ps ALL_BYTES given)))
      (λ held p bit. (
        (λ h same has ungiven. (closed, λ rung. clash (sym ((given_set bit).0 (h same has rung)).1 ∙ ungiven))),
        λ h same has rung. by_bool (is_given q.attrs bit) (λ g. set_given bit (subst (λ r. is_bit m r bit ≡ true) same has) g)
            (λ g. absurd (let low = (h same has g).1 rung in omega (arith, low, high))),
      ))
      (λ p y. ((λ h. h.4), λ h. absurd h))
    where
      byte : (bit : ℕ) → IsSet ALL_BYTES bit → is_byte_bit bit ≡ true
      byte bit set = ((bytes_set bit).0 set).1

      of : (bit : ℕ) → is_byte_bit bit ≡ true → is_bit m (entry f at) bit ≡ true → IsSet ALL_BYTES bit
      of bit test has = (bytes_set bit).1 (entry_low m f at bit has, test)

  -- bits T that are not given, where a segment is not dead
  module _ (asked : ℕ) (T : ℕ → Type 0) (is : (bit : ℕ) → IsSet asked bit → T bit) (of : (bit : ℕ) → T bit → is_bit m (entry f at) bit ≡ true → IsSet asked bit)
      (k : ℕ) (A : (Fact → Bool) → ℕ → Type 0) (S : Fact → Type 0) where
    abbrev AskHeld : (Fact → Bool) → Pos → ℕ → Type 0
    AskHeld held p bit = p ≡ entry f at → is_bit m p bit ≡ true → T bit → is_given q.attrs bit ≡ false → held (dead k) ≡ false → A held bit

    abbrev SpeakHeld : Pos → Fact → Type 0
    SpeakHeld p y = (bit : ℕ) × (p ≡ entry f at) × (is_bit m p bit ≡ true) × T bit × ((y ≡ dead k) ⊎ S y)

    abbrev Or : (Fact → Bool) → ℕ → Type 0
    Or held bit = IsSet given bit ⊎ (Has held (segment k) DEAD ⊎ A held bit)

    held_met : (t u v : NewTerm) → t ≡ roll-NewTerm (made.Or (roll-NewTerm (made.Const given)) u) → IsUnless ps u (segment k) DEAD v
        → IsMet ps old new (entry f at) asked t → Says m ps asked v A S → Meets m ps old new AskHeld SpeakHeld
    held_met t u v or skips met says =
        meets_iff m ps old new (AskGroup m ps numbering old new (entry f at) asked T is of long Or) AskHeld
        (SpeakGroup m ps numbering old new (entry f at) asked T is of long (λ y. ⊥ ⊎ ((y ≡ fact (segment k) DEAD) ⊎ S y))) SpeakHeld
        (group_met m ps numbering old new (entry f at) asked T is of long t Or (λ y. ⊥ ⊎ ((y ≡ fact (segment k) DEAD) ⊎ S y)) met
        (subst (λ z. Says m ps asked z Or (λ y. ⊥ ⊎ ((y ≡ fact (segment k) DEAD) ⊎ S y))) (sym or)
        (says_or m ps asked (roll-NewTerm (made.Const given)) u (λ held bit. IsSet given bit) (λ held bit. Has held (segment k) DEAD ⊎ A held bit) (λ y. ⊥)
        (λ y. (y ≡ fact (segment k) DEAD) ⊎ S y) (says_bits m ps asked given)
        (says_unless m ps numbering asked u (segment k) DEAD v A S (omega arith) skips says))))
        (λ held p bit. (
          (λ h same has test ungiven live. down held bit ungiven live (h same has test)),
          λ h same has test. up held bit (subst (λ r. is_bit m r bit ≡ true) same has) (λ ungiven live. h same has test ungiven live),
        ))
        (λ p y. ((λ h. (h.0, h.1, h.2, h.3, some y h.4)), λ h. (h.0, h.1, h.2, h.3, inr h.4)))
      where
        down : (held : Fact → Bool) (bit : ℕ) → is_given q.attrs bit ≡ false → held (dead k) ≡ false → Or held bit → A held bit
        down held bit ungiven live (inl g) = clash (sym ((given_set bit).0 g).1 ∙ ungiven)
        down held bit ungiven live (inr (inl gone)) = clash (sym gone ∙ live)
        down held bit ungiven live (inr (inr h)) = h

        up : (held : Fact → Bool) (bit : ℕ) → is_bit m (entry f at) bit ≡ true → (is_given q.attrs bit ≡ false → held (dead k) ≡ false → A held bit)
            → Or held bit
        up held bit has h = by_bool (is_given q.attrs bit) (λ g. inl (set_given bit has g))
            (λ g. inr (by_bool (held (dead k)) (λ gone. inl gone) (λ live. inr (h g live))))

        some : (y : Fact) → ⊥ ⊎ ((y ≡ fact (segment k) DEAD) ⊎ S y) → (y ≡ dead k) ⊎ S y
        some y (inl h) = absurd h
        some y (inr h) = h

  module _ (k : ℕ) (o : Op) (asked : ℕ) (t u v : NewTerm) (or : t ≡ roll-NewTerm (made.Or (roll-NewTerm (made.Const given)) u))
      (skips : IsUnless ps u (segment k) DEAD v) (met : IsMet ps old new (entry f at) asked t) where
    abbrev Plain : ℕ → Type 0
    Plain bit = is_byte_bit bit ≡ false

    pub handed_met : ((bit : ℕ) → IsSet asked bit ↔ (IsSet 8323072 bit × (is_bit m (entry f at) bit ≡ true)))
        → Says m ps asked v (AsksArgument m o at) (SpeaksArgument o at asked) → Meets m ps old new (AsksHanded m k o f at q) (SpeaksHanded m k o f at q)
    handed_met set says =
        meets_iff m ps old new (AskHeld asked Plain is of k (AsksArgument m o at) (SpeaksArgument o at asked)) (AsksHanded m k o f at q)
        (SpeakHeld asked Plain is of k (AsksArgument m o at) (SpeaksArgument o at asked)) (SpeaksHanded m k o f at q)
        (held_met asked Plain is of k (AsksArgument m o at) (SpeaksArgument o at asked) t u v or skips met says)
        (λ held p bit. ((λ h. h), λ h. h)) (λ p y. ((λ h. down p y h.0 h.1 h.2 h.3 h.4), λ h. up p y h.0 h.1 h.2 h.3 h.4))
      where
        is : (bit : ℕ) → IsSet asked bit → is_byte_bit bit ≡ false
        is bit h = unplain (is_byte_bit bit) (and_parts (in_entry bit) (not (is_byte_bit bit)) ((plain_set bit).0 ((set bit).0 h).0).1).1

        of : (bit : ℕ) → is_byte_bit bit ≡ false → is_bit m (entry f at) bit ≡ true → IsSet asked bit
        of bit h has =
            (set bit).1 (
              (plain_set bit).1 (
                entry_low m f at bit has,
                both_true (in_entry bit) (not (is_byte_bit bit)) (entry_in m f at bit has)
                    (ap not h),
              ),
              has,
            )

        down : (p : Pos) (y : Fact) (bit : ℕ) → p ≡ entry f at → is_bit m p bit ≡ true → is_byte_bit bit ≡ false
            → (y ≡ dead k) ⊎ SpeaksArgument o at asked y → SpeaksHanded m k o f at q p y
        down p y bit same has test (inl gone) = (bit, same, has, test, inl gone)
        down p y bit same has test (inr h) =
            (h.0, same, subst (λ r. is_bit m r h.0 ≡ true) (sym same) ((set h.0).0 h.1).1, is h.0 h.1, inr h.2)

        up : (p : Pos) (y : Fact) (bit : ℕ) → p ≡ entry f at → is_bit m p bit ≡ true → is_byte_bit bit ≡ false → (y ≡ dead k) ⊎ ArgSpeaks o at bit y
            → SpeakHeld asked Plain is of k (AsksArgument m o at) (SpeaksArgument o at asked) p y
        up p y bit same has test (inl gone) = (bit, same, has, test, inl gone)
        up p y bit same has test (inr h) = (bit, same, has, test, inr (bit, of bit test (subst (λ r. is_bit m r bit ≡ true) same has), h))

    pub rungs_met : ((bit : ℕ) → IsSet asked bit ↔ (IsSet ALL_BYTES bit × (is_bit m (entry f at) bit ≡ true)))
        → Says m ps asked v (AsksReached m o at q.attrs.align) (SpeaksReached o at q.attrs.align asked)
        → Meets m ps old new (AsksRungs m k o f at q) (SpeaksRungs m k o f at q)
    rungs_met set says =
        meets_iff m ps old new (AskHeld asked Byte is of k (AsksReached m o at q.attrs.align) (SpeaksReached o at q.attrs.align asked)) (AsksRungs m k o f at q)
        (SpeakHeld asked Byte is of k (AsksReached m o at q.attrs.align) (SpeaksReached o at q.attrs.align asked)) (SpeaksRungs m k o f at q)
        (held_met asked Byte is of k (AsksReached m o at q.attrs.align) (SpeaksReached o at q.attrs.align asked) t u v or skips met says)
        (λ held p bit. ((λ h. h), λ h. h)) (λ p y. ((λ h. down p y h.0 h.1 h.2 h.3 h.4), λ h. up p y h.0 h.1 h.2 h.3 h.4))
      where
        is : (bit : ℕ) → IsSet asked bit → is_byte_bit bit ≡ true
        is bit h = ((bytes_set bit).0 ((set bit).0 h).0).1

        of : (bit : ℕ) → is_byte_bit bit ≡ true → is_bit m (entry f at) bit ≡ true → IsSet asked bit
        of bit h has = (set bit).1 ((bytes_set bit).1 (entry_low m f at bit has, h), has)

        down : (p : Pos) (y : Fact) (bit : ℕ) → p ≡ entry f at → is_bit m p bit ≡ true → is_byte_bit bit ≡ true
            → (y ≡ dead k) ⊎ SpeaksReached o at q.attrs.align asked y → SpeaksRungs m k o f at q p y
        down p y bit same has test (inl gone) = (bit, same, has, test, inl gone)
        down p y bit same has test (inr (inl h)) =
            (h.0, same, subst (λ r. is_bit m r h.0 ≡ true) (sym same) ((set h.0).0 h.1).1, is h.0 h.1, inr (inl h.2))
        down p y bit same has test (inr (inr h)) = (bit, same, has, test, inr (inr h))

        up : (p : Pos) (y : Fact) (bit : ℕ) → p ≡ entry f at → is_bit m p bit ≡ true → is_byte_bit bit ≡ true
            → (y ≡ dead k) ⊎ (ArgSpeaks o at bit y ⊎ SpeaksAligned o at q.attrs.align y)
            → SpeakHeld asked Byte is of k (AsksReached m o at q.attrs.align) (SpeaksReached o at q.attrs.align asked) p y
        up p y bit same has test (inl gone) = (bit, same, has, test, inl gone)
        up p y bit same has test (inr (inl h)) = (bit, same, has, test, inr (inl (bit, of bit test (subst (λ r. is_bit m r bit ≡ true) same has), h)))
        up p y bit same has test (inr (inr h)) = (bit, same, has, test, inr (inr h))
