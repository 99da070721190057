-- Terms that say of each fact of uses something at once: by its bit.
use Rattle.std.proofs.Common.{arith, ◌≡◌, ◌^◌, ◌⊎◌, ◌↔◌, ℕ, Bool, true, false, MatchOption, None, Some, bit_or, refl, sym, ap, subst, ◌∙◌, inl, inr}
use Rattle.std.specs.Int.{bit_at}
use Rattle.std.proofs.lemmas.Bool.{cases_lt, both_ways}
use Rattle.std.proofs.lemmas.Nat.Bits.{bit_at-lt, bit_at_or, bit_at-zero}
use Rattle.attr_ids.specs.declared.ids.ValueId.{ValueId}
use Rattle.lattice_words.specs.declared.value.TheConstants.{ALL_USES, CAPTURED_BY_RETURN_ALONE, NOT_RETURNED, NOT_READ_THROUGH, NOT_WRITTEN_THROUGH}
use Rattle.ir_module.specs.declared.op.Instr.{Instr}
use Rattle.ir_module.specs.declared.module.Param.{Param}
use Rattle.ir_module.specs.declared.module.Module.{Module}
use Rattle.facts.specs.Kinds.{Read, Write, UseFact, CapturedByReturnAlone, NotReturned, NotThrough, use_bit}
use Rattle.facts.specs.Bodies.{is_pointer}
use Rattle.facts.specs.Facts.{Fact, fact, value, used_so}
use Rattle.facts.specs.Uses.{ResultUsed, CallResultUsed, ParamUsed, ResultUseSpeaks}
use Rattle.rule_terms.specs.declared.term.NewTerm.{NewTerm}
use Rattle.rule_terms.specs.declared.term.NewTerm.TheOpen.{NewTerm-F as new}
use Rattle.rule_terms.specs.declared.term.NewTerm.TheViews.{roll-NewTerm}
use Rattle.positions.specs.Numbering.{Numbered}
use Rattle.rule_says.specs.Reading.{IsNumbering}
use Rattle.rule_says.specs.Saying.{IsSet, Has, Says, IsWord}
use Rattle.rule_says.proofs.Terms.{says_bits, says_and, says_or, says_iff, says_word, says_spread}
use Rattle.aa_memory.proofs.Kept.{one_bit}
use Rattle.aa_capture.specs.Asked.{AsksEach, SpeaksEach}

-- ---- bits and facts

none_set : {A : Type 0} (b : ℕ) → IsSet 0 b → A
none_set b h = absurd (let none = bit_at-zero b in omega (arith, h, none))

either_set : (u v b : ℕ) → IsSet (bit_or u v) b → IsSet u b ⊎ IsSet v b
either_set u v b h =
    let e = bit_at_or u v b in
    elim (cases_lt (bit_at u b) 1) [
      | inl none ↦ inr (omega (arith, h, e, none, bit_at-lt v b))
      | inr one ↦ inl (omega (arith, one, bit_at-lt u b))
    ]

-- each bit of uses is that of a fact
pub kind_of : (bit : ℕ) → IsSet ALL_USES bit → (kind : UseFact) × (bit ≡ use_bit kind)
kind_of bit set = by (either_set (bit_or (2 ^ CAPTURED_BY_RETURN_ALONE) (2 ^ NOT_RETURNED)) (bit_or (2 ^ NOT_READ_THROUGH) (2 ^ NOT_WRITTEN_THROUGH)) bit set)
  where
    first : IsSet (2 ^ CAPTURED_BY_RETURN_ALONE) bit ⊎ IsSet (2 ^ NOT_RETURNED) bit → (kind : UseFact) × (bit ≡ use_bit kind)
    first (inl h) = (CapturedByReturnAlone, (one_bit CAPTURED_BY_RETURN_ALONE bit).0 h)
    first (inr h) = (NotReturned, (one_bit NOT_RETURNED bit).0 h)

    second : IsSet (2 ^ NOT_READ_THROUGH) bit ⊎ IsSet (2 ^ NOT_WRITTEN_THROUGH) bit → (kind : UseFact) × (bit ≡ use_bit kind)
    second (inl h) = (NotThrough Read, (one_bit NOT_READ_THROUGH bit).0 h)
    second (inr h) = (NotThrough Write, (one_bit NOT_WRITTEN_THROUGH bit).0 h)

    by : IsSet (bit_or (2 ^ CAPTURED_BY_RETURN_ALONE) (2 ^ NOT_RETURNED)) bit ⊎ IsSet (bit_or (2 ^ NOT_READ_THROUGH) (2 ^ NOT_WRITTEN_THROUGH)) bit →
        (kind : UseFact) × (bit ≡ use_bit kind)
    by (inl h) = first (either_set (2 ^ CAPTURED_BY_RETURN_ALONE) (2 ^ NOT_RETURNED) bit h)
    by (inr h) = second (either_set (2 ^ NOT_READ_THROUGH) (2 ^ NOT_WRITTEN_THROUGH) bit h)

pub kind_set : (kind : UseFact) → IsSet ALL_USES (use_bit kind)
kind_set CapturedByReturnAlone = refl
kind_set NotReturned = refl
kind_set (NotThrough Read) = refl
kind_set (NotThrough Write) = refl

-- two facts have two bits
pub one_kind : (a b : UseFact) → use_bit a ≡ use_bit b → a ≡ b
one_kind CapturedByReturnAlone CapturedByReturnAlone e = refl
one_kind CapturedByReturnAlone NotReturned e = absurd (omega (arith, e))
one_kind CapturedByReturnAlone (NotThrough Read) e = absurd (omega (arith, e))
one_kind CapturedByReturnAlone (NotThrough Write) e = absurd (omega (arith, e))
one_kind NotReturned CapturedByReturnAlone e = absurd (omega (arith, e))
one_kind NotReturned NotReturned e = refl
one_kind NotReturned (NotThrough Read) e = absurd (omega (arith, e))
one_kind NotReturned (NotThrough Write) e = absurd (omega (arith, e))
one_kind (NotThrough Read) CapturedByReturnAlone e = absurd (omega (arith, e))
one_kind (NotThrough Read) NotReturned e = absurd (omega (arith, e))
one_kind (NotThrough Read) (NotThrough Read) e = refl
one_kind (NotThrough Read) (NotThrough Write) e = absurd (omega (arith, e))
one_kind (NotThrough Write) CapturedByReturnAlone e = absurd (omega (arith, e))
one_kind (NotThrough Write) NotReturned e = absurd (omega (arith, e))
one_kind (NotThrough Write) (NotThrough Read) e = absurd (omega (arith, e))
one_kind (NotThrough Write) (NotThrough Write) e = refl

module _ (m : Module) (ps : Numbered) where
  -- ---- of each fact

  -- said of each bit by its fact
  pub each_by : (t : NewTerm) (A : (Fact → Bool) → ℕ → Type 0) (B : UseFact → (Fact → Bool) → Type 0) (S R : Fact → Type 0) → Says m ps ALL_USES t A S →
      ((held : Fact → Bool) (kind : UseFact) → A held (use_bit kind) ↔ B kind held) → ((y : Fact) → S y ↔ R y) → Says m ps ALL_USES t (AsksEach B) R
  each_by t A B S R says asks speaks =
      says_iff m ps ALL_USES t A (AsksEach B) S R says (λ held bit set. (down held bit set, up held bit set)) speaks
    where
      down : (held : Fact → Bool) (bit : ℕ) → IsSet ALL_USES bit → A held bit → AsksEach B held bit
      down held bit set h kind e = (asks held kind).0 (subst (λ b. A held b) e h)

      up : (held : Fact → Bool) (bit : ℕ) → IsSet ALL_USES bit → AsksEach B held bit → A held bit
      up held bit set h = let w = kind_of bit set in subst (λ b. A held b) (sym w.1) ((asks held w.0).1 (h w.0 w.1))

  pub each_iff : (t : NewTerm) (A B : UseFact → (Fact → Bool) → Type 0) (S R : Fact → Type 0) → Says m ps ALL_USES t (AsksEach A) S →
      ((held : Fact → Bool) (kind : UseFact) → A kind held ↔ B kind held) → ((y : Fact) → S y ↔ R y) → Says m ps ALL_USES t (AsksEach B) R
  each_iff t A B S R says asks speaks =
      each_by t (AsksEach A) B S R says
      (λ held kind. (
        (λ h. (asks held kind).0 (h kind refl)),
        λ h other e. subst (λ k. A k held) (one_kind kind other e) ((asks held kind).1 h),
      )) speaks

  -- bits that no set decides
  pub each_given : (t : NewTerm) (given : ℕ) (B : UseFact → (Fact → Bool) → Type 0) (R : Fact → Type 0) → t ≡ roll-NewTerm (new.Const given) →
      ((held : Fact → Bool) (kind : UseFact) → IsSet given (use_bit kind) ↔ B kind held) → ((y : Fact) → R y → ⊥) → Says m ps ALL_USES t (AsksEach B) R
  each_given t given B R e asks silent = subst (λ u. Says m ps ALL_USES u (AsksEach B) R) (sym e)
      (each_by (roll-NewTerm (new.Const given)) (λ held b. IsSet given b) B (λ y. ⊥) R (says_bits m ps ALL_USES given) asks
      (λ y. ((λ none. absurd none), λ r. absurd (silent y r))))

  -- none
  pub each_none : (t : NewTerm) (B : UseFact → (Fact → Bool) → Type 0) (R : Fact → Type 0) → t ≡ roll-NewTerm (new.Const 0) →
      ((held : Fact → Bool) (kind : UseFact) → B kind held → ⊥) → ((y : Fact) → R y → ⊥) → Says m ps ALL_USES t (AsksEach B) R
  each_none t B R e fails silent = each_given t 0 B R e (λ held kind. ((λ h. none_set (use_bit kind) h), λ h. absurd (fails held kind h))) silent

  module _ (is : IsNumbering m ps) where
    -- a value's word
    pub each_word : (t : NewTerm) (v : ℕ) → IsWord ps ALL_USES t (value v) →
        Says m ps ALL_USES t (AsksEach (λ kind held. held (used_so kind v) ≡ true)) (SpeaksEach (λ kind y. y ≡ used_so kind v))
    each_word t v w =
        each_by t (λ held b. Has held (value v) b) (λ kind held. held (used_so kind v) ≡ true) (λ y. (y.pos ≡ value v) × IsSet ALL_USES y.bit)
        (SpeaksEach (λ kind y. y ≡ used_so kind v)) (says_word m ps is ALL_USES t (value v) w) (λ held kind. ((λ h. h), λ h. h))
        (λ y. (down y, λ s. (ap (λ (z : Fact). z.pos) s.1, subst (λ b. IsSet ALL_USES b) (sym (ap (λ (z : Fact). z.bit) s.1)) (kind_set s.0))))
      where
        down : (y : Fact) → (y.pos ≡ value v) × IsSet ALL_USES y.bit → SpeaksEach (λ kind y. y ≡ used_so kind v) y
        down y s = let k = kind_of y.bit s.1 in (k.0, ap (λ p. fact p y.bit) s.0 ∙ ap (fact (value v)) k.1)

    -- ---- the result of an instruction

    module _ (instr : Instr) where
      pub result_says : (t : NewTerm) (r : ValueId) → instr.result ≡ Some r → IsWord ps ALL_USES t (value r.0) →
          Says m ps ALL_USES t (AsksEach (λ kind held. ResultUsed held kind instr)) (SpeaksEach (λ kind. ResultUseSpeaks kind instr))
      result_says t r e w =
          each_iff t (λ kind held. held (used_so kind r.0) ≡ true) (λ kind held. ResultUsed held kind instr) (SpeaksEach (λ kind y. y ≡ used_so kind r.0))
          (SpeaksEach (λ kind. ResultUseSpeaks kind instr)) (each_word t r.0 w)
          (λ held kind. (
            (λ h. subst (λ o. MatchOption o ⊥ (λ r. held (used_so kind r.0) ≡ true)) (sym e) h),
            λ h. subst (λ o. MatchOption o ⊥ (λ r. held (used_so kind r.0) ≡ true)) e h,
          ))
          (λ y. ((λ s. (s.0, (r, e, s.1))), λ s. (s.0, s.1.2 ∙ ap (λ (v : ValueId). used_so s.0 v.0) (same s.1.0 s.1.1))))
        where
          same : (v : ValueId) → instr.result ≡ Some v → v ≡ r
          same v f = (let g = e in cc)

      pub no_result_says : (t : NewTerm) → instr.result ≡ None → t ≡ roll-NewTerm (new.Const 0) →
          Says m ps ALL_USES t (AsksEach (λ kind held. ResultUsed held kind instr)) (SpeaksEach (λ kind. ResultUseSpeaks kind instr))
      no_result_says t none e =
          each_none t (λ kind held. ResultUsed held kind instr) (SpeaksEach (λ kind. ResultUseSpeaks kind instr)) e
          (λ held kind h. subst (λ o. MatchOption o ⊥ (λ r. held (used_so kind r.0) ≡ true)) none h)
          (λ y s. (let some = s.1.1 in cc))

      -- of a call
      pub pointer_result_says : (t : NewTerm) → is_pointer m instr.ty ≡ true →
          Says m ps ALL_USES t (AsksEach (λ kind held. ResultUsed held kind instr)) (SpeaksEach (λ kind. ResultUseSpeaks kind instr)) →
          Says m ps ALL_USES t (AsksEach (λ kind held. CallResultUsed m held kind instr)) (SpeaksEach (λ kind. ResultUseSpeaks kind instr))
      pointer_result_says t ptr says =
          each_iff t (λ kind held. ResultUsed held kind instr) (λ kind held. CallResultUsed m held kind instr) (SpeaksEach (λ kind. ResultUseSpeaks kind instr))
          (SpeaksEach (λ kind. ResultUseSpeaks kind instr)) says (λ held kind. ((λ h ptr. h), λ h. h ptr)) (λ y. ((λ s. s), λ s. s))

      pub plain_result_says : (t of : NewTerm) → is_pointer m instr.ty ≡ false → t ≡ roll-NewTerm (new.Or (roll-NewTerm (new.Const ALL_USES)) of) →
          Says m ps ALL_USES of (AsksEach (λ kind held. ResultUsed held kind instr)) (SpeaksEach (λ kind. ResultUseSpeaks kind instr)) →
          Says m ps ALL_USES t (AsksEach (λ kind held. CallResultUsed m held kind instr)) (SpeaksEach (λ kind. ResultUseSpeaks kind instr))
      plain_result_says t of plain e says =
          subst (λ u. Says m ps ALL_USES u (AsksEach (λ kind held. CallResultUsed m held kind instr)) (SpeaksEach (λ kind. ResultUseSpeaks kind instr))) (sym e)
          (each_by (roll-NewTerm (new.Or (roll-NewTerm (new.Const ALL_USES)) of))
          (λ held b. IsSet ALL_USES b ⊎ AsksEach (λ kind held. ResultUsed held kind instr) held b) (λ kind held. CallResultUsed m held kind instr)
          (λ y. ⊥ ⊎ SpeaksEach (λ kind. ResultUseSpeaks kind instr) y) (SpeaksEach (λ kind. ResultUseSpeaks kind instr))
          (says_or m ps ALL_USES (roll-NewTerm (new.Const ALL_USES)) of (λ held b. IsSet ALL_USES b) (AsksEach (λ kind held. ResultUsed held kind instr))
          (λ y. ⊥) (SpeaksEach (λ kind. ResultUseSpeaks kind instr)) (says_bits m ps ALL_USES ALL_USES) says)
          (λ held kind. ((λ h ptr. absurd (both_ways (is_pointer m instr.ty) plain ptr)), λ h. inl (kind_set kind)))
          (λ y. (right y, λ s. inr s)))
        where
          right : (y : Fact) → ⊥ ⊎ SpeaksEach (λ kind. ResultUseSpeaks kind instr) y → SpeaksEach (λ kind. ResultUseSpeaks kind instr) y
          right y (inl none) = absurd none
          right y (inr s) = s

      -- ---- a parameter of an inner call

      module _ (p : Param) where
        abbrev pub ParamSpeaks : UseFact → Fact → Type 0
        ParamSpeaks kind y = (y ≡ used_so kind p.value.0) ⊎ ((y ≡ used_so NotReturned p.value.0) ⊎ ResultUseSpeaks kind instr y)

        abbrev OwnSpeaks : Fact → Type 0
        OwnSpeaks y = SpeaksEach (λ kind y. y ≡ used_so kind p.value.0) y ⊎ ⊥

        abbrev AfterSpeaks : Fact → Type 0
        AfterSpeaks y = ((y.pos ≡ value p.value.0) × IsSet (2 ^ NOT_RETURNED) y.bit) ⊎ SpeaksEach (λ kind. ResultUseSpeaks kind instr) y

        abbrev OwnAsks : (Fact → Bool) → ℕ → Type 0
        OwnAsks held b = AsksEach (λ kind held. held (used_so kind p.value.0) ≡ true) held b ⊎ IsSet (2 ^ NOT_RETURNED) b

        abbrev KeptAsks : (Fact → Bool) → ℕ → Type 0
        KeptAsks held b = Has held (value p.value.0) NOT_RETURNED × IsSet ALL_USES b

        abbrev AfterAsks : (Fact → Bool) → ℕ → Type 0
        AfterAsks held b = KeptAsks held b ⊎ AsksEach (λ kind held. CallResultUsed m held kind instr) held b

        -- of a fact other than that it is not returned
        split : (held : Fact → Bool) (kind : UseFact) → (use_bit kind ≡ NOT_RETURNED → ⊥) → OwnAsks held (use_bit kind) × AfterAsks held (use_bit kind) ↔
            ((held (used_so kind p.value.0) ≡ true) × ((held (used_so NotReturned p.value.0) ≡ true) ⊎ CallResultUsed m held kind instr))
        split held kind other = (
          (λ w. (own w.0, after w.1)),
          λ w. (inl (λ k e. subst (λ k. held (used_so k p.value.0) ≡ true) (one_kind kind k e) w.0), back w.1),
        )
          where
            own : OwnAsks held (use_bit kind) → held (used_so kind p.value.0) ≡ true
            own (inl h) = h kind refl
            own (inr set) = absurd (other ((one_bit NOT_RETURNED (use_bit kind)).0 set))

            after : AfterAsks held (use_bit kind) → (held (used_so NotReturned p.value.0) ≡ true) ⊎ CallResultUsed m held kind instr
            after (inl h) = inl h.0
            after (inr h) = inr (h kind refl)

            back : (held (used_so NotReturned p.value.0) ≡ true) ⊎ CallResultUsed m held kind instr → AfterAsks held (use_bit kind)
            back (inl h) = inl (h, kind_set kind)
            back (inr h) = inr (λ k e. subst (λ k. CallResultUsed m held k instr) (one_kind kind k e) h)

        is_used : (held : Fact → Bool) (kind : UseFact) → OwnAsks held (use_bit kind) × AfterAsks held (use_bit kind) ↔ ParamUsed m held kind instr p
        is_used held NotReturned = (down, up)
          where
            down : OwnAsks held NOT_RETURNED × AfterAsks held NOT_RETURNED → ParamUsed m held NotReturned instr p
            down w = elim w.1 [
              | inl h ↦ inl h.0
              | inr h ↦ inr (h NotReturned refl)
            ]

            up : ParamUsed m held NotReturned instr p → OwnAsks held NOT_RETURNED × AfterAsks held NOT_RETURNED
            up (inl h) = (inr refl, inl (h, refl))
            up (inr h) = (inr refl, inr (λ kind e. subst (λ k. CallResultUsed m held k instr) (one_kind NotReturned kind e) h))
        is_used held CapturedByReturnAlone = split held CapturedByReturnAlone (λ e. absurd (omega (arith, e)))
        is_used held (NotThrough Read) = split held (NotThrough Read) (λ e. absurd (omega (arith, e)))
        is_used held (NotThrough Write) = split held (NotThrough Write) (λ e. absurd (omega (arith, e)))

        spoken : (y : Fact) → OwnSpeaks y ⊎ AfterSpeaks y → SpeaksEach ParamSpeaks y
        spoken y (inl (inl s)) = (s.0, inl s.1)
        spoken y (inl (inr none)) = absurd none
        spoken y (inr (inl s)) =
            (NotReturned, inl (ap (λ q. fact q y.bit) s.0 ∙ ap (fact (value p.value.0)) ((one_bit NOT_RETURNED y.bit).0 s.1)))
        spoken y (inr (inr s)) = (s.0, inr (inr s.1))

        named : (y : Fact) → (kind : UseFact) → ParamSpeaks kind y → OwnSpeaks y ⊎ AfterSpeaks y
        named y kind (inl e) = inl (inl (kind, e))
        named y kind (inr (inl e)) = inl (inl (NotReturned, e))
        named y kind (inr (inr s)) = inr (inr (kind, s))

        pub param_says : (own_word kept_word result own kept after t : NewTerm) → IsWord ps ALL_USES own_word (value p.value.0) →
            IsWord ps (2 ^ NOT_RETURNED) kept_word (value p.value.0) →
            Says m ps ALL_USES result (AsksEach (λ kind held. CallResultUsed m held kind instr)) (SpeaksEach (λ kind. ResultUseSpeaks kind instr)) →
            own ≡ roll-NewTerm (new.Or own_word (roll-NewTerm (new.Const (2 ^ NOT_RETURNED)))) →
            kept ≡ roll-NewTerm (new.Spread NOT_RETURNED ALL_USES kept_word) → after ≡ roll-NewTerm (new.Or kept result) →
            t ≡ roll-NewTerm (new.And own after) → Says m ps ALL_USES t (AsksEach (λ kind held. ParamUsed m held kind instr p)) (SpeaksEach ParamSpeaks)
        param_says own_word kept_word result own kept after t w v says e f g h =
            each_by t (λ held b. OwnAsks held b × AfterAsks held b) (λ kind held. ParamUsed m held kind instr p) (λ y. OwnSpeaks y ⊎ AfterSpeaks y)
            (SpeaksEach ParamSpeaks)
            (subst (λ u. Says m ps ALL_USES u (λ held b. OwnAsks held b × AfterAsks held b) (λ y. OwnSpeaks y ⊎ AfterSpeaks y)) (sym h)
            (says_and m ps ALL_USES own after OwnAsks AfterAsks OwnSpeaks AfterSpeaks own_says after_says))
            is_used (λ y. (spoken y, λ s. named y s.0 s.1))
          where
            own_says : Says m ps ALL_USES own OwnAsks OwnSpeaks
            own_says = subst (λ u. Says m ps ALL_USES u OwnAsks OwnSpeaks) (sym e)
                (says_or m ps ALL_USES own_word (roll-NewTerm (new.Const (2 ^ NOT_RETURNED))) (AsksEach (λ kind held. held (used_so kind p.value.0) ≡ true))
                (λ held b. IsSet (2 ^ NOT_RETURNED) b) (SpeaksEach (λ kind y. y ≡ used_so kind p.value.0)) (λ y. ⊥)
                (each_word own_word p.value.0 w) (says_bits m ps ALL_USES (2 ^ NOT_RETURNED)))

            kept_says : Says m ps ALL_USES kept KeptAsks (λ y. (y.pos ≡ value p.value.0) × IsSet (2 ^ NOT_RETURNED) y.bit)
            kept_says = subst (λ u. Says m ps ALL_USES u KeptAsks (λ y. (y.pos ≡ value p.value.0) × IsSet (2 ^ NOT_RETURNED) y.bit)) (sym f)
                (says_spread m ps ALL_USES (2 ^ NOT_RETURNED) NOT_RETURNED ALL_USES kept_word (λ held b. Has held (value p.value.0) b)
                (λ y. (y.pos ≡ value p.value.0) × IsSet (2 ^ NOT_RETURNED) y.bit) (omega arith) refl
                (says_word m ps is (2 ^ NOT_RETURNED) kept_word (value p.value.0) v))

            after_says : Says m ps ALL_USES after AfterAsks AfterSpeaks
            after_says = subst (λ u. Says m ps ALL_USES u AfterAsks AfterSpeaks) (sym g)
                (says_or m ps ALL_USES kept result KeptAsks (AsksEach (λ kind held. CallResultUsed m held kind instr))
                (λ y. (y.pos ≡ value p.value.0) × IsSet (2 ^ NOT_RETURNED) y.bit) (SpeaksEach (λ kind. ResultUseSpeaks kind instr)) kept_says says)
