-- What is met in for one instruction.
use Rattle.std.proofs.Common.{◌≡◌, ◌<◌, ◌&&◌, ◌⊎◌, ◌↔◌, nat_le, ℕ, Bool, true, false, slice_get, None, Some, is_some, refl, sym, ap, subst, ◌∙◌}
use Rattle.std.proofs.Common.{inl, inr}
use Rattle.std.proofs.lemmas.Bool.{both_ways, and_parts, and_from}
use Rattle.std.specs.Option.{option_and_then}
use Rattle.lattice_words.specs.declared.function.TheConstants.{NO_WRITE_OF_INACCESSIBLEMEM}
use Rattle.attr_ids.specs.declared.ids.PosId.{PosId}
use Rattle.ir_module.specs.declared.op.Written.{Written}
use Rattle.ir_module.specs.declared.op.Call.{Call}
use Rattle.ir_module.specs.declared.op.Op.{Op}
use Rattle.ir_module.specs.declared.module.Module.{Module}
use Rattle.ir_module.specs.Calls.{call_of, is_call}
use Rattle.facts.specs.declared.pos.Pos.{Pos}
use Rattle.facts.specs.Kinds as kinds
use Rattle.facts.specs.Kinds.{FunctionFact, NoAccess, Unknown, class_bit, access_bit, function_bit}
use Rattle.facts.specs.Facts.{Fact, function, dead}
use Rattle.facts.specs.Bodies.{is_body, is_pointer}
use Rattle.facts.specs.Masks.{is_built, is_bit}
use Rattle.facts.specs.Known.{arg_at}
use Rattle.facts.specs.Memory.{address, is_volatile, IsNotTo, AreNotTo, IsOff, IsVisible, ToSpeaks, OffSpeaks}
use Rattle.facts.specs.Promises.{call_has, CallSpeaks}
use Rattle.facts.specs.Functions.{Keeps, Concerns, KeepsSpeaks}
use Rattle.rule_terms.specs.declared.term.NewTerm.{NewTerm}
use Rattle.rule_terms.specs.declared.term.NewTerm.TheOpen.{NewTerm-F as new}
use Rattle.rule_terms.specs.declared.term.NewTerm.TheViews.{roll-NewTerm}
use Rattle.rule_terms.specs.System.{System}
use Rattle.positions.specs.Numbering.{Numbered}
use Rattle.rule_says.specs.Reading.{IsNumbering}
use Rattle.rule_says.specs.Saying.{IsSpokenOf, Says}
use Rattle.rule_says.specs.Meeting.{Meets}
use Rattle.rule_says.proofs.Terms.{says_or, says_iff}
use Rattle.rule_says.proofs.Mets.{meets_none, meets_then, meets_iff}
use Rattle.aa_memory.specs.declared.accesses.Access.{Access}
use Rattle.aa_memory.specs.declared.accesses.Class.{Class}
use Rattle.aa_memory.specs.declared.accesses.Callee.{Callee}
use Rattle.aa_memory.specs.Accesses.{access_of, class_of, off, number_of, IsCallee, callee_has, CalleeSpeaks}
use Rattle.aa_memory.specs.Asked.{AsksLive, SpeaksLive, AsksAddress, SpeaksAddress, AsksDefault, SpeaksDefault, AsksArg, SpeaksArg, AsksArgs, SpeaksArgs}
use Rattle.aa_memory.specs.Asked.{AsksKind, SpeaksKind, IsFound, IsOfCallee}
use Rattle.aa_memory.proofs.Instrs.{address_no_call, volatile_no_call, off_keeps, off_concerns, off_speaks, no_call_speaks, inner_is_body}
use Rattle.aa_memory.proofs.Told.{given_says, callee_says, callee_tells, callee_speaks}
use Rattle.aa_memory.proofs.Kept.{says_named}

no_call : (o : Op) → call_of o ≡ None → is_call o ≡ false
no_call o e = ap is_some e

-- no instruction that is not concerned asks anything
pub unconcerned : (m : Module) (ps : Numbered) (kind : FunctionFact) (k : ℕ) (o : Op) (s : System) → ((held : Fact → Bool) → Keeps m held kind o) →
    (Concerns kind o → ⊥) → Meets m ps s s (AsksKind m kind k o) (SpeaksKind m kind k o)
unconcerned m ps kind k o s keeps free =
    meets_iff m ps s s (λ held p bit. Unit {0}) (AsksKind m kind k o) (λ p y. ⊥) (SpeaksKind m kind k o) (meets_none m ps s)
    (λ held q b. ((λ h here at has live. keeps held), λ h. tt))
    (λ q y. ((λ w. absurd w), λ w. absurd (free w.0)))

-- what is asked where the segment is live, said otherwise
pub live_as : (m : Module) (ps : Numbered) (kind : FunctionFact) (k : ℕ) (o : Op) (a b : System) (A : (Fact → Bool) → Type 0) (S : Fact → Type 0) →
    Concerns kind o → ((held : Fact → Bool) → A held ↔ Keeps m held kind o) → ((y : Fact) → S y ↔ KeepsSpeaks m kind o y) →
    Meets m ps a b (AsksLive m kind k A) (SpeaksLive m kind k S) → Meets m ps a b (AsksKind m kind k o) (SpeaksKind m kind k o)
live_as m ps kind k o a b A S concerned asks speaks met =
    meets_iff m ps a b (AsksLive m kind k A) (AsksKind m kind k o) (SpeaksLive m kind k S) (SpeaksKind m kind k o) met
    (λ held p bit. ((λ h here at has live. (asks held).0 (h here at has live)), λ h here at has live. (asks held).1 (h here at has live)))
    (λ p y. ((λ w. (concerned, (w.0, w.1, down y w.2))), λ w. (w.1.0, w.1.1, up y w.1.2)))
  where
    down : (y : Fact) → (y ≡ dead k) ⊎ S y → (y ≡ dead k) ⊎ KeepsSpeaks m kind o y
    down y (inl e) = inl e
    down y (inr s) = inr ((speaks y).0 s)

    up : (y : Fact) → (y ≡ dead k) ⊎ KeepsSpeaks m kind o y → (y ≡ dead k) ⊎ S y
    up y (inl e) = inl e
    up y (inr s) = inr ((speaks y).1 s)

module _ (m : Module) (ps : Numbered) (a : Access) (class : Class) (k : ℕ) (o : Op) where
  -- ---- loads and stores

  pub address_met : (s t : System) (w : Written) → address (access_of a) o ≡ Some w → Meets m ps s t (AsksAddress m a class k w) (SpeaksAddress m a class k w) →
      Meets m ps s t (AsksKind m (off a class) k o) (SpeaksKind m (off a class) k o)
  address_met s t w e met =
      live_as m ps (off a class) k o s t (λ held. IsNotTo m held (class_of class) w) (ToSpeaks (class_of class) w)
      ((off_concerns m a o class).1 (inl (w, e)))
      (λ held. ((λ h. (off_keeps m a o held class).1 (is_off held h)), λ h. ((off_keeps m a o held class).0 h).access w e))
      (λ y. ((λ h. (off_speaks m a o class y).1 (inl (w, e, h))), λ h. here y ((off_speaks m a o class y).0 h))) met
    where
      none : call_of o ≡ None
      none = address_no_call (access_of a) o w e

      is_off : (held : Fact → Bool) → IsNotTo m held (class_of class) w → IsOff m held (access_of a) (class_of class) o
      is_off held h = record {
        access = λ v f. subst (λ u. IsNotTo m held (class_of class) u) (let one : w ≡ v = cc in one) h;
        call = λ is. absurd (both_ways (is_call o) (no_call o none) is);
      }

      here : (y : Fact) → OffSpeaks m (access_of a) (class_of class) o y → ToSpeaks (class_of class) w y
      here y (inl v) = subst (λ u. ToSpeaks (class_of class) u y) (let one : v.0 ≡ w = (let f = v.1 in cc) in one) v.2
      here y (inr (inl (inl v))) = absurd (no_call_speaks m (NoAccess (access_of a) kinds.Default) o y none v)
      here y (inr (inl (inr v))) = absurd (no_call_speaks m (NoAccess (access_of a) kinds.Argmem) o y none v)
      here y (inr (inr (inl v))) = absurd (let at = v.2 in let nothing = no_arg v.0 in cc)
        where
          no_arg : (j : ℕ) → arg_at o j ≡ None
          no_arg j = ap (option_and_then (λ (call : Call). slice_get call.args j)) none
      here y (inr (inr (inr v))) = absurd (let at = v.2 in let nothing = no_arg v.0 in cc)
        where
          no_arg : (j : ℕ) → arg_at o j ≡ None
          no_arg j = ap (option_and_then (λ (call : Call). slice_get call.args j)) none

  -- ---- calls

  module _ (call : Call) (is : call_of o ≡ Some call) (other : address (access_of a) o ≡ None) (callee : Callee) (tells : IsCallee m (NoAccess
      (access_of a) kinds.Argmem) o callee) where
    argument : (j : ℕ) → arg_at o j ≡ slice_get call.args j
    argument j = ap (option_and_then (λ (c : Call). slice_get c.args j)) is

    called : is_call o ≡ true
    called = ap is_some is

    through : (held : Fact → Bool) → callee_has held (NoAccess (access_of a) kinds.Argmem) callee ≡ call_has m held (NoAccess (access_of a) kinds.Argmem) o
    through held = callee_tells m (NoAccess (access_of a) kinds.Argmem) o callee tells held

    abbrev Asks : (Fact → Bool) → Pos → ℕ → Type 0
    Asks held p bit = AsksDefault m a class k o held p bit × AsksArgs m a class k callee call.args held p bit

    abbrev Speaks : Pos → Fact → Type 0
    Speaks p y = SpeaksDefault m a class k o p y ⊎ SpeaksArgs m a class k callee call.args p y

    -- none is made through the arguments, or none of them is to a block of the class
    untouched : (held : Fact → Bool) (b : Bool) → callee_has held (NoAccess (access_of a) kinds.Argmem) callee ≡ b →
        ((j : ℕ) (w : Written) → slice_get call.args j ≡ Some w → is_pointer m w.ty ≡ true →
        (callee_has held (NoAccess (access_of a) kinds.Argmem) callee ≡ true) ⊎ IsNotTo m held (class_of class) w) →
        (call_has m held (NoAccess (access_of a) kinds.Argmem) o ≡ true) ⊎ AreNotTo m held (class_of class) o
    untouched held true e each = inl (sym (through held) ∙ e)
    untouched held false e each = inr ((λ j w at ptr. (apart j w at ptr).0), λ j w at ptr. (apart j w at ptr).1)
      where
        apart : (j : ℕ) (w : Written) → arg_at o j ≡ Some w → is_pointer m w.ty ≡ true → IsNotTo m held (class_of class) w
        apart j w at ptr = elim (each j w (sym (argument j) ∙ at) ptr) [
          | inl has ↦ absurd (both_ways (callee_has held (NoAccess (access_of a) kinds.Argmem) callee) e has)
          | inr h ↦ h
        ]

    asks_down : (held : Fact → Bool) (p : Pos) (bit : ℕ) → Asks held p bit → AsksKind m (off a class) k o held p bit
    asks_down held p bit w here at has live = (off_keeps m a o held class).1 (record {
      access = λ v e. absurd (let none = other in cc);
      call = λ called. (
        w.0 here at has live,
        untouched held (callee_has held (NoAccess (access_of a) kinds.Argmem) callee) refl (λ j v there ptr. w.1 j v there ptr here at has live),
      );
    })

    each_arg : (held : Fact → Bool) → (call_has m held (NoAccess (access_of a) kinds.Argmem) o ≡ true) ⊎ AreNotTo m held (class_of class) o →
        (j : ℕ) (w : Written) → slice_get call.args j ≡ Some w → is_pointer m w.ty ≡ true →
        (callee_has held (NoAccess (access_of a) kinds.Argmem) callee ≡ true) ⊎ IsNotTo m held (class_of class) w
    each_arg held (inl h) j w at ptr = inl (through held ∙ h)
    each_arg held (inr h) j w at ptr = inr (h.0 j w (argument j ∙ at) ptr, h.1 j w (argument j ∙ at) ptr)

    asks_up : (held : Fact → Bool) (p : Pos) (bit : ℕ) → AsksKind m (off a class) k o held p bit → Asks held p bit
    asks_up held p bit h = (
      (λ here at has live. (((off_keeps m a o held class).0 (h here at has live)).call called).0),
      λ j w there ptr here at has live. each_arg held (((off_keeps m a o held class).0 (h here at has live)).call called).1 j w there ptr,
    )

    speaks_down : (p : Pos) (y : Fact) → Speaks p y → SpeaksKind m (off a class) k o p y
    speaks_down p y w = ((off_concerns m a o class).1 (inr called), by w)
      where
        default : (y ≡ dead k) ⊎ (CallSpeaks m (NoAccess (access_of a) kinds.Default) o y ⊎ CallSpeaks m (NoAccess (access_of a) kinds.Argmem) o y) →
            (y ≡ dead k) ⊎ KeepsSpeaks m (off a class) o y
        default (inl e) = inl e
        default (inr h) = inr ((off_speaks m a o class y).1 (inr (inl h)))

        arg : (j : ℕ) (v : Written) → slice_get call.args j ≡ Some v → is_pointer m v.ty ≡ true →
            (y ≡ dead k) ⊎ (CalleeSpeaks (NoAccess (access_of a) kinds.Argmem) callee y ⊎ ToSpeaks (class_of class) v y) →
            (y ≡ dead k) ⊎ KeepsSpeaks m (off a class) o y
        arg j v at ptr (inl e) = inl e
        arg j v at ptr (inr (inl h)) =
            inr ((off_speaks m a o class y).1 (inr (inl (inr ((callee_speaks m (NoAccess (access_of a) kinds.Argmem) o callee tells y).0 h)))))
        arg j v at ptr (inr (inr (inl h))) = inr ((off_speaks m a o class y).1 (inr (inr (inl (j, v, argument j ∙ at, ptr, h)))))
        arg j v at ptr (inr (inr (inr h))) = inr ((off_speaks m a o class y).1 (inr (inr (inr (j, v, argument j ∙ at, ptr, h)))))

        by : Speaks p y → SpeaksLive m (off a class) k (KeepsSpeaks m (off a class) o) p y
        by (inl d) = (d.0, d.1, default d.2)
        by (inr d) = (d.3.1.0, d.3.1.1, arg d.0 d.1 d.2 d.3.0 d.3.1.2)

    speaks_up : (p : Pos) (y : Fact) → SpeaksKind m (off a class) k o p y → Speaks p y
    speaks_up p y w = by w.1.2
      where
        off_by : OffSpeaks m (access_of a) (class_of class) o y → Speaks p y
        off_by (inl v) = absurd (let e = v.1 in let none = other in cc)
        off_by (inr (inl h)) = inl (w.1.0, w.1.1, inr h)
        off_by (inr (inr (inl h))) = inr (h.0, h.1, sym (argument h.0) ∙ h.2, (h.3, (w.1.0, w.1.1, inr (inr (inl h.4)))))
        off_by (inr (inr (inr h))) = inr (h.0, h.1, sym (argument h.0) ∙ h.2, (h.3, (w.1.0, w.1.1, inr (inr (inr h.4)))))

        by : (y ≡ dead k) ⊎ KeepsSpeaks m (off a class) o y → Speaks p y
        by (inl e) = inl (w.1.0, w.1.1, inl e)
        by (inr h) = off_by ((off_speaks m a o class y).0 h)

    pub call_met : (s t u : System) → Meets m ps s t (AsksDefault m a class k o) (SpeaksDefault m a class k o) →
        Meets m ps t u (AsksArgs m a class k callee call.args) (SpeaksArgs m a class k callee call.args) →
        Meets m ps s u (AsksKind m (off a class) k o) (SpeaksKind m (off a class) k o)
    call_met s t u first second =
        meets_iff m ps s u Asks (AsksKind m (off a class) k o) Speaks (SpeaksKind m (off a class) k o)
        (meets_then m ps s t u (AsksDefault m a class k o) (AsksArgs m a class k callee call.args) (SpeaksDefault m a class k o)
        (SpeaksArgs m a class k callee call.args) first second)
        (λ held p bit. (asks_down held p bit, asks_up held p bit))
        (λ p y. (speaks_down p y, speaks_up p y))

  -- what is neither
  pub neither_met : (s : System) → call_of o ≡ None → address (access_of a) o ≡ None →
      Meets m ps s s (AsksKind m (off a class) k o) (SpeaksKind m (off a class) k o)
  neither_met s none other = unconcerned m ps (off a class) k o s
      (λ held. (off_keeps m a o held class).1 (record {
        access = λ v e. absurd (cc);
        call = λ is. absurd (both_ways (is_call o) (no_call o none) is);
      }))
      (λ h. free ((off_concerns m a o class).0 h))
    where
      free : ((w : Written) × (address (access_of a) o ≡ Some w)) ⊎ (is_call o ≡ true) → ⊥
      free (inl w) = (let e = w.1 in cc)
      free (inr is) = both_ways (is_call o) (no_call o none) is

-- the two facts of a callee that are built together are of one position
pub one_position : (m : Module) (ps : Numbered) (a : kinds.Access) (o : Op) (q : PosId) →
    IsSpokenOf m ps (CallSpeaks m (NoAccess a kinds.Default) o) q ↔
    IsSpokenOf m ps (λ y. CallSpeaks m (NoAccess a kinds.Default) o y ⊎ CallSpeaks m (NoAccess a kinds.Argmem) o y) q
one_position m ps a o q = ((λ w. (w.0, w.1, w.2, w.3, inl w.4)), back)
  where
    built : (b : kinds.Access) (f : ℕ) → is_built (function f) (access_bit b kinds.Argmem) ≡ is_built (function f) (access_bit b kinds.Default)
    built kinds.Read f = refl
    built kinds.Write f = refl

    near : (b : kinds.Access) → nat_le (access_bit b kinds.Default) NO_WRITE_OF_INACCESSIBLEMEM ≡ true
    near kinds.Read = refl
    near kinds.Write = refl

    both_bits : (f : ℕ) → is_bit m (function f) (access_bit a kinds.Argmem) ≡ true → is_bit m (function f) (access_bit a kinds.Default) ≡ true
    both_bits f h =
        let parts = and_parts (is_built (function f) (access_bit a kinds.Argmem)) (is_body m f && nat_le (access_bit a kinds.Argmem)
        NO_WRITE_OF_INACCESSIBLEMEM) h in
        and_from (is_built (function f) (access_bit a kinds.Default)) (is_body m f && nat_le (access_bit a kinds.Default) NO_WRITE_OF_INACCESSIBLEMEM)
        (sym (built a f) ∙ parts.0)
        (and_from (is_body m f) (nat_le (access_bit a kinds.Default) NO_WRITE_OF_INACCESSIBLEMEM)
        (and_parts (is_body m f) (nat_le (access_bit a kinds.Argmem) NO_WRITE_OF_INACCESSIBLEMEM) parts.1).0 (near a))

    back : IsSpokenOf m ps (λ y. CallSpeaks m (NoAccess a kinds.Default) o y ⊎ CallSpeaks m (NoAccess a kinds.Argmem) o y) q →
        IsSpokenOf m ps (CallSpeaks m (NoAccess a kinds.Default) o) q
    back w = elim w.4 [
      | inl d ↦ (w.0, w.1, w.2, w.3, d)
      | inr r ↦
          let at : w.0 ≡ function r.0 = ap (λ (y : Fact). y.pos) r.2 in
          let bit : w.1 ≡ access_bit a kinds.Argmem = ap (λ (y : Fact). y.bit) r.2 in (
            function r.0,
            access_bit a kinds.Default,
            subst (λ p. slice_get ps.list q.0 ≡ Some p) at w.2,
            both_bits r.0 (subst (λ n. is_bit m (function r.0) n ≡ true) bit (subst (λ p. is_bit m p w.1 ≡ true) at w.3)),
            (r.0, r.1, refl),
          )
    ]

module _ (m : Module) (ps : Numbered) (to : ℕ) (is : IsNumbering m ps) (kind : FunctionFact) (o : Op) (callee : Callee) (tells : IsCallee m kind o callee) where
  -- the body that a call runs has a position
  pub callee_found : IsFound ps callee
  callee_found f e = is.positions.all (function f.0) (inner_is_body m o f.0 (tells.body ∙ ap number_of e))

  -- a body's word, or a promise, tells of the call
  pub call_says : (bit : ℕ) (t : NewTerm) → function_bit kind ≡ bit → bit < 64 → IsOfCallee ps t bit to callee.promised callee.body →
      Says m ps to t (λ held b. call_has m held kind o ≡ true) (CallSpeaks m kind o)
  call_says bit t same small term =
      says_iff m ps to t (λ held b. callee_has held kind callee ≡ true) (λ held b. call_has m held kind o ≡ true) (CalleeSpeaks kind callee)
      (CallSpeaks m kind o)
      (callee_says m ps to is kind bit same small callee t term)
      (λ held b set. (
        (λ h. sym (callee_tells m kind o callee tells held) ∙ h),
        λ h. callee_tells m kind o callee tells held ∙ h,
      ))
      (callee_speaks m kind o callee tells)

-- the same at the default location, where both facts of the callee are spoken of
pub default_says : (m : Module) (ps : Numbered) (to : ℕ) → IsNumbering m ps → (a : kinds.Access) (o : Op) (callee : Callee) →
    IsCallee m (NoAccess a kinds.Default) o callee → (bit : ℕ) (t : NewTerm) → access_bit a kinds.Default ≡ bit → bit < 64 →
    IsOfCallee ps t bit to callee.promised callee.body → Says m ps to t (λ held b. call_has m held (NoAccess a kinds.Default) o ≡ true)
    (λ y. CallSpeaks m (NoAccess a kinds.Default) o y ⊎ CallSpeaks m (NoAccess a kinds.Argmem) o y)
default_says m ps to is a o callee tells bit t same small term =
    says_named m ps to t (λ held b. call_has m held (NoAccess a kinds.Default) o ≡ true) (CallSpeaks m (NoAccess a kinds.Default) o)
    (λ y. CallSpeaks m (NoAccess a kinds.Default) o y ⊎ CallSpeaks m (NoAccess a kinds.Argmem) o y)
    (call_says m ps to is (NoAccess a kinds.Default) o callee tells bit t same small term) (one_position m ps a o)

-- ---- one argument

module _ (m : Module) (ps : Numbered) (is : IsNumbering m ps) (a : Access) (class : Class) (k : ℕ) (callee : Callee) (w : Written) where
  abbrev pub Apart : (Fact → Bool) → Type 0
  Apart held = (callee_has held (NoAccess (access_of a) kinds.Argmem) callee ≡ true) ⊎ IsNotTo m held (class_of class) w

  abbrev pub Told : Fact → Type 0
  Told y = CalleeSpeaks (NoAccess (access_of a) kinds.Argmem) callee y ⊎ ToSpeaks (class_of class) w y

  pub arg_says : (to bit : ℕ) (calls apart t : NewTerm) → access_bit (access_of a) kinds.Argmem ≡ bit → bit < 64 →
      IsOfCallee ps calls bit to callee.promised callee.body →
      Says m ps to apart (λ held b. IsNotTo m held (class_of class) w) (ToSpeaks (class_of class) w) → t ≡ roll-NewTerm (new.Or calls apart) →
      Says m ps to t
      (λ held b. (callee_has held (NoAccess (access_of a) kinds.Argmem) callee ≡ true) ⊎ IsNotTo m held (class_of class) w)
      (λ y. CalleeSpeaks (NoAccess (access_of a) kinds.Argmem) callee y ⊎ ToSpeaks (class_of class) w y)
  arg_says to bit calls apart t same small term says e = subst (λ u. Says m ps to u (λ held b. Apart held) Told) (sym e)
      (says_or m ps to calls apart (λ held b. callee_has held (NoAccess (access_of a) kinds.Argmem) callee ≡ true)
      (λ held b. IsNotTo m held (class_of class) w) (CalleeSpeaks (NoAccess (access_of a) kinds.Argmem) callee) (ToSpeaks (class_of class) w)
      (callee_says m ps to is (NoAccess (access_of a) kinds.Argmem) bit same small callee calls term) says)

  -- a pointer
  pub pointer_met : (s t : System) → is_pointer m w.ty ≡ true → Meets m ps s t (AsksLive m (off a class) k Apart) (SpeaksLive m (off a class) k Told) →
      Meets m ps s t (AsksArg m a class k callee w) (SpeaksArg m a class k callee w)
  pointer_met s t ptr met =
      meets_iff m ps s t (AsksLive m (off a class) k Apart) (AsksArg m a class k callee w) (SpeaksLive m (off a class) k Told)
      (SpeaksArg m a class k callee w) met
      (λ held p bit. ((λ h ptr. h), λ h. h ptr)) (λ p y. ((λ v. (ptr, v)), λ v. v.1))

  -- no pointer
  pub plain_met : (s : System) → is_pointer m w.ty ≡ false → Meets m ps s s (AsksArg m a class k callee w) (SpeaksArg m a class k callee w)
  plain_met s plain =
      meets_iff m ps s s (λ held p bit. Unit {0}) (AsksArg m a class k callee w) (λ p y. ⊥) (SpeaksArg m a class k callee w) (meets_none m ps s)
      (λ held p bit. ((λ h ptr. absurd (both_ways (is_pointer m w.ty) plain ptr)), λ h. tt))
      (λ p y. ((λ v. absurd v), λ v. absurd (both_ways (is_pointer m w.ty) plain v.0)))

-- ---- volatile accesses, and what calls do outside of the module

module _ (m : Module) (ps : Numbered) (a : kinds.Access) (k : ℕ) (o : Op) where
  -- a volatile access makes it, whatever the set is
  pub volatile_says : (to : ℕ) (t : NewTerm) → is_volatile o ≡ true → t ≡ roll-NewTerm (new.Const 0) →
      Says m ps to t (λ held b. IsVisible m held a o) (CallSpeaks m (NoAccess a kinds.Inaccessible) o)
  volatile_says to t is e = given_says m ps to t false (λ held. IsVisible m held a o) (CallSpeaks m (NoAccess a kinds.Inaccessible) o) e
      (λ held. ((λ h. sym h.access ∙ is), λ e. absurd (cc)))
      (λ y. no_call_speaks m (NoAccess a kinds.Inaccessible) o y (volatile_no_call o is))

  pub volatile_met : (s t : System) → is_volatile o ≡ true →
      Meets m ps s t (AsksLive m (NoAccess a kinds.Inaccessible) k (λ held. IsVisible m held a o))
      (SpeaksLive m (NoAccess a kinds.Inaccessible) k (CallSpeaks m (NoAccess a kinds.Inaccessible) o)) →
      Meets m ps s t (AsksKind m (NoAccess a kinds.Inaccessible) k o) (SpeaksKind m (NoAccess a kinds.Inaccessible) k o)
  volatile_met s t is met =
      live_as m ps (NoAccess a kinds.Inaccessible) k o s t (λ held. IsVisible m held a o) (CallSpeaks m (NoAccess a kinds.Inaccessible) o) (inl is)
      (λ held. ((λ h. h), λ h. h)) (λ y. ((λ h. h), λ h. h)) met

  pub visible_call_met : (s t : System) → is_volatile o ≡ false → is_call o ≡ true →
      Meets m ps s t (AsksLive m (NoAccess a kinds.Inaccessible) k (λ held. call_has m held (NoAccess a kinds.Inaccessible) o ≡ true))
      (SpeaksLive m (NoAccess a kinds.Inaccessible) k (CallSpeaks m (NoAccess a kinds.Inaccessible) o)) →
      Meets m ps s t (AsksKind m (NoAccess a kinds.Inaccessible) k o) (SpeaksKind m (NoAccess a kinds.Inaccessible) k o)
  visible_call_met s t plain is met =
      live_as m ps (NoAccess a kinds.Inaccessible) k o s t (λ held. call_has m held (NoAccess a kinds.Inaccessible) o ≡ true)
      (CallSpeaks m (NoAccess a kinds.Inaccessible) o) (inr is)
      (λ held. ((λ h. record { access = plain; call = λ called. h }), λ h. h.call is)) (λ y. ((λ h. h), λ h. h)) met

  pub visible_met : (s : System) → is_volatile o ≡ false → is_call o ≡ false →
      Meets m ps s s (AsksKind m (NoAccess a kinds.Inaccessible) k o) (SpeaksKind m (NoAccess a kinds.Inaccessible) k o)
  visible_met s plain none = unconcerned m ps (NoAccess a kinds.Inaccessible) k o s
      (λ held. record { access = plain; call = λ called. absurd (both_ways (is_call o) none called) }) free
    where
      free : (is_volatile o ≡ true) ⊎ (is_call o ≡ true) → ⊥
      free (inl is) = both_ways (is_volatile o) plain is
      free (inr is) = both_ways (is_call o) none is
