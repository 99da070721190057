-- The values of the frame on top: what the invariant says of those that an instruction reads, and what the rules permit of them.
use Rattle.std.proofs.Common.{◌≡◌, ℕ, Bool, true, false, List, [], ◌∷◌, slice_get, map, MatchOption, Option, None, Some, refl, sym, ap, subst, ◌∙◌, ◌⊎◌, inl}
use Rattle.std.proofs.Common.{inr}
use Rattle.attr_ids.specs.declared.ids.ValueId.{ValueId}
use Rattle.ir_module.specs.declared.op.Op.{Op}
use Rattle.ir_module.specs.declared.op.Operand.{Operand}
use Rattle.ir_module.specs.declared.op.Operand.TheVariants as operand
use Rattle.ir_module.specs.declared.op.Instr.{Instr}
use Rattle.ir_module.specs.declared.op.Written.{Written}
use Rattle.ir_module.specs.declared.module.Module.{Module}
use Rattle.ir_module.specs.Places.{instr_at}
use Rattle.ir_module.specs.Operands.{operands}
use Rattle.facts.specs.Kinds.{Access, Read as Reads, Write as Writes, UseFact, NotReturned}
use Rattle.facts.specs.Facts.{Fact, dead_at, used_so}
use Rattle.facts.specs.Uses.{ResultUsed, Permits, is_phi}
use Rattle.ir_machine.specs.declared.choice.Datum.TheVariants as datum
use Rattle.ir_machine.specs.declared.choice.Value.{Value}
use Rattle.ir_machine.specs.Frames.{active, BodyFrame, OutsideFrame, Frame, Body, Outside, State, Capture, Read, Write, Event}
use Rattle.ir_machine.specs.Arguments.{Homes, IsValueOf}
use Rattle.ir_machine.specs.Honest.{IsFair}
use Rattle.ir_machine.specs.Valid.{scope_of, Known, AreOrdered}
use Rattle.law_premises.specs.Premises.{JustifiesItself}
use Rattle.laws_uses.proofs.Marks.{Marked, Has, HasMarksOf, IsFrom, unmarked}
use Rattle.laws_uses.proofs.Levels.{kind_of, OnCapture, OnRead, OnWrite, Level, permitted}
use Rattle.laws_uses.proofs.Guarding.{guard_captured, guard_read, guard_written}
use Rattle.laws_uses.proofs.Sealed.{IsSecret, Guards, Guarded, IsSealedIn, OwnsWell, Owns, ForSecrets, for_top, under_top_of, KeptOf}

-- an operand with a mark is a value of the frame
pub marked_operand : (home : Homes) (values : ℕ → Option Value) (w : Operand) (y : Value) (c j : ℕ) → IsValueOf home values w y → Has c j y →
    (v : ValueId) × (w ≡ operand.Value v) × (values v.0 ≡ Some y)
marked_operand home values (operand.Value v) y c j is has = (v, refl, is)
marked_operand home values (operand.Global g) y c j is has = absurd (unmarked c j y.origins is.origins has)
marked_operand home values (operand.Func f) y c j is has = absurd (unmarked c j y.origins is.origins has)
marked_operand home values (operand.Offset base bytes inbounds wrap) y c j is has = absurd (unmarked c j y.origins is.origins has)
marked_operand home values (operand.Int bits here) y c j is has = absurd (unmarked c j y.origins is.origins has)
marked_operand home values (operand.Truth b) y c j is has = absurd (unmarked c j y.origins is.origins has)
marked_operand home values operand.Zero y c j is has = absurd (unmarked c j y.origins is.origins has)
marked_operand home values operand.Null y c j is has = absurd (unmarked c j y.origins is.origins has)
marked_operand home values operand.Undef y c j is has = absurd (unmarked c j y.origins is.origins has)
marked_operand home values operand.Poison y c j is has = absurd (unmarked c j y.origins is.origins has)
marked_operand home values (operand.WrongOffset rule) y c j is has = absurd is
marked_operand home values (operand.Parts shape first count) y c j is has = absurd is
marked_operand home values (operand.AnyInt first count) y c j is has = absurd (unmarked c j y.origins is.origins has)

module _ (m : Module) (held : Fact → Bool) (access : Option Access) where
  -- what guards a value guards each with its marks
  pub guarded_more : (frames : List Frame) (y x : Value) → HasMarksOf y x → Guarded m held access frames y → Guarded m held access frames x
  guarded_more [] y x more guarded = guarded
  guarded_more (frame ∷ frames) y x more guarded =
      elim guarded [
        | inl here ↦ inl (guards frame here)
        | inr later ↦ inr (guarded_more frames y x more later)
      ]
    where
      guards : (frame : Frame) → Guards m held access frame y → Guards m held access frame x
      guards (Body f) none = none
      guards (Outside f) (k, promise, has) = (k, promise, more f.call.number k has)

  -- a value of a module frame above a secret's call that came in: its parameter has the fact, or it is guarded
  pub body_safe : (frame : BodyFrame) (frames : List Frame) (c j : ℕ) (y : Value) → IsSealedIn m held access frames (Body frame) c j → IsFrom frame.call c j y →
      ((k : ℕ) × IsSecret m held access frame k false × Has frame.call.number k y) ⊎ Guarded m held access (Body frame ∷ frames) y
  body_safe frame frames c j y sealed came =
      elim (sealed.arguments came.at came.argument came.passed came.has) [
        | inl safe ↦ inl (came.at, safe, came.own)
        | inr guarded ↦ inr (inr (guarded_more frames came.argument y came.marks guarded))
      ]

  -- and of an outside frame: it is guarded
  pub outside_safe : (frame : OutsideFrame) (frames : List Frame) (c j : ℕ) (y : Value) → IsSealedIn m held access frames (Outside frame) c j →
      IsFrom frame.call c j y → Guarded m held access (Outside frame ∷ frames) y
  outside_safe frame frames c j y sealed came =
      elim (sealed.arguments came.at came.argument came.passed came.has) [
        | inl promise ↦ inl (came.at, promise, came.own)
        | inr guarded ↦ inr (guarded_more frames came.argument y came.marks guarded)
      ]

  -- a value of the module frame on top has the fact, or it is guarded
  pub value_safe : (t : State) (frame : BodyFrame) (rest : List Frame) → OwnsWell m held access (Body frame) →
      ForSecrets m held access (Body frame ∷ rest) (KeptOf m held access t) → (v : ℕ) (y : Value) → frame.values v ≡ Some y →
      ForSecrets m held access (Body frame ∷ rest) (λ above low j. Has low.call.number j y → Level held access false v ⊎ Guarded m held access above y)
  value_safe t frame rest own kept v y is =
      for_top m held access (λ above low j. Has low.call.number j y → Level held access false v ⊎ Guarded m held access above y) (Body frame) rest
      (λ low e j secret has.
      let same : low ≡ frame = cc in
      inl (own j false (subst (λ f. IsSecret m held access f j false) same secret) v y is (subst (λ (f : BodyFrame). Has f.call.number j y) same has)))
      (λ above low below e j secret has.
      let sealed = (under_top_of m held access (KeptOf m held access t) (Body frame) rest kept above low below e j secret).0.0 in
      elim (body_safe frame above low.call.number j y sealed (sealed.values v y is has)) [
        | inl (k, param, mine) ↦ inl (own k false param v y is mine)
        | inr guarded ↦ inr guarded
      ])

-- ---- what the instruction of the frame on top does with it

module _ (m : Module) (held : Fact → Bool) (is : JustifiesItself m held) (access : Option Access) (t : State) (frame : BodyFrame) (rest : List Frame)
    (own : OwnsWell m held access (Body frame)) (kept : ForSecrets m held access (Body frame ∷ rest) (KeptOf m held access t))
    (instr : Instr) (at : instr_at m frame.spot ≡ Some instr) (live : held (dead_at frame.spot) ≡ false) where
  -- operand number n of the instruction permits the use of what it is, or that is guarded
  pub operand_permits : (o : Op) → instr.op ≡ o → is_phi o ≡ false → (n : ℕ) (w : Written) (y : Value) (home : Homes) → slice_get (operands o) n ≡ Some w →
      IsValueOf home frame.values w.val y →
      ForSecrets m held access (Body frame ∷ rest)
      (λ above low j. Has low.call.number j y → Permits m held (kind_of access) instr o n ⊎ Guarded m held access above y)
  operand_permits o op_is plain n w y home is_operand is_value above low below e j secret has =
      let named = marked_operand home frame.values w.val y low.call.number j is_value has in
      elim (value_safe m held access t frame rest own kept named.0.0 y named.2 above low below e j secret has) [
        | inl level ↦ inl (subst (λ o. Permits m held (kind_of access) instr o n) op_is
            (permitted m held is (kind_of access) named.0 frame.spot instr n w level at
            (subst (λ o. slice_get (operands o) n ≡ Some w) (sym op_is) is_operand) named.1 (subst (λ o. is_phi o ≡ false) (sym op_is) plain) live))
        | inr guarded ↦ inr guarded
      ]

module _ (m : Module) (held : Fact → Bool) (is : JustifiesItself m held) (access : Option Access) (frame : BodyFrame) (values : ℕ → Option Value)
    (own : Owns m held access frame values) (instr : Instr) (at : instr_at m frame.spot ≡ Some instr) (live : held (dead_at frame.spot) ≡ false) where
  -- at each level: what is permitted of both facts of an own value
  pub own_permits : (o : Op) → instr.op ≡ o → is_phi o ≡ false → (n : ℕ) (w : Written) (y : Value) (home : Homes) → slice_get (operands o) n ≡ Some w →
      IsValueOf home values w.val y → (j : ℕ) (u : Bool) → IsSecret m held access frame j u → Has frame.call.number j y →
      (v : ValueId) × (w.val ≡ operand.Value v) × Level held access u v.0 × ((kind : UseFact) → held (used_so kind v.0) ≡ true → Permits m held kind instr o n)
  own_permits o op_is plain n w y home is_operand is_value j u secret has =
      let named = marked_operand home values w.val y frame.call.number j is_value has in (
        named.0,
        named.1,
        own j u secret named.0.0 y named.2 has,
        (λ kind fact. subst (λ o. Permits m held kind instr o n) op_is
            (permitted m held is kind named.0 frame.spot instr n w fact at
            (subst (λ o. slice_get (operands o) n ≡ Some w) (sym op_is) is_operand) named.1 (subst (λ o. is_phi o ≡ false) (sym op_is) plain) live)),
      )

-- what is passed on to the result has its level there
pub result_level : (held : Fact → Bool) (access : Option Access) (instr : Instr) (r : ValueId) (u : Bool) (v : ℕ) → instr.result ≡ Some r →
    Level held access u v →
    ((kind : UseFact) → held (used_so kind v) ≡ true → ResultUsed held kind instr) → Level held access u r.0
result_level held access instr r u v result level passes = by u level
  where
    used : (kind : UseFact) → held (used_so kind v) ≡ true → held (used_so kind r.0) ≡ true
    used kind fact = subst (λ found. MatchOption found ⊥ (λ r. held (used_so kind r.0) ≡ true)) result (passes kind fact)

    by : (u : Bool) → Level held access u v → Level held access u r.0
    by false has = used (kind_of access) has
    by true has = (used (kind_of access) has.0, used NotReturned has.1)

-- ---- events

module _ (m : Module) (held : Fact → Bool) (t : State) (stack : List Frame) (e : Event) (fair : IsFair m e) (calls : e.calls ≡ map active stack)
    (ordered : AreOrdered t.born t.next_call t.memory.count stack) where
  abbrev IsUsed : Option Access → (Option Access → Type 0 → Type 0) → Value → List Frame → BodyFrame → ℕ → Type 0
  IsUsed access claim y above low j = Has low.call.number j y → claim access ⊥ ⊎ Guarded m held access above y

  -- what is captured has no mark of a secret, where a capture is not permitted
  pub clear_capture : (access : Option Access) (y : Value) → e.what ≡ Capture y.origins → ForSecrets m held access stack (IsUsed access OnCapture y) →
      ForSecrets m held access stack (λ above low j. OnCapture access (Marked low.call.number j y.origins → ⊥))
  clear_capture None y what used above low below eq j secret =
      λ has. elim (used above low below eq j secret has) [
        | inl none ↦ none
        | inr guarded ↦ guard_captured m held None e above (Body low ∷ below) y fair (calls ∙ ap (map active) eq) guarded what
      ]
  clear_capture (Some a) y what used above low below eq j secret = tt

  pub clear_read : (access : Option Access) (y : Value) (b o : ℕ) → Known (scope_of t) y → y.datum ≡ datum.Ptr b o → e.what ≡ Read b y.origins →
      ForSecrets m held access stack (IsUsed access OnRead y) →
      ForSecrets m held access stack (λ above low j. OnRead access (Marked low.call.number j y.origins → ⊥))
  clear_read None y b o known is what used above low below eq j secret = tt
  clear_read (Some Reads) y b o known is what used above low below eq j secret =
      λ has. elim (used above low below eq j secret has) [
        | inl none ↦ none
        | inr guarded ↦
            guard_read m held e above (Body low ∷ below) y fair (calls ∙ ap (map active) eq) (scope_of t) t.next_call t.memory.count
            (subst (AreOrdered t.born t.next_call t.memory.count) eq ordered) known guarded b o is what
      ]
  clear_read (Some Writes) y b o known is what used above low below eq j secret = tt

  pub clear_write : (access : Option Access) (y : Value) (b o : ℕ) → Known (scope_of t) y → y.datum ≡ datum.Ptr b o → e.what ≡ Write b y.origins →
      ForSecrets m held access stack (IsUsed access OnWrite y) →
      ForSecrets m held access stack (λ above low j. OnWrite access (Marked low.call.number j y.origins → ⊥))
  clear_write None y b o known is what used above low below eq j secret = tt
  clear_write (Some Reads) y b o known is what used above low below eq j secret = tt
  clear_write (Some Writes) y b o known is what used above low below eq j secret =
      λ has. elim (used above low below eq j secret has) [
        | inl none ↦ none
        | inr guarded ↦
            guard_written m held e above (Body low ∷ below) y fair (calls ∙ ap (map active) eq) (scope_of t) t.next_call t.memory.count
            (subst (AreOrdered t.born t.next_call t.memory.count) eq ordered) known guarded b o is what
      ]

  -- in any case, what is captured in the hand of the outside has no mark of a secret
  pub unmarked_guarded : (access : Option Access) (y : Value) → e.what ≡ Capture y.origins →
      ForSecrets m held access stack (λ above low j. Has low.call.number j y → Guarded m held access above y) →
      ForSecrets m held access stack (λ above low j. Has low.call.number j y → ⊥)
  unmarked_guarded access y what used above low below eq j secret has =
      guard_captured m held access e above (Body low ∷ below) y fair (calls ∙ ap (map active) eq) (used above low below eq j secret has) what
