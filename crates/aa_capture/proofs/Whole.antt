-- What is asked for the uses of all values is what the rules of uses ask.
use Rattle.std.proofs.Common.{arith, ◌≡◌, ◌<◌, ◌≤◌, nat_le, ℕ, Bool, true, false, MatchOption, slice_get, Some, refl, sym, ap, subst, ◌∙◌, inl, inr}
use Rattle.std.proofs.lemmas.Bool.{cases_eq, leb-true}
use Rattle.lattice_words.specs.declared.value.TheConstants.{CAPTURED_BY_RETURN_ALONE, NOT_RETURNED, NOT_READ_THROUGH}
use Rattle.ir_module.specs.declared.op.Written.{Written}
use Rattle.ir_module.specs.declared.op.Arm.{Arm}
use Rattle.ir_module.specs.declared.op.Op.{Op}
use Rattle.ir_module.specs.declared.op.Op.TheVariants as op
use Rattle.ir_module.specs.declared.op.Instr.{Instr}
use Rattle.ir_module.specs.declared.module.Seg.{Seg}
use Rattle.ir_module.specs.declared.module.Module.{Module}
use Rattle.ir_module.specs.Places.{spot}
use Rattle.ir_module.proofs.Spots.{stands, at_spot}
use Rattle.facts.specs.declared.pos.Pos.{Pos}
use Rattle.facts.specs.declared.pos.Pos.TheVariants as pos
use Rattle.facts.specs.Kinds.{Read, Write, UseFact, CapturedByReturnAlone, NotReturned, NotThrough, UsedSo, use_bit, value_fact}
use Rattle.facts.specs.Facts.{Fact, value}
use Rattle.facts.specs.Masks.{is_bit}
use Rattle.ir_module.specs.Operands.{operands}
use Rattle.facts.specs.Uses.{is_phi, IsUsedSo, UseSpeaks}
use Rattle.facts.specs.Names.{ValueSpeaks}
use Rattle.facts.specs.Justified.{ValueHas}
use Rattle.rule_says.proofs.Held.{is_bit_small}
use Rattle.aa_capture.specs.Capture.{AsksCapture, SpeaksCapture}
use Rattle.aa_capture.specs.Asked.{arms_of, AsksUses, SpeaksUses, SpeaksUse, SpeaksArm, SpeaksInstr}

crash : {A : Type 0} → false ≡ true → A
crash e = absurd (cc)

-- ---- the four bits

name_of : (bit : ℕ) → CAPTURED_BY_RETURN_ALONE ≤ bit → bit < 47 → (kind : UseFact) × (use_bit kind ≡ bit)
name_of bit low high = elim (cases_eq bit CAPTURED_BY_RETURN_ALONE) [
  | inl a ↦ (CapturedByReturnAlone, sym a)
  | inr a ↦ elim (cases_eq bit NOT_RETURNED) [
    | inl b ↦ (NotReturned, sym b)
    | inr b ↦ elim (cases_eq bit NOT_READ_THROUGH) [
      | inl d ↦ (NotThrough Read, sym d)
      | inr d ↦ (NotThrough Write, omega (arith, low, high, a, b, d))
    ]
  ]
]

fact_of : (kind : UseFact) → value_fact (use_bit kind) ≡ Some (UsedSo kind)
fact_of CapturedByReturnAlone = refl
fact_of NotReturned = refl
fact_of (NotThrough Read) = refl
fact_of (NotThrough Write) = refl

bit_low : (kind : UseFact) → nat_le CAPTURED_BY_RETURN_ALONE (use_bit kind) ≡ true
bit_low CapturedByReturnAlone = refl
bit_low NotReturned = refl
bit_low (NotThrough Read) = refl
bit_low (NotThrough Write) = refl

-- what has an arm is a phi
pub phi_of : (o : Op) (j : ℕ) (arm : Arm) → slice_get (arms_of o) j ≡ Some arm → o ≡ op.Phi (arms_of o)
phi_of (op.Phi arms) j arm e = refl
phi_of _ j arm e = absurd (cc)

module _ (m : Module) where
  named : (v bit : ℕ) → nat_le CAPTURED_BY_RETURN_ALONE bit ≡ true → is_bit m (value v) bit ≡ true → (kind : UseFact) × (use_bit kind ≡ bit)
  named v bit low has = name_of bit (leb-true CAPTURED_BY_RETURN_ALONE bit low) (is_bit_small m (value v) bit has)

  -- ---- what is asked

  module _ (held : Fact → Bool) where
    used_down : (v : ℕ) (kind : UseFact) → AsksUses m held (value v) (use_bit kind) → is_bit m (value v) (use_bit kind) ≡ true → IsUsedSo m held v kind
    used_down v kind h has = record {
      plain = λ s instr n given live.
          let here = stands m s instr given.at_spot in
          (h s.seg.0 here.seg here.at_seg s.at instr here.at_place).0 given.plain n given.written given.is_operand kind v given.is_value refl refl has live;
      arms = λ s instr arm t n e given by live.
          let here = stands m s instr given.at_spot in
          (h s.seg.0 here.seg here.at_seg s.at instr here.at_place).1 given.k arm
          (ap (λ o. slice_get (arms_of o) given.k) given.is_phi ∙ given.is_arm) kind v t n e given.is_value refl refl has
          (record { edge = by.edge; to = by.to; from = by.from }) live;
    }

    pub asks_down : (p : Pos) (bit : ℕ) → AsksUses m held p bit → AsksCapture m held p bit
    asks_down (pos.Value v) bit h low has =
        let name = named v.0 bit low has in
        subst (λ b. MatchOption (value_fact b) ⊥ (ValueHas m held v.0 b)) name.1
        (subst (λ o. MatchOption o ⊥ (ValueHas m held v.0 (use_bit name.0))) (sym (fact_of name.0))
        (used_down v.0 name.0 (subst (λ b. AsksUses m held (value v.0) b) (sym name.1) h) (subst (λ b. is_bit m (value v.0) b ≡ true) (sym name.1) has)))
    asks_down (pos.Segment k) bit h low has = crash low
    asks_down (pos.Function f) bit h low has = crash low
    asks_down (pos.Entry f at) bit h low has = crash low
    asks_down (pos.Return f) bit h low has = crash low
    asks_down (pos.Reach row k) bit h low has = crash low
    asks_down (pos.Effect k) bit h low has = crash low

    -- the rule of a value's fact of uses
    rule_of : (p : Pos) (bit v : ℕ) (kind : UseFact) → AsksCapture m held p bit → p ≡ value v → bit ≡ use_bit kind → is_bit m p bit ≡ true →
        IsUsedSo m held v kind
    rule_of p bit v kind h here of has =
        let at_value : AsksCapture m held (value v) (use_bit kind) =
        subst (λ b. AsksCapture m held (value v) b) of (subst (λ q. AsksCapture m held q bit) here h) in
        subst (λ o. MatchOption o ⊥ (ValueHas m held v (use_bit kind))) (fact_of kind)
        (at_value (bit_low kind) (subst (λ b. is_bit m (value v) b ≡ true) of (subst (λ q. is_bit m q bit ≡ true) here has)))

    pub asks_up : (p : Pos) (bit : ℕ) → AsksCapture m held p bit → AsksUses m held p bit
    asks_up p bit h k seg at_seg at i at_place =
        let there = at_spot m (spot k at) seg i at_seg at_place in (
          (λ plain n w operand kind v is_value here of has live. (rule_of p bit v kind h here of has).plain (spot k at) i n
              (record { written = w; at_spot = there; is_operand = operand; is_value = is_value; plain = plain }) live),
          λ j arm is_arm kind v t n e is_value here of has by live. (rule_of p bit v kind h here of has).arms (spot k at) i arm t n e
              (record { arms = arms_of i.op; k = j; at_spot = there; is_phi = phi_of i.op j arm is_arm; is_arm = is_arm; is_value = is_value })
              (record { edge = by.edge; to = by.to; from = by.from }) live,
        )

  -- ---- what is spoken of

  spoken : (v : ℕ) (kind : UseFact) (p : Pos) (y : Fact) → p ≡ value v → is_bit m p (use_bit kind) ≡ true → UseSpeaks m v kind y → SpeaksCapture m p y
  spoken v kind p y here has w =
      subst (λ q. SpeaksCapture m q y) (sym here) (
        use_bit kind,
        bit_low kind,
        subst (λ q. is_bit m q (use_bit kind) ≡ true) here has,
        subst (λ o. MatchOption o ⊥ (ValueSpeaks m v (use_bit kind) y)) (sym (fact_of kind)) w,
      )

  plain_spoken : (k : ℕ) (seg : Seg) (at : ℕ) (i : Instr) (n : ℕ) (w : Written) (p : Pos) (y : Fact) → slice_get m.segs k ≡ Some seg →
      slice_get seg.instrs at ≡ Some i → is_phi i.op ≡ false → slice_get (operands i.op) n ≡ Some w → SpeaksUse m k i n w p y → SpeaksCapture m p y
  plain_spoken k seg at i n w p y at_seg at_place plain operand s =
      spoken s.1 s.0 p y s.3 s.4 (inl (
        spot k at,
        i,
        n,
        record { written = w; at_spot = at_spot m (spot k at) seg i at_seg at_place; is_operand = operand; is_value = s.2; plain = plain },
        s.5,
      ))

  arm_spoken : (k : ℕ) (seg : Seg) (at : ℕ) (i : Instr) (j : ℕ) (arm : Arm) (p : Pos) (y : Fact) → slice_get m.segs k ≡ Some seg →
      slice_get seg.instrs at ≡ Some i → slice_get (arms_of i.op) j ≡ Some arm → SpeaksArm m k i arm p y → SpeaksCapture m p y
  arm_spoken k seg at i j arm p y at_seg at_place is_arm s =
      spoken s.1 s.0 p y s.6 s.7 (inr (
        spot k at,
        i,
        arm,
        s.2,
        s.3,
        s.4,
        record {
          arms = arms_of i.op;
          k = j;
          at_spot = at_spot m (spot k at) seg i at_seg at_place;
          is_phi = phi_of i.op j arm is_arm;
          is_arm = is_arm;
          is_value = s.5;
        },
        record { edge = s.8.edge; to = s.8.to; from = s.8.from },
        s.9,
      ))

  pub speaks_down : (p : Pos) (y : Fact) → SpeaksUses m p y → SpeaksCapture m p y
  speaks_down p y w = by w.3.3
    where
      by : SpeaksInstr m w.0 w.3.1 p y → SpeaksCapture m p y
      by (inl s) = plain_spoken w.0 w.1 w.3.0 w.3.1 s.1.0 s.1.1 p y w.2 w.3.2 s.0 s.1.2 s.1.3
      by (inr s) = arm_spoken w.0 w.1 w.3.0 w.3.1 s.0 s.1 p y w.2 w.3.2 s.2 s.3

  use_named : (v : ℕ) (kind : UseFact) (y : Fact) → is_bit m (value v) (use_bit kind) ≡ true → UseSpeaks m v kind y → SpeaksUses m (value v) y
  use_named v kind y has (inl w) =
      let given = w.3 in
      let here = stands m w.0 w.1 given.at_spot in (
        w.0.seg.0,
        here.seg,
        here.at_seg,
        (w.0.at, w.1, here.at_place, inl (given.plain, (w.2, given.written, given.is_operand, (kind, v, given.is_value, refl, has, w.4)))),
      )
  use_named v kind y has (inr w) =
      let given = w.6 in
      let here = stands m w.0 w.1 given.at_spot in (
        w.0.seg.0,
        here.seg,
        here.at_seg,
        (
          w.0.at,
          w.1,
          here.at_place,
          inr (
            given.k,
            w.2,
            ap (λ o. slice_get (arms_of o) given.k) given.is_phi ∙ given.is_arm,
            (kind, v, w.3, w.4, w.5, given.is_value, refl, has, record { edge = w.7.edge; to = w.7.to; from = w.7.from }, w.8),
          ),
        ),
      )

  pub speaks_up : (p : Pos) (y : Fact) → SpeaksCapture m p y → SpeaksUses m p y
  speaks_up (pos.Value v) y w =
      let name = named v.0 w.0 w.1 w.2 in
      let uses : UseSpeaks m v.0 name.0 y =
      subst (λ o. MatchOption o ⊥ (ValueSpeaks m v.0 (use_bit name.0) y)) (fact_of name.0)
      (subst (λ b. MatchOption (value_fact b) ⊥ (ValueSpeaks m v.0 b y)) (sym name.1) w.3) in
      use_named v.0 name.0 y (subst (λ b. is_bit m (value v.0) b ≡ true) (sym name.1) w.2) uses
  speaks_up (pos.Segment k) y w = crash w.1
  speaks_up (pos.Function f) y w = crash w.1
  speaks_up (pos.Entry f at) y w = crash w.1
  speaks_up (pos.Return f) y w = crash w.1
  speaks_up (pos.Reach row k) y w = crash w.1
  speaks_up (pos.Effect k) y w = crash w.1
