-- What is asked of the effects of segments and of bodies together is what the rules of control ask.
use Rattle.std.proofs.Common.{arith, ◌≡◌, ◌≤◌, ◌&&◌, ◌⊎◌, nat_le, ℕ, zero, suc, Bool, true, false, MatchOption, slice_get}
use Rattle.std.proofs.Common.{Some, refl, sym, ap, subst, ◌∙◌, inl, inr}
use Rattle.std.proofs.lemmas.Bool.{and_parts, and_from, leb-true, le-leb}
use Rattle.std.proofs.lemmas.Nat.Bits.{bit_at_above}
use Rattle.lattice_words.specs.declared.function.TheConstants.{ALL_CONTROL, NOFREE, NO_WRITE_OF_INACCESSIBLEMEM}
use Rattle.ir_module.specs.declared.op.Instr.{Instr}
use Rattle.ir_module.specs.declared.module.Seg.{Seg}
use Rattle.ir_module.specs.declared.module.Module.{Module}
use Rattle.ir_module.specs.Places.{spot, instr_at, IsSegIn}
use Rattle.ir_module.proofs.Spots.{stands, at_spot}
use Rattle.facts.specs.declared.pos.Pos.{Pos}
use Rattle.facts.specs.declared.pos.Pos.TheVariants as pos
use Rattle.facts.specs.Kinds.{Access, Read, Write, Location, Default, Argmem, Inaccessible, FunctionFact, NoUnwind, NoReturn, NoFree, NoAccess, access_bit}
use Rattle.facts.specs.Kinds.{function_bit, function_fact}
use Rattle.facts.specs.Facts.{Fact, fact, function, effect, dead}
use Rattle.facts.specs.Bodies.{is_body}
use Rattle.facts.specs.Masks.{is_built, has_bit_of, is_bit}
use Rattle.facts.specs.Functions.{Keeps, SegmentKeeps, SegmentSpeaks, EffectsSpeak}
use Rattle.facts.specs.Justified.{Rule}
use Rattle.rule_says.specs.Saying.{IsSet}
use Rattle.aa_control.specs.Control.{is_control, AsksControl, SpeaksControl}
use Rattle.aa_control.specs.Asked.{AsksKind, SpeaksKind, AsksInstr, SpeaksInstr, AsksEffects, SpeaksEffects, AsksBodies}
use Rattle.aa_control.specs.Asked.{SpeaksBodies}
use Rattle.aa_control.specs.Coming.{AsksDeads, SpeaksDeads}
use Rattle.aa_control.proofs.Died.{dead_bit}
use Rattle.aa_control.proofs.Comes.{dead_down, dead_up, deads_down, deads_up}

crash : {A : Type 0} → false ≡ true → A
crash e = absurd (cc)

-- ---- the three bits

set_low : (bit : ℕ) → IsSet ALL_CONTROL bit → nat_le bit NOFREE ≡ true
set_low zero e = refl
set_low (suc zero) e = refl
set_low (suc (suc zero)) e = refl
set_low (suc (suc (suc n))) e = absurd (let none = bit_at_above 7 3 (suc (suc (suc n))) (omega arith) (omega arith) in omega (arith, e, none))

low_set : (bit : ℕ) → nat_le bit NOFREE ≡ true → IsSet ALL_CONTROL bit
low_set zero e = refl
low_set (suc zero) e = refl
low_set (suc (suc zero)) e = refl
low_set (suc (suc (suc n))) e = absurd (let l = leb-true (suc (suc (suc n))) 2 e in omega (arith, l))

module _ (m : Module) where
  -- ---- what is asked

  module _ (held : Fact → Bool) where
    -- the rule of an effect, from what each of its instructions is asked
    keeps_all : (k bit : ℕ) → ((kind : FunctionFact) → function_bit kind ≡ bit → nat_le bit NOFREE ≡ true → SegmentKeeps m held k kind) →
        nat_le bit NOFREE ≡ true →
        MatchOption (function_fact bit) ⊥ (SegmentKeeps m held k)
    keeps_all k zero h low = h NoUnwind refl low
    keeps_all k (suc zero) h low = h NoReturn refl low
    keeps_all k (suc (suc zero)) h low = h NoFree refl low
    keeps_all k (suc (suc (suc n))) h low = absurd (let l = leb-true (suc (suc (suc n))) 2 low in omega (arith, l))

    -- an instruction is asked to keep the fact of a bit of control
    asked : (kind : FunctionFact) (k bit : ℕ) (i : Instr) → function_bit kind ≡ bit → nat_le bit NOFREE ≡ true → AsksInstr m k i held (effect k) bit →
        is_bit m (effect k) bit ≡ true → held (dead k) ≡ false → Keeps m held kind i.op
    asked NoUnwind k bit i same low w has live = w.0 refl (sym same) has live
    asked NoReturn k bit i same low w has live = w.1.0 refl (sym same) has live
    asked NoFree k bit i same low w has live = w.1.1 refl (sym same) has live
    asked (NoAccess a location) k bit i same low w has live = absurd (high a location (leb-true bit 2 low) same)
      where
        high : (a : Access) (location : Location) → bit ≤ 2 → access_bit a location ≡ bit → ⊥
        high Read Default l e = omega (arith, l, e)
        high Write Default l e = omega (arith, l, e)
        high Read Argmem l e = omega (arith, l, e)
        high Write Argmem l e = omega (arith, l, e)
        high Read Inaccessible l e = omega (arith, l, e)
        high Write Inaccessible l e = omega (arith, l, e)

    pub asks_down : (p : Pos) (bit : ℕ) → AsksEffects m held p bit × (AsksBodies m held p bit × AsksDeads m held p bit) → AsksControl m held p bit
    asks_down (pos.Segment k) bit w control has = dead_down m held k.0 bit w.1.1 has
    asks_down (pos.Function f) bit w low has = λ k within. w.1.0 k within.seg within.at_seg f.0 within refl (low_set bit low) has
    asks_down (pos.Effect k) bit w low has = keeps_all k.0 bit (λ kind same low at instr there live.
        let here = stands m (spot k.0 at) instr there in
        asked kind k.0 bit instr same low (w.0 k.0 here.seg here.at_seg at instr here.at_place) has live) low
    asks_down (pos.Value v) bit w control has = crash control
    asks_down (pos.Entry f at) bit w control has = crash control
    asks_down (pos.Return f) bit w control has = crash control
    asks_down (pos.Reach row k) bit w control has = crash control

    -- the rule of an effect asks it of each instruction
    asked_kind : (p : Pos) (bit : ℕ) → AsksControl m held p bit → (kind : FunctionFact) → nat_le (function_bit kind) NOFREE ≡ true →
        function_fact (function_bit kind) ≡ Some kind → (k at : ℕ) (i : Instr) → instr_at m (spot k at) ≡ Some i → AsksKind m kind k i.op held p bit
    asked_kind p bit h kind low says k at i there here same has live =
        let rule : MatchOption (function_fact (function_bit kind)) ⊥ (SegmentKeeps m held k) =
        subst (λ b. is_control (effect k) b ≡ true → is_bit m (effect k) b ≡ true →
        Rule m held (effect k) b) same (subst (λ q. AsksControl m held q bit) here h)
        low (subst (λ b. is_bit m (effect k) b ≡ true) same (subst (λ q. is_bit m q bit ≡ true) here has)) in
        let keeps : SegmentKeeps m held k kind = subst (λ o. MatchOption o ⊥ (SegmentKeeps m held k)) says rule in
        keeps at i there live

    pub asks_up : (p : Pos) (bit : ℕ) → AsksControl m held p bit → AsksEffects m held p bit × (AsksBodies m held p bit × AsksDeads m held p bit)
    asks_up p bit h = (
      λ k seg at_seg at i at_place.
          let there = at_spot m (spot k at) seg i at_seg at_place in (
            asked_kind p bit h NoUnwind refl refl k at i there,
            (asked_kind p bit h NoReturn refl refl k at i there, asked_kind p bit h NoFree refl refl k at i there),
          ),
      (
        λ k seg at_seg f within here set has.
            subst (λ q. AsksControl m held q bit) here h (set_low bit set) (subst (λ q. is_bit m q bit ≡ true) here has) k within,
        dead_up m held p bit h,
      ),
    )

  -- ---- what is spoken of

  -- the instruction speaks for one of the three facts
  spoken_kind : (k at : ℕ) (seg : Seg) (i : Instr) (p : Pos) (y : Fact) → slice_get m.segs k ≡ Some seg → slice_get seg.instrs at ≡ Some i →
      (kind : FunctionFact) → nat_le (function_bit kind) NOFREE ≡ true → function_fact (function_bit kind) ≡ Some kind → SpeaksKind m kind k i.op p y →
      SpeaksControl m p y
  spoken_kind k at seg i p y at_seg at_place kind low says w =
      subst (λ q. SpeaksControl m q y) (sym w.0) (
        function_bit kind,
        low,
        subst (λ q. is_bit m q (function_bit kind) ≡ true) w.0 w.1,
        subst (λ o. MatchOption o ⊥ (λ kind. SegmentSpeaks m k kind y)) (sym says) (at, i, at_spot m (spot k at) seg i at_seg at_place, w.2, w.3),
      )

  pub speaks_down : (p q : Pos) (bit : ℕ) → is_bit m q bit ≡ true →
      SpeaksEffects m p (fact q bit) ⊎ (SpeaksBodies m p (fact q bit) ⊎ SpeaksDeads m p (fact q bit)) → SpeaksControl m p (fact q bit)
  speaks_down p q bit has (inl w) = by w.3.3
    where
      by : SpeaksInstr m w.0 w.3.1 p (fact q bit) → SpeaksControl m p (fact q bit)
      by (inl h) = spoken_kind w.0 w.3.0 w.1 w.3.1 p (fact q bit) w.2 w.3.2 NoUnwind refl refl h
      by (inr (inl h)) = spoken_kind w.0 w.3.0 w.1 w.3.1 p (fact q bit) w.2 w.3.2 NoReturn refl refl h
      by (inr (inr h)) = spoken_kind w.0 w.3.0 w.1 w.3.1 p (fact q bit) w.2 w.3.2 NoFree refl refl h
  speaks_down p q bit has (inr (inr w)) = deads_down m p (fact q bit) w
  speaks_down p q bit has (inr (inl w)) =
      -- segment w.0 of body f
      let f = w.3.0 in
      let within = w.3.1 in
      let some = w.3.3 in
      let body = (and_parts (is_body m f) (nat_le some.0 NO_WRITE_OF_INACCESSIBLEMEM)
      (and_parts (is_built (function f) some.0) (is_body m f && nat_le some.0 NO_WRITE_OF_INACCESSIBLEMEM)
      (subst (λ r. is_bit m r some.0 ≡ true) w.3.2 some.2)).1).0 in
      let low = set_low bit w.3.5 in
      let built = (and_parts (is_built (effect w.0) bit) (has_bit_of m (effect w.0) bit) (subst (λ r. is_bit m r bit ≡ true) w.3.4 has)).0 in
      let small = le-leb bit NO_WRITE_OF_INACCESSIBLEMEM (let l = leb-true bit NOFREE low in omega (arith, l)) in
      subst (λ r. SpeaksControl m r (fact q bit)) (sym w.3.2) (
        bit,
        low,
        and_from (is_built (function f) bit) (is_body m f && nat_le bit NO_WRITE_OF_INACCESSIBLEMEM) built
            (and_from (is_body m f) (nat_le bit NO_WRITE_OF_INACCESSIBLEMEM) body small),
        effects_speak bit low (w.0, within, w.3.4),
      )
    where
      effects_speak : (b : ℕ) → nat_le b NOFREE ≡ true → {f : ℕ} → (k : ℕ) × IsSegIn m f k × (q ≡ effect k) →
          MatchOption (function_fact b) ⊥ (λ kind. EffectsSpeak m f kind (fact q b))
      effects_speak zero low v = (v.0, v.1, ap (λ r. fact r 0) v.2)
      effects_speak (suc zero) low v = (v.0, v.1, ap (λ r. fact r 1) v.2)
      effects_speak (suc (suc zero)) low v = (v.0, v.1, ap (λ r. fact r 2) v.2)
      effects_speak (suc (suc (suc n))) low v = absurd (let l = leb-true (suc (suc (suc n))) 2 low in omega (arith, l))

  pub speaks_up : (p : Pos) (y : Fact) → SpeaksControl m p y → SpeaksEffects m p y ⊎ (SpeaksBodies m p y ⊎ SpeaksDeads m p y)
  speaks_up (pos.Segment k) y w = inr (inr (deads_up m k.0 y (subst (λ n. is_bit m (pos.Segment k) n ≡ true) (dead_bit m k.0 w.0 w.2) w.2) w.3))
  speaks_up (pos.Function f) y w = inr (inl (body w.0 w.1 w.2 w.3))
    where
      seen : (kind : FunctionFact) (b : ℕ) → function_bit kind ≡ b → nat_le b NOFREE ≡ true → is_bit m (pos.Function f) b ≡ true → EffectsSpeak m f.0 kind y →
          SpeaksBodies m (pos.Function f) y
      seen kind b same low has v = (
        v.0,
        v.1.seg,
        v.1.at_seg,
        (
          f.0,
          v.1,
          refl,
          (b, low_set b low, has),
          ap (λ (z : Fact). z.pos) v.2,
          low_set y.bit (subst (λ n. nat_le n NOFREE ≡ true) (sym (ap (λ (z : Fact). z.bit) v.2 ∙ same)) low),
        ),
      )

      body : (b : ℕ) → nat_le b NOFREE ≡ true → is_bit m (pos.Function f) b ≡ true → MatchOption (function_fact b) ⊥ (λ kind. EffectsSpeak m f.0 kind y) →
          SpeaksBodies m (pos.Function f) y
      body zero low has v = seen NoUnwind 0 refl low has v
      body (suc zero) low has v = seen NoReturn 1 refl low has v
      body (suc (suc zero)) low has v = seen NoFree 2 refl low has v
      body (suc (suc (suc n))) low has v = absurd (let l = leb-true (suc (suc (suc n))) 2 low in omega (arith, l))
  speaks_up (pos.Effect k) y w = inl (spoken w.0 w.1 w.2 w.3)
    where
      one : (kind : FunctionFact) (b : ℕ) → function_bit kind ≡ b → is_bit m (pos.Effect k) b ≡ true → (v : SegmentSpeaks m k.0 kind y) →
          (SpeaksKind m kind k.0 v.1.op (pos.Effect k) y → SpeaksInstr m k.0 v.1 (pos.Effect k) y) → SpeaksEffects m (pos.Effect k) y
      one kind b same has v into =
          let here = stands m (spot k.0 v.0) v.1 v.2 in
          (k.0, here.seg, here.at_seg, (v.0, v.1, here.at_place, into (refl, subst (λ n. is_bit m (pos.Effect k) n ≡ true) (sym same) has, v.3, v.4)))

      spoken : (b : ℕ) → nat_le b NOFREE ≡ true → is_bit m (pos.Effect k) b ≡ true → MatchOption (function_fact b) ⊥ (λ kind. SegmentSpeaks m k.0 kind y) →
          SpeaksEffects m (pos.Effect k) y
      spoken zero low has v = one NoUnwind 0 refl has v (λ h. inl h)
      spoken (suc zero) low has v = one NoReturn 1 refl has v (λ h. inr (inl h))
      spoken (suc (suc zero)) low has v = one NoFree 2 refl has v (λ h. inr (inr h))
      spoken (suc (suc (suc n))) low has v = absurd (let l = leb-true (suc (suc (suc n))) 2 low in omega (arith, l))
  speaks_up (pos.Value v) y w = crash w.1
  speaks_up (pos.Entry f at) y w = crash w.1
  speaks_up (pos.Return f) y w = crash w.1
  speaks_up (pos.Reach row k) y w = crash w.1
