-- What is asked of the effects of segments and of bodies together is what the rules of memory ask.
use Rattle.std.proofs.Common.{arith, ◌≡◌, ◌≤◌, ◌&&◌, ◌⊎◌, nat_le, nat_lt, ℕ, zero, suc, Bool, true, false, MatchOption, length, slice_get}
use Rattle.std.proofs.Common.{Some, refl, sym, ap, subst, ◌∙◌, inl, inr}
use Rattle.std.proofs.lemmas.Bool.{and_parts, and_from, leb-true}
use Rattle.std.proofs.lemmas.Nat.Bits.{bit_at_above}
use Rattle.lattice_words.specs.declared.function.TheConstants.{ALL_MEMORY, NO_READ_OF_DEFAULT, NO_WRITE_OF_INACCESSIBLEMEM}
use Rattle.ir_module.specs.declared.op.Instr.{Instr}
use Rattle.ir_module.specs.declared.module.Seg.{Seg}
use Rattle.ir_module.specs.declared.module.Module.{Module}
use Rattle.ir_module.specs.Places.{spot, instr_at, IsSegIn}
use Rattle.ir_module.proofs.Spots.{stands, at_spot}
use Rattle.facts.specs.declared.pos.Pos.{Pos}
use Rattle.facts.specs.declared.pos.Pos.TheVariants as pos
use Rattle.facts.specs.Kinds.{Access, Read, Write, Location, Default, Argmem, Inaccessible, NoAccess, access_bit, function_fact}
use Rattle.facts.specs.Facts.{Fact, fact, function, effect}
use Rattle.facts.specs.Bodies.{is_body}
use Rattle.facts.specs.Masks.{is_built, has_bit_of, is_bit}
use Rattle.facts.specs.Functions.{SegmentKeeps, SegmentSpeaks, EffectsSpeak}
use Rattle.facts.specs.Justified.{Rule}
use Rattle.rule_says.specs.Saying.{IsSet}
use Rattle.rule_says.specs.Meeting.{HasSome}
use Rattle.aa_memory.specs.Memory.{is_memory, AsksMemory, SpeaksMemory}
use Rattle.aa_memory.specs.Asked.{AsksKind, SpeaksKind, AsksEffects, SpeaksEffects, AsksBodies, SpeaksBodies}

crash : {A : Type 0} → false ≡ true → A
crash e = absurd (cc)

-- ---- the six bits

-- a bit of memory is that of an access at a location
abbrev IsNamed : ℕ → Type 0
IsNamed bit = (a : Access) × (location : Location) × (access_bit a location ≡ bit)

name_of : (bit : ℕ) → NO_READ_OF_DEFAULT ≤ bit → bit ≤ NO_WRITE_OF_INACCESSIBLEMEM → IsNamed bit
name_of zero l h = absurd (omega (arith, l))
name_of (suc zero) l h = absurd (omega (arith, l))
name_of (suc (suc zero)) l h = absurd (omega (arith, l))
name_of (suc (suc (suc zero))) l h = (Read, Default, refl)
name_of (suc (suc (suc (suc zero)))) l h = (Write, Default, refl)
name_of (suc (suc (suc (suc (suc zero))))) l h = (Read, Argmem, refl)
name_of (suc (suc (suc (suc (suc (suc zero)))))) l h = (Write, Argmem, refl)
name_of (suc (suc (suc (suc (suc (suc (suc zero))))))) l h = (Read, Inaccessible, refl)
name_of (suc (suc (suc (suc (suc (suc (suc (suc zero)))))))) l h = (Write, Inaccessible, refl)
name_of (suc (suc (suc (suc (suc (suc (suc (suc (suc n))))))))) l h = absurd (omega (arith, h))

fact_of : (a : Access) (location : Location) → function_fact (access_bit a location) ≡ Some (NoAccess a location)
fact_of Read Default = refl
fact_of Write Default = refl
fact_of Read Argmem = refl
fact_of Write Argmem = refl
fact_of Read Inaccessible = refl
fact_of Write Inaccessible = refl

-- these bits, and no others, are those of the word
bit_set : (a : Access) (location : Location) → IsSet ALL_MEMORY (access_bit a location)
bit_set Read Default = refl
bit_set Write Default = refl
bit_set Read Argmem = refl
bit_set Write Argmem = refl
bit_set Read Inaccessible = refl
bit_set Write Inaccessible = refl

set_named : (bit : ℕ) → IsSet ALL_MEMORY bit → IsNamed bit
set_named zero e = absurd (cc)
set_named (suc zero) e = absurd (cc)
set_named (suc (suc zero)) e = absurd (cc)
set_named (suc (suc (suc zero))) e = (Read, Default, refl)
set_named (suc (suc (suc (suc zero)))) e = (Write, Default, refl)
set_named (suc (suc (suc (suc (suc zero))))) e = (Read, Argmem, refl)
set_named (suc (suc (suc (suc (suc (suc zero)))))) e = (Write, Argmem, refl)
set_named (suc (suc (suc (suc (suc (suc (suc zero))))))) e = (Read, Inaccessible, refl)
set_named (suc (suc (suc (suc (suc (suc (suc (suc zero)))))))) e = (Write, Inaccessible, refl)
set_named (suc (suc (suc (suc (suc (suc (suc (suc (suc n))))))))) e =
    absurd (let none = bit_at_above ALL_MEMORY 9 (suc (suc (suc (suc (suc (suc (suc (suc (suc n))))))))) (omega arith) (omega arith) in omega (arith, e, none))

bit_low : (a : Access) (location : Location) → nat_le NO_READ_OF_DEFAULT (access_bit a location) ≡ true
bit_low Read Default = refl
bit_low Write Default = refl
bit_low Read Argmem = refl
bit_low Write Argmem = refl
bit_low Read Inaccessible = refl
bit_low Write Inaccessible = refl

bit_high : (a : Access) (location : Location) → nat_le (access_bit a location) NO_WRITE_OF_INACCESSIBLEMEM ≡ true
bit_high Read Default = refl
bit_high Write Default = refl
bit_high Read Argmem = refl
bit_high Write Argmem = refl
bit_high Read Inaccessible = refl
bit_high Write Inaccessible = refl

-- what is built of effects is built of bodies
built_alike : (a : Access) (location : Location) (f k : ℕ) →
    is_built (effect k) (access_bit a location) ≡ is_built (function f) (access_bit a location)
built_alike Read Default f k = refl
built_alike Write Default f k = refl
built_alike Read Argmem f k = refl
built_alike Write Argmem f k = refl
built_alike Read Inaccessible f k = refl
built_alike Write Inaccessible f k = refl

module _ (m : Module) where
  -- a bit of memory of a body, or of an effect
  function_named : (f bit : ℕ) → nat_le NO_READ_OF_DEFAULT bit ≡ true → is_bit m (function f) bit ≡ true → IsNamed bit
  function_named f bit low has =
      let of_body = (and_parts (is_built (function f) bit) (is_body m f && nat_le bit NO_WRITE_OF_INACCESSIBLEMEM) has).1 in
      name_of bit (leb-true NO_READ_OF_DEFAULT bit low)
      (leb-true bit NO_WRITE_OF_INACCESSIBLEMEM (and_parts (is_body m f) (nat_le bit NO_WRITE_OF_INACCESSIBLEMEM) of_body).1)

  effect_named : (k bit : ℕ) → nat_le NO_READ_OF_DEFAULT bit ≡ true → is_bit m (effect k) bit ≡ true → IsNamed bit
  effect_named k bit low has =
      let of_segment = (and_parts (is_built (effect k) bit) (nat_lt k (length m.segs) && nat_le bit NO_WRITE_OF_INACCESSIBLEMEM) has).1 in
      name_of bit (leb-true NO_READ_OF_DEFAULT bit low)
      (leb-true bit NO_WRITE_OF_INACCESSIBLEMEM (and_parts (nat_lt k (length m.segs)) (nat_le bit NO_WRITE_OF_INACCESSIBLEMEM) of_segment).1)

  -- the mask of a body has what that of an effect has
  body_bit : (a : Access) (location : Location) (f k : ℕ) → is_body m f ≡ true → is_bit m (effect k) (access_bit a location) ≡ true →
      is_bit m (function f) (access_bit a location) ≡ true
  body_bit a location f k body has =
      and_from (is_built (function f) (access_bit a location)) (is_body m f && nat_le (access_bit a location) NO_WRITE_OF_INACCESSIBLEMEM)
      (sym (built_alike a location f k) ∙ (and_parts (is_built (effect k) (access_bit a location)) (has_bit_of m (effect k) (access_bit a location)) has).0)
      (and_from (is_body m f) (nat_le (access_bit a location) NO_WRITE_OF_INACCESSIBLEMEM) body (bit_high a location))

  has_body : (f bit : ℕ) → is_bit m (function f) bit ≡ true → is_body m f ≡ true
  has_body f bit has =
      (and_parts (is_body m f) (nat_le bit NO_WRITE_OF_INACCESSIBLEMEM)
      (and_parts (is_built (function f) bit) (is_body m f && nat_le bit NO_WRITE_OF_INACCESSIBLEMEM) has).1).0

  -- ---- what is asked

  module _ (held : Fact → Bool) where
    effect_down : (k bit : ℕ) → AsksEffects m held (effect k) bit → is_bit m (effect k) bit ≡ true → IsNamed bit →
        MatchOption (function_fact bit) ⊥ (SegmentKeeps m held k)
    effect_down k bit asks has name =
        subst (λ b. MatchOption (function_fact b) ⊥ (SegmentKeeps m held k)) name.2
        (subst (λ o. MatchOption o ⊥ (SegmentKeeps m held k)) (sym (fact_of name.0 name.1)) keeps)
      where
        keeps : SegmentKeeps m held k (NoAccess name.0 name.1)
        keeps at instr there live =
            let here = stands m (spot k at) instr there in
            asks k here.seg here.at_seg at instr here.at_place name.0 name.1 refl (sym name.2) has live

    pub asks_down : (p : Pos) (bit : ℕ) → AsksEffects m held p bit × AsksBodies m held p bit → AsksMemory m held p bit
    asks_down (pos.Function f) bit w low has = λ k within.
        let name = function_named f.0 bit low has in
        w.1 k within.seg within.at_seg f.0 within refl (subst (λ b. IsSet ALL_MEMORY b) name.2 (bit_set name.0 name.1)) has
    asks_down (pos.Effect k) bit w low has = effect_down k.0 bit w.0 has (effect_named k.0 bit low has)
    asks_down (pos.Segment k) bit w low has = crash low
    asks_down (pos.Value v) bit w low has = crash low
    asks_down (pos.Entry f at) bit w low has = crash low
    asks_down (pos.Return f) bit w low has = crash low
    asks_down (pos.Reach row k) bit w low has = crash low

    -- the rule of an effect asks it of each instruction
    effect_up : (p : Pos) (bit : ℕ) → AsksMemory m held p bit → (a : Access) (location : Location) (k at : ℕ) (i : Instr) →
        instr_at m (spot k at) ≡ Some i → AsksKind m (NoAccess a location) k i.op held p bit
    effect_up p bit h a location k at i there here same has live =
        let rule : MatchOption (function_fact (access_bit a location)) ⊥ (SegmentKeeps m held k) =
        subst (λ b. is_memory (effect k) b ≡ true → is_bit m (effect k) b ≡ true →
        Rule m held (effect k) b) same (subst (λ q. AsksMemory m held q bit) here h)
        (bit_low a location) (subst (λ b. is_bit m (effect k) b ≡ true) same (subst (λ q. is_bit m q bit ≡ true) here has)) in
        let keeps : SegmentKeeps m held k (NoAccess a location) = subst (λ o. MatchOption o ⊥ (SegmentKeeps m held k)) (fact_of a location) rule in
        keeps at i there live

    pub asks_up : (p : Pos) (bit : ℕ) → AsksMemory m held p bit → AsksEffects m held p bit × AsksBodies m held p bit
    asks_up p bit h = (
      λ k seg at_seg at i at_place a location. effect_up p bit h a location k at i (at_spot m (spot k at) seg i at_seg at_place),
      λ k seg at_seg f within here set has.
          let name = set_named bit set in
          subst (λ q. AsksMemory m held q bit) here h (subst (λ b. nat_le NO_READ_OF_DEFAULT b ≡ true) name.2 (bit_low name.0 name.1))
          (subst (λ q. is_bit m q bit ≡ true) here has) k within,
    )

  -- ---- what is spoken of

  -- the instruction speaks for one of the six facts
  spoken_kind : (k at : ℕ) (seg : Seg) (i : Instr) (p : Pos) (y : Fact) → slice_get m.segs k ≡ Some seg → slice_get seg.instrs at ≡ Some i →
      (a : Access) (location : Location) → SpeaksKind m (NoAccess a location) k i.op p y → SpeaksMemory m p y
  spoken_kind k at seg i p y at_seg at_place a location w =
      subst (λ q. SpeaksMemory m q y) (sym w.1.0) (
        access_bit a location,
        bit_low a location,
        subst (λ q. is_bit m q (access_bit a location) ≡ true) w.1.0 w.1.1,
        subst (λ o. MatchOption o ⊥ (λ kind. SegmentSpeaks m k kind y)) (sym (fact_of a location))
            (at, i, at_spot m (spot k at) seg i at_seg at_place, w.0, w.1.2),
      )

  -- so does a body of the effect of a segment
  spoken_body : (f k : ℕ) (p q : Pos) (bit : ℕ) → IsSegIn m f k → p ≡ function f → HasSome m p ALL_MEMORY → q ≡ effect k → is_bit m q bit ≡ true →
      IsNamed bit → SpeaksMemory m p (fact q bit)
  spoken_body f k p q bit within here some there has name =
      let body = has_body f some.0 (subst (λ r. is_bit m r some.0 ≡ true) here some.2) in
      let mine : is_bit m (effect k) (access_bit name.0 name.1) ≡ true =
      subst (λ b. is_bit m (effect k) b ≡ true) (sym name.2) (subst (λ r. is_bit m r bit ≡ true) there has) in
      subst (λ r. SpeaksMemory m r (fact q bit)) (sym here) (
        access_bit name.0 name.1,
        bit_low name.0 name.1,
        body_bit name.0 name.1 f k body mine,
        subst (λ o. MatchOption o ⊥ (λ kind. EffectsSpeak m f kind (fact q bit))) (sym (fact_of name.0 name.1))
            (k, within, ap (λ r. fact r bit) there ∙ ap (fact (effect k)) (sym name.2)),
      )

  pub speaks_down : (p q : Pos) (bit : ℕ) → is_bit m q bit ≡ true → SpeaksEffects m p (fact q bit) ⊎ SpeaksBodies m p (fact q bit) →
      SpeaksMemory m p (fact q bit)
  speaks_down p q bit has (inl w) =
      let i = w.3.3 in spoken_kind w.0 w.3.0 w.1 w.3.1 p (fact q bit) w.2 w.3.2 i.0 i.1.0 i.1.1
  speaks_down p q bit has (inr w) =
      spoken_body w.3.0 w.0 p q bit w.3.1 w.3.2 w.3.3 w.3.4 has (set_named bit w.3.5)

  body_up : (f : ℕ) (y : Fact) (bit : ℕ) → is_bit m (function f) bit ≡ true → IsNamed bit →
      MatchOption (function_fact bit) ⊥ (λ kind. EffectsSpeak m f kind y) → SpeaksBodies m (function f) y
  body_up f y bit has name w =
      let v : EffectsSpeak m f (NoAccess name.0 name.1) y =
      subst (λ o. MatchOption o ⊥ (λ kind. EffectsSpeak m f kind y)) (fact_of name.0 name.1)
      (subst (λ b. MatchOption (function_fact b) ⊥ (λ kind. EffectsSpeak m f kind y)) (sym name.2) w) in (
        v.0,
        v.1.seg,
        v.1.at_seg,
        (
          f,
          v.1,
          refl,
          (bit, subst (λ b. IsSet ALL_MEMORY b) name.2 (bit_set name.0 name.1), has),
          ap (λ (z : Fact). z.pos) v.2,
          subst (λ b. IsSet ALL_MEMORY b) (sym (ap (λ (z : Fact). z.bit) v.2)) (bit_set name.0 name.1),
        ),
      )

  effect_speaks : (k : ℕ) (y : Fact) (bit : ℕ) → is_bit m (effect k) bit ≡ true → IsNamed bit →
      MatchOption (function_fact bit) ⊥ (λ kind. SegmentSpeaks m k kind y) → SpeaksEffects m (effect k) y
  effect_speaks k y bit has name w =
      let v : SegmentSpeaks m k (NoAccess name.0 name.1) y =
      subst (λ o. MatchOption o ⊥ (λ kind. SegmentSpeaks m k kind y)) (fact_of name.0 name.1)
      (subst (λ b. MatchOption (function_fact b) ⊥ (λ kind. SegmentSpeaks m k kind y)) (sym name.2) w) in
      let here = stands m (spot k v.0) v.1 v.2 in (
        k,
        here.seg,
        here.at_seg,
        (v.0, v.1, here.at_place, (name.0, (name.1, (v.3, (refl, subst (λ b. is_bit m (effect k) b ≡ true) (sym name.2) has, v.4))))),
      )

  pub speaks_up : (p : Pos) (y : Fact) → SpeaksMemory m p y → SpeaksEffects m p y ⊎ SpeaksBodies m p y
  speaks_up (pos.Function f) y w = inr (body_up f.0 y w.0 w.2 (function_named f.0 w.0 w.1 w.2) w.3)
  speaks_up (pos.Effect k) y w = inl (effect_speaks k.0 y w.0 w.2 (effect_named k.0 w.0 w.1 w.2) w.3)
  speaks_up (pos.Segment k) y w = crash w.1
  speaks_up (pos.Value v) y w = crash w.1
  speaks_up (pos.Entry f at) y w = crash w.1
  speaks_up (pos.Return f) y w = crash w.1
  speaks_up (pos.Reach row k) y w = crash w.1
