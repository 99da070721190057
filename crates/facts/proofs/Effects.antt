-- Where effects are what they should be, a body's rule may read them: both go through its segments.
use Rattle.std.proofs.Common.{arith, ◌≡◌, ◌≤◌, ◌&&◌, ◌↔◌, nat_le, nat_lt, ℕ, zero, suc, Bool, true, MatchOption, Option, None, Some, length, refl, sym, subst}
use Rattle.std.proofs.Common.{◌∙◌}
use Rattle.std.proofs.lemmas.Bool.{leb-true, lt-ltb, and_parts, and_from}
use Rattle.std.proofs.lemmas.Option.{slice_get_within}
use Rattle.lattice_words.specs.declared.function.TheConstants.{NO_WRITE_OF_INACCESSIBLEMEM}
use Rattle.ir_module.specs.declared.module.Module.{Module}
use Rattle.ir_module.specs.Places.{spot, IsIn, IsSegIn}
use Rattle.facts.specs.Kinds.{FunctionFact, function_fact}
use Rattle.facts.specs.Facts.{Fact, function, effect}
use Rattle.facts.specs.Bodies.{is_body}
use Rattle.facts.specs.Masks.{is_built, is_bit}
use Rattle.facts.specs.Functions.{EachKeeps, SegmentKeeps}
use Rattle.facts.specs.Justified.{JustifiedAt, EachEffect, Rule, AreEffects}

-- the first nine bits say something
known : (bit : ℕ) → bit ≤ NO_WRITE_OF_INACCESSIBLEMEM → (kind : FunctionFact) × (function_fact bit ≡ Some kind)
known zero within = (_, refl)
known (suc zero) within = (_, refl)
known (suc (suc zero)) within = (_, refl)
known (suc (suc (suc zero))) within = (_, refl)
known (suc (suc (suc (suc zero)))) within = (_, refl)
known (suc (suc (suc (suc (suc zero))))) within = (_, refl)
known (suc (suc (suc (suc (suc (suc zero)))))) within = (_, refl)
known (suc (suc (suc (suc (suc (suc (suc zero))))))) within = (_, refl)
known (suc (suc (suc (suc (suc (suc (suc (suc zero)))))))) within = (_, refl)
known (suc (suc (suc (suc (suc (suc (suc (suc (suc n))))))))) within = absurd (omega arith)

-- another spot of the same segment
shifted : (m : Module) (f k at other : ℕ) → IsIn m f (spot k at) → IsIn m f (spot k other)
shifted m f k at other within = record {
  seg = within.seg;
  block = within.block;
  at_seg = within.at_seg;
  at_block = within.at_block;
  in_func = within.in_func;
}

module _ (m : Module) (held : Fact → Bool) (effects : AreEffects m held) (f bit : ℕ) (is : is_bit m (function f) bit ≡ true) where
  parts : (is_built (function f) bit ≡ true) × ((is_body m f ≡ true) × (nat_le bit NO_WRITE_OF_INACCESSIBLEMEM ≡ true))
  parts =
      let w = and_parts (is_built (function f) bit) (is_body m f && nat_le bit NO_WRITE_OF_INACCESSIBLEMEM) is in
      (w.0, and_parts (is_body m f) (nat_le bit NO_WRITE_OF_INACCESSIBLEMEM) w.1)

  -- the effect of each segment of the body has a word with this bit
  bit_there : (k : ℕ) → IsSegIn m f k → is_bit m (effect k) bit ≡ true
  bit_there k within =
      and_from (is_built (effect k) bit) (nat_lt k (length m.segs) && nat_le bit NO_WRITE_OF_INACCESSIBLEMEM) parts.0
      (and_from (nat_lt k (length m.segs)) (nat_le bit NO_WRITE_OF_INACCESSIBLEMEM)
      (lt-ltb k (length m.segs) (slice_get_within m.segs k within.seg within.at_seg)) parts.1.1)

  from_effects : EachEffect m held f bit → JustifiedAt m held (function f) bit
  from_effects each = by (function_fact bit) refl
    where
      by : (o : Option FunctionFact) → function_fact bit ≡ o → MatchOption o ⊥ (EachKeeps m held f)
      by None e = absurd (let w = known bit (leb-true bit NO_WRITE_OF_INACCESSIBLEMEM parts.1.1) in let clash : None ≡ Some w.0 = sym e ∙ w.1 in cc)
      by (Some kind) e = λ s instr within at alive.
          let keeps : SegmentKeeps m held s.seg.0 kind =
          subst (λ o. MatchOption o ⊥ (SegmentKeeps m held s.seg.0)) e (effects.given s.seg.0 bit (each s.seg.0 (shifted m f s.seg.0 s.at 0 within))) in
          keeps s.at instr at alive

  to_effects : JustifiedAt m held (function f) bit → EachEffect m held f bit
  to_effects rule k within = effects.all k bit (bit_there k within) (by (function_fact bit) rule)
    where
      by : (o : Option FunctionFact) → MatchOption o ⊥ (EachKeeps m held f) → MatchOption o ⊥ (SegmentKeeps m held k)
      by None nothing = nothing
      by (Some kind) keeps = λ at instr is alive. keeps (spot k at) instr (shifted m f k 0 at within) is alive

-- a body's rule over its effects is its rule over its instructions
pub effects_stand : (m : Module) (held : Fact → Bool) → AreEffects m held → (f bit : ℕ) → is_bit m (function f) bit ≡ true →
    Rule m held (function f) bit ↔ JustifiedAt m held (function f) bit
effects_stand m held effects f bit is = (from_effects m held effects f bit is, to_effects m held effects f bit is)
