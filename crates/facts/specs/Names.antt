-- Which positions the rules of a position name, whatever a set has.
use Rattle.std.specs.Prelude.{◌≡◌, ◌+◌, ◌*◌, ℕ, true, List, MatchOption, slice_get, Some}
use Rattle.lattice_words.specs.declared.reach.TheConstants.{BODIES}
use Rattle.ir_module.specs.declared.module.Module.{Module}
use Rattle.facts.specs.declared.pos.Pos.{Pos}
use Rattle.facts.specs.declared.pos.Pos.TheVariants as pos
use Rattle.facts.specs.Kinds.{ValueFact, SameAs, UsedSo, function_fact, value_fact}
use Rattle.facts.specs.Facts.{Fact, fact}
use Rattle.facts.specs.Masks.{is_bit}
use Rattle.facts.specs.Dead.{DeadSpeaks}
use Rattle.facts.specs.Functions.{EffectsSpeak, SegmentSpeaks}
use Rattle.facts.specs.Reach.{ReachSpeaks}
use Rattle.facts.specs.Same.{SameSpeaks}
use Rattle.facts.specs.Pointer.{PointerSpeaks}
use Rattle.facts.specs.Entry.{EntrySpeaks}
use Rattle.facts.specs.Return.{ReturnSpeaks}
use Rattle.facts.specs.Uses.{UseSpeaks}

-- the rule of a value for what the bit says
abbrev pub ValueSpeaks : Module → ℕ → ℕ → Fact → ValueFact → Type 0
ValueSpeaks m v bit y (SameAs i) = SameSpeaks m v i y
ValueSpeaks m v bit y (UsedSo kind) = UseSpeaks m v kind y
ValueSpeaks m v bit y kind = PointerSpeaks m v bit kind y

-- the rule of the position for the bit speaks of the fact, or bit of an effect, y
abbrev pub Speaks : Module → Pos → ℕ → Fact → Type 0
Speaks m (pos.Segment k) bit y = DeadSpeaks m k.0 y
Speaks m (pos.Function f) bit y = MatchOption (function_fact bit) ⊥ (λ kind. EffectsSpeak m f.0 kind y)
Speaks m (pos.Value v) bit y = MatchOption (value_fact bit) ⊥ (ValueSpeaks m v.0 bit y)
Speaks m (pos.Entry f at) bit y = MatchOption (value_fact bit) ⊥ (λ kind. EntrySpeaks m f.0 at bit kind y)
Speaks m (pos.Return f) bit y = MatchOption (value_fact bit) ⊥ (λ kind. ReturnSpeaks m f.0 bit kind y)
Speaks m (pos.Reach row k) bit y = ReachSpeaks m row (k * BODIES + bit) y
Speaks m (pos.Effect k) bit y = MatchOption (function_fact bit) ⊥ (λ kind. SegmentSpeaks m k.0 kind y)

-- the rule for a bit of p's mask speaks of a bit of q's mask
abbrev pub NamesFor : Module → Pos → ℕ → Pos → Type 0
NamesFor m p bit q = (is_bit m p bit ≡ true) × (other : ℕ) × (is_bit m q other ≡ true) × Speaks m p bit (fact q other)

-- the rules of p name q
abbrev pub Names : Module → Pos → Pos → Type 0
Names m p q = (bit : ℕ) × NamesFor m p bit q

-- the pairs of a position and one that it names, each once
pub record AreNamed (m : Module) (pairs : List (Pos × Pos)) : Type 0 where
  pub each : (i : ℕ) (pair : Pos × Pos) → slice_get pairs i ≡ Some pair → Names m pair.0 pair.1
  pub all : (p q : Pos) → Names m p q → (i : ℕ) × (slice_get pairs i ≡ Some (p, q))
  pub once : (i j : ℕ) (pair : Pos × Pos) → slice_get pairs i ≡ Some pair → slice_get pairs j ≡ Some pair → i ≡ j
