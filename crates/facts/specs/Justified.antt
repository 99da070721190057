-- What a set of facts justifies, the sets that support themselves, and the greatest of them.
use Rattle.std.specs.Prelude.{◌≡◌, ◌+◌, ◌*◌, ℕ, Bool, true, false, MatchOption}
use Rattle.lattice_words.specs.declared.segment.TheConstants.{DEAD}
use Rattle.lattice_words.specs.declared.reach.TheConstants.{BODIES}
use Rattle.ir_module.specs.declared.module.Module.{Module}
use Rattle.ir_module.specs.Places.{IsSegIn}
use Rattle.facts.specs.declared.pos.Pos.{Pos}
use Rattle.facts.specs.declared.pos.Pos.TheVariants as pos
use Rattle.facts.specs.Kinds.{ValueFact, SameAs, UsedSo, function_fact, value_fact}
use Rattle.facts.specs.Facts.{Fact, fact, effect, is_effect}
use Rattle.facts.specs.Masks.{is_bit, IsFact}
use Rattle.facts.specs.Dead.{IsDead}
use Rattle.facts.specs.Functions.{EachKeeps, SegmentKeeps}
use Rattle.facts.specs.Reach.{IsPassedBy}
use Rattle.facts.specs.Same.{IsSame}
use Rattle.facts.specs.Pointer.{PointerHas}
use Rattle.facts.specs.Entry.{EntryHas}
use Rattle.facts.specs.Return.{ReturnHas}
use Rattle.facts.specs.Uses.{IsUsedSo}

-- a value has the bit, by what that says
abbrev pub ValueHas : Module → (Fact → Bool) → ℕ → ℕ → ValueFact → Type 0
ValueHas m held v bit (SameAs i) = IsSame m held v i
ValueHas m held v bit (UsedSo kind) = IsUsedSo m held v kind
ValueHas m held v bit kind = PointerHas m held v bit kind

-- The rule of a position for a bit. That of an effect is the part of its body's rule that speaks of the one segment.
abbrev pub JustifiedAt : Module → (Fact → Bool) → Pos → ℕ → Type 0
JustifiedAt m held (pos.Segment k) bit = (bit ≡ DEAD) × IsDead m held k.0
JustifiedAt m held (pos.Function f) bit = MatchOption (function_fact bit) ⊥ (EachKeeps m held f.0)
JustifiedAt m held (pos.Value v) bit = MatchOption (value_fact bit) ⊥ (ValueHas m held v.0 bit)
JustifiedAt m held (pos.Entry f at) bit = MatchOption (value_fact bit) ⊥ (EntryHas m held f.0 at bit)
JustifiedAt m held (pos.Return f) bit = MatchOption (value_fact bit) ⊥ (ReturnHas m held f.0 bit)
JustifiedAt m held (pos.Reach row k) bit = IsPassedBy m held row (k * BODIES + bit)
JustifiedAt m held (pos.Effect k) bit = MatchOption (function_fact bit) ⊥ (SegmentKeeps m held k.0)

-- the set `held` justifies the fact
abbrev pub Justified : Module → (Fact → Bool) → Fact → Type 0
Justified m held x = JustifiedAt m held x.pos x.bit

-- ---- with effects as words of their own

-- each segment of the body has the bit in its effect
abbrev pub EachEffect : Module → (Fact → Bool) → ℕ → ℕ → Type 0
EachEffect m held f bit = (k : ℕ) → IsSegIn m f k → held (fact (effect k) bit) ≡ true

-- the rule as it is worked out: a body reads the effects of its segments
abbrev pub Rule : Module → (Fact → Bool) → Pos → ℕ → Type 0
Rule m held (pos.Function f) bit = EachEffect m held f.0 bit
Rule m held p bit = JustifiedAt m held p bit

-- the effects in the set are those that it gives
pub record AreEffects (m : Module) (held : Fact → Bool) : Type 0 where
  pub given : (k bit : ℕ) → held (fact (effect k) bit) ≡ true → JustifiedAt m held (effect k) bit
  pub all : (k bit : ℕ) → is_bit m (effect k) bit ≡ true → JustifiedAt m held (effect k) bit → held (fact (effect k) bit) ≡ true

-- ---- sets that support themselves

-- the other set has each fact of the first; effects do not count
abbrev pub HasMore : (Fact → Bool) → (Fact → Bool) → Type 0
HasMore held other = (x : Fact) → is_effect x.pos ≡ false → held x ≡ true → other x ≡ true

-- a set of facts, each of which it justifies itself
abbrev pub SupportsItself : Module → (Fact → Bool) → Type 0
SupportsItself m held = (x : Fact) → held x ≡ true → IsFact m x × Justified m held x

-- the set that supports itself and contains every other such set
pub record IsGreatest (m : Module) (held : Fact → Bool) : Type 0 where
  pub is_one : SupportsItself m held
  pub contains : (other : Fact → Bool) → SupportsItself m other → (x : Fact) → other x ≡ true → held x ≡ true

-- the fact stands in some set that supports itself
abbrev pub IsInSome : Module → Fact → Type 0
IsInSome m x = (held : Fact → Bool) × SupportsItself m held × (held x ≡ true)
