-- What pointer parameters have at each entry of their body.
use Rattle.std.specs.Prelude.{◌≡◌, ◌⊎◌, ◌+◌, ◌≤◌, ℕ, Bool, true, false, slice_get, Some}
use Rattle.lattice_words.specs.Ladders.{align_rungs}
use Rattle.lattice_words.specs.declared.value.TheConstants.{ALIGN_2}
use Rattle.ir_module.specs.declared.attrs.ParamAttrs.{ParamAttrs}
use Rattle.ir_module.specs.declared.op.Instr.{Instr}
use Rattle.ir_module.specs.declared.module.Param.{Param}
use Rattle.ir_module.specs.declared.module.Spot.{Spot}
use Rattle.ir_module.specs.declared.module.Module.{Module}
use Rattle.ir_module.specs.Places.{instr_at}
use Rattle.ir_module.specs.Calls.{direct_callee, is_open}
use Rattle.facts.specs.Kinds.{ValueFact, NonNull, AlignedTo, HasBytes}
use Rattle.facts.specs.Bodies.{param_of}
use Rattle.facts.specs.Facts.{Fact, dead_at}
use Rattle.facts.specs.Promises.{gives_nonnull, gives_align, gives_bytes}
use Rattle.facts.specs.Known.{arg_has, ArgSpeaks}

-- the greatest alignment that has a rung
abbrev pub top_align : ℕ
top_align = 64

-- what stands at the parameter gives it
abbrev pub gives : ParamAttrs → ValueFact → Bool
gives attrs NonNull = gives_nonnull attrs
gives attrs (AlignedTo bytes) = gives_align bytes attrs
gives attrs (HasBytes count) = gives_bytes count attrs
gives attrs _ = false

-- s is a direct call of body f, and not dead
pub record IsLiveCall (m : Module) (held : Fact → Bool) (f : ℕ) (s : Spot) (instr : Instr) : Type 0 where
  pub at_spot : instr_at m s ≡ Some instr
  pub is_call : direct_callee m instr.op ≡ Some (record { 0 = f })
  pub live : held (dead_at s) ≡ false

-- each argument that is passed has the bit
abbrev pub EachPassed : Module → (Fact → Bool) → ℕ → ℕ → ℕ → Type 0
EachPassed m held f at bit = (s : Spot) (instr : Instr) → IsLiveCall m held f s instr → arg_has m held instr.op at bit ≡ true

-- Each argument that is passed is aligned as it is written at the parameter, so that the pointer does not become poison. What is
-- written above the greatest rung is not known of any.
pub record ArePassedAligned (m : Module) (held : Fact → Bool) (f at align : ℕ) : Type 0 where
  pub known : align ≤ top_align
  pub each : (k : ℕ) → slice_get align_rungs k ≡ Some align → EachPassed m held f at (ALIGN_2 + k)

-- so many bytes are given only by pointers that stay what they are at the entry
abbrev pub LastsAt : Module → (Fact → Bool) → ℕ → ℕ → ℕ → ValueFact → Type 0
LastsAt m held f at align (HasBytes count) = ArePassedAligned m held f at align
LastsAt m held f at align _ = Unit {0}

-- the body is not open, and each direct call that is not dead passes it
pub record ArePassed (m : Module) (held : Fact → Bool) (f at bit : ℕ) (p : Param) (kind : ValueFact) : Type 0 where
  pub closed : is_open m f ≡ false
  pub each : EachPassed m held f at bit
  pub lasts : LastsAt m held f at p.attrs.align kind

-- parameter `at` of body f has the bit at each entry: by what is written there, or by what is passed
abbrev pub EntryHas : Module → (Fact → Bool) → ℕ → ℕ → ℕ → ValueFact → Type 0
EntryHas m held f at bit kind = (p : Param) → param_of m f at ≡ Some p → (gives p.attrs kind ≡ true) ⊎ ArePassed m held f at bit p kind

-- ---- what the rule speaks of

-- for bytes, of the alignment of the argument that is written at the parameter
abbrev pub AlignSpeaks : Module → ℕ → ℕ → Instr → ValueFact → Fact → Type 0
AlignSpeaks m f at instr (HasBytes count) y = (p : Param) × (k : ℕ) × (param_of m f at ≡ Some p) × (slice_get align_rungs k ≡ Some p.attrs.align) ×
    ArgSpeaks instr.op at (ALIGN_2 + k) y
AlignSpeaks m f at instr kind y = ⊥

-- the segment of each direct call of the body, and the argument there
abbrev pub EntrySpeaks : Module → ℕ → ℕ → ℕ → ValueFact → Fact → Type 0
EntrySpeaks m f at bit kind y = (s : Spot) × (instr : Instr) × (instr_at m s ≡ Some instr) × (direct_callee m instr.op ≡ Some (record { 0 = f })) ×
    ((y ≡ dead_at s) ⊎ (ArgSpeaks instr.op at bit y ⊎ AlignSpeaks m f at instr kind y))
