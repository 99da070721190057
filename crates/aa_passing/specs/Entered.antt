-- What is asked of the entries of bodies: from the outside, and by each call.
use Rattle.std.specs.Prelude.{◌≡◌, ◌⊎◌, ◌+◌, ◌≤◌, ℕ, Bool, true, false, slice_get, Some}
use Rattle.std.specs.Option.{option_map_or}
use Rattle.lattice_words.specs.Ladders.{is_byte_bit, align_rungs}
use Rattle.lattice_words.specs.declared.value.TheConstants.{ALIGN_2}
use Rattle.ir_module.specs.declared.attrs.ParamAttrs.{ParamAttrs}
use Rattle.ir_module.specs.declared.op.Op.{Op}
use Rattle.ir_module.specs.declared.module.Func.{Func}
use Rattle.ir_module.specs.declared.module.Param.{Param}
use Rattle.ir_module.specs.declared.module.Seg.{Seg}
use Rattle.ir_module.specs.declared.module.Module.{Module}
use Rattle.ir_module.specs.Calls.{direct_callee, is_open}
use Rattle.facts.specs.declared.pos.Pos.{Pos}
use Rattle.facts.specs.Kinds.{value_fact}
use Rattle.facts.specs.Facts.{Fact, entry, dead}
use Rattle.facts.specs.Masks.{is_bit}
use Rattle.facts.specs.Known.{arg_has, ArgSpeaks}
use Rattle.facts.specs.Entry.{gives}
use Rattle.rule_says.specs.Listing.{AskAll, SpeakAny}
use Rattle.operand_says.specs.Asked.{SpeaksArgument}

-- what stands at a parameter gives the bit
abbrev pub is_given : ParamAttrs → ℕ → Bool
is_given attrs bit = option_map_or (gives attrs) (value_fact bit) false

-- ---- from the outside

-- what is not given at parameter `at` of body f is passed by calls alone, and rungs of bytes only at an alignment that is known
abbrev pub IsInside : Module → ℕ → Param → ℕ → Type 0
IsInside m f q bit = (is_open m f ≡ false) × (is_byte_bit bit ≡ true → q.attrs.align ≤ 64)

abbrev pub AsksStart : Module → ℕ → ℕ → Param → (Fact → Bool) → Pos → ℕ → Type 0
AsksStart m f at q held p bit = p ≡ entry f at → is_bit m p bit ≡ true → is_given q.attrs bit ≡ false → IsInside m f q bit

abbrev pub SpeaksStart : Module → ℕ → ℕ → Param → Pos → Fact → Type 0
SpeaksStart m f at q p y = ⊥

-- each parameter
abbrev pub AsksStarts : Module → ℕ → Func → (Fact → Bool) → Pos → ℕ → Type 0
AsksStarts m f func = AskAll func.params (λ at q. AsksStart m f at q)

abbrev pub SpeaksStarts : Module → ℕ → Func → Pos → Fact → Type 0
SpeaksStarts m f func = SpeakAny func.params (λ at q. SpeaksStart m f at q)

-- each function
abbrev pub AsksOutside : Module → (Fact → Bool) → Pos → ℕ → Type 0
AsksOutside m = AskAll m.funcs (λ f func. AsksStarts m f func)

abbrev pub SpeaksOutside : Module → Pos → Fact → Type 0
SpeaksOutside m = SpeakAny m.funcs (λ f func. SpeaksStarts m f func)

-- ---- by a call in segment k

-- the argument has the rung of bytes, and the alignment that is written at the parameter
abbrev pub AsksReached : Module → Op → ℕ → ℕ → (Fact → Bool) → ℕ → Type 0
AsksReached m o at align held bit = (arg_has m held o at bit ≡ true) ×
    ((r : ℕ) → slice_get align_rungs r ≡ Some align → arg_has m held o at (ALIGN_2 + r) ≡ true)

abbrev pub SpeaksAligned : Op → ℕ → ℕ → Fact → Type 0
SpeaksAligned o at align y = (r : ℕ) × (slice_get align_rungs r ≡ Some align) × ArgSpeaks o at (ALIGN_2 + r) y

abbrev pub SpeaksReached : Op → ℕ → ℕ → ℕ → Fact → Type 0
SpeaksReached o at align bits y = SpeaksArgument o at bits y ⊎ SpeaksAligned o at align y

-- bits that are no rungs of bytes
abbrev pub AsksHanded : Module → ℕ → Op → ℕ → ℕ → Param → (Fact → Bool) → Pos → ℕ → Type 0
AsksHanded m k o f at q held p bit = p ≡ entry f at → is_bit m p bit ≡ true → is_byte_bit bit ≡ false → is_given q.attrs bit ≡ false → held (dead k) ≡ false
    → arg_has m held o at bit ≡ true

abbrev pub SpeaksHanded : Module → ℕ → Op → ℕ → ℕ → Param → Pos → Fact → Type 0
SpeaksHanded m k o f at q p y =
    (bit : ℕ) × (p ≡ entry f at) × (is_bit m p bit ≡ true) × (is_byte_bit bit ≡ false) × ((y ≡ dead k) ⊎ ArgSpeaks o at bit y)

-- rungs of bytes
abbrev pub AsksRungs : Module → ℕ → Op → ℕ → ℕ → Param → (Fact → Bool) → Pos → ℕ → Type 0
AsksRungs m k o f at q held p bit = p ≡ entry f at → is_bit m p bit ≡ true → is_byte_bit bit ≡ true → is_given q.attrs bit ≡ false → held (dead k) ≡ false
    → AsksReached m o at q.attrs.align held bit

abbrev pub SpeaksRungs : Module → ℕ → Op → ℕ → ℕ → Param → Pos → Fact → Type 0
SpeaksRungs m k o f at q p y = (bit : ℕ) × (p ≡ entry f at) × (is_bit m p bit ≡ true) × (is_byte_bit bit ≡ true)
    × ((y ≡ dead k) ⊎ (ArgSpeaks o at bit y ⊎ SpeaksAligned o at q.attrs.align y))

-- both
abbrev pub AsksPass : Module → ℕ → Op → ℕ → ℕ → Param → (Fact → Bool) → Pos → ℕ → Type 0
AsksPass m k o f at q held p bit = AsksHanded m k o f at q held p bit × AsksRungs m k o f at q held p bit

abbrev pub SpeaksPass : Module → ℕ → Op → ℕ → ℕ → Param → Pos → Fact → Type 0
SpeaksPass m k o f at q p y = SpeaksHanded m k o f at q p y ⊎ SpeaksRungs m k o f at q p y

-- each parameter of the function
abbrev pub AsksPasses : Module → ℕ → Op → ℕ → Func → (Fact → Bool) → Pos → ℕ → Type 0
AsksPasses m k o f func = AskAll func.params (λ at q. AsksPass m k o f at q)

abbrev pub SpeaksPasses : Module → ℕ → Op → ℕ → Func → Pos → Fact → Type 0
SpeaksPasses m k o f func = SpeakAny func.params (λ at q. SpeaksPass m k o f at q)

-- the function that is called
abbrev pub AsksCall : Module → ℕ → Op → (Fact → Bool) → Pos → ℕ → Type 0
AsksCall m k o held p bit = (f : ℕ) (func : Func) → direct_callee m o ≡ Some (record { 0 = f }) → slice_get m.funcs f ≡ Some func
    → AsksPasses m k o f func held p bit

abbrev pub SpeaksCall : Module → ℕ → Op → Pos → Fact → Type 0
SpeaksCall m k o p y = (f : ℕ) × (func : Func) × (direct_callee m o ≡ Some (record { 0 = f })) × (slice_get m.funcs f ≡ Some func)
    × SpeaksPasses m k o f func p y

-- ---- all calls

abbrev pub AsksCalls : Module → ℕ → Seg → (Fact → Bool) → Pos → ℕ → Type 0
AsksCalls m k seg = AskAll seg.instrs (λ at i. AsksCall m k i.op)

abbrev pub SpeaksCalls : Module → ℕ → Seg → Pos → Fact → Type 0
SpeaksCalls m k seg = SpeakAny seg.instrs (λ at i. SpeaksCall m k i.op)

abbrev pub AsksInside : Module → (Fact → Bool) → Pos → ℕ → Type 0
AsksInside m = AskAll m.segs (λ k seg. AsksCalls m k seg)

abbrev pub SpeaksInside : Module → Pos → Fact → Type 0
SpeaksInside m = SpeakAny m.segs (λ k seg. SpeaksCalls m k seg)
