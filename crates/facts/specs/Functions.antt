-- What holds of each call of a body: each of its instructions that is not dead keeps it.
use Rattle.std.specs.Prelude.{◌≡◌, ◌⊎◌, ℕ, Bool, true, false, Some}
use Rattle.ir_module.specs.declared.op.Op.{Op}
use Rattle.ir_module.specs.declared.op.Op.TheVariants as op
use Rattle.ir_module.specs.declared.op.Instr.{Instr}
use Rattle.ir_module.specs.declared.module.Spot.{Spot}
use Rattle.ir_module.specs.declared.module.Module.{Module}
use Rattle.ir_module.specs.Places.{spot, instr_at, IsIn, IsSegIn}
use Rattle.ir_module.specs.Edges.{catches_all}
use Rattle.ir_module.specs.Calls.{is_call}
use Rattle.facts.specs.Kinds.{FunctionFact, NoUnwind, NoReturn, NoFree, NoAccess}
use Rattle.facts.specs.Facts.{Fact, dead, dead_at, of_effect}
use Rattle.facts.specs.Promises.{call_has, CallSpeaks}
use Rattle.facts.specs.Memory.{KeepsOff, AccessSpeaks, IsAccess}

-- The instruction lets nothing unwind out of its body (LangRef, `nounwind`): a call that does not unwind, or an `invoke` whose
-- landing pad catches all. A `resume` always does, and nothing else unwinds.
abbrev pub KeepsNounwind : Module → (Fact → Bool) → Op → Type 0
KeepsNounwind m held (op.Call call) = call_has m held NoUnwind (op.Call call) ≡ true
KeepsNounwind m held (op.Invoke call normal unwind) = (catches_all m unwind.0 ≡ true) ⊎ (call_has m held NoUnwind (op.Invoke call normal unwind) ≡ true)
KeepsNounwind m held (op.Resume val) = ⊥
KeepsNounwind m held _ = Unit {0}

-- the instruction does not return from its body (LangRef, `noreturn`)
abbrev pub KeepsNoreturn : Op → Type 0
KeepsNoreturn (op.Ret val) = ⊥
KeepsNoreturn _ = Unit {0}

-- a call frees nothing that existed before it (LangRef, `nofree`)
abbrev pub KeepsNofree : Module → (Fact → Bool) → Op → Type 0
KeepsNofree m held o = is_call o ≡ true → call_has m held NoFree o ≡ true

-- the instruction keeps a fact of its body
abbrev pub Keeps : Module → (Fact → Bool) → FunctionFact → Op → Type 0
Keeps m held NoUnwind o = KeepsNounwind m held o
Keeps m held NoReturn o = KeepsNoreturn o
Keeps m held NoFree o = KeepsNofree m held o
Keeps m held (NoAccess a location) o = KeepsOff m held a location o

-- each instruction of body f that is not dead keeps it
abbrev pub EachKeeps : Module → (Fact → Bool) → ℕ → FunctionFact → Type 0
EachKeeps m held f kind = (s : Spot) (instr : Instr) → IsIn m f s → instr_at m s ≡ Some instr → held (dead_at s) ≡ false → Keeps m held kind instr.op

-- each instruction of segment k keeps it, if the segment is not dead
abbrev pub SegmentKeeps : Module → (Fact → Bool) → ℕ → FunctionFact → Type 0
SegmentKeeps m held k kind = (at : ℕ) (instr : Instr) → instr_at m (spot k at) ≡ Some instr → held (dead k) ≡ false → Keeps m held kind instr.op

-- ---- what the rules speak of

-- the rule of the fact speaks of this instruction at all
abbrev pub Concerns : FunctionFact → Op → Type 0
Concerns NoUnwind (op.Resume val) = Unit {0}
Concerns NoUnwind o = is_call o ≡ true
Concerns NoReturn (op.Ret val) = Unit {0}
Concerns NoReturn o = ⊥
Concerns NoFree o = is_call o ≡ true
Concerns (NoAccess a location) o = IsAccess a location o

-- the facts that the rule asks at an instruction: of the callee of a call, and of pointers
abbrev pub KeepsSpeaks : Module → FunctionFact → Op → Fact → Type 0
KeepsSpeaks m NoUnwind o y = CallSpeaks m NoUnwind o y
KeepsSpeaks m NoReturn o y = ⊥
KeepsSpeaks m NoFree o y = CallSpeaks m NoFree o y
KeepsSpeaks m (NoAccess a location) o y = AccessSpeaks m a location o y

-- what an effect of segment k speaks of: its deadness where an instruction of it is concerned, and what is asked there
abbrev pub SegmentSpeaks : Module → ℕ → FunctionFact → Fact → Type 0
SegmentSpeaks m k kind y = (at : ℕ) × (instr : Instr) × (instr_at m (spot k at) ≡ Some instr) × Concerns kind instr.op ×
    ((y ≡ dead k) ⊎ KeepsSpeaks m kind instr.op y)

-- a body speaks of the effects of its segments alone
abbrev pub EffectsSpeak : Module → ℕ → FunctionFact → Fact → Type 0
EffectsSpeak m f kind y = (k : ℕ) × IsSegIn m f k × (y ≡ of_effect kind k)
