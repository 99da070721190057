-- What is asked, and what is spoken of, for one instruction, one segment, and all of them.
use Rattle.std.specs.Prelude.{◌≡◌, ◌⊎◌, ℕ, Bool, true, false, List, map}
use Rattle.std.specs.List.{list_any}
use Rattle.lattice_words.specs.declared.function.TheConstants.{ALL_CONTROL}
use Rattle.ir_module.specs.declared.op.Op.{Op}
use Rattle.ir_module.specs.declared.op.Op.TheVariants as op
use Rattle.ir_module.specs.declared.op.Instr.{Instr}
use Rattle.ir_module.specs.declared.module.Seg.{Seg}
use Rattle.ir_module.specs.declared.module.Module.{Module}
use Rattle.ir_module.specs.Places.{IsSegIn}
use Rattle.ir_module.specs.Edges.{is_catch_all, catches_all}
use Rattle.facts.specs.declared.pos.Pos.{Pos}
use Rattle.facts.specs.Kinds.{FunctionFact, NoUnwind, NoReturn, NoFree, function_bit}
use Rattle.facts.specs.Facts.{Fact, function, effect, dead}
use Rattle.facts.specs.Masks.{is_bit}
use Rattle.facts.specs.Promises.{call_has}
use Rattle.facts.specs.Functions.{Keeps, Concerns, KeepsSpeaks}
use Rattle.rule_says.specs.Saying.{IsSet, Has}
use Rattle.rule_says.specs.Meeting.{HasSome}
use Rattle.rule_says.specs.Listing.{AskAll, SpeakAny}

-- ---- one instruction

-- the instruction of segment k keeps the fact, if the segment is not dead
abbrev pub AsksKind : Module → FunctionFact → ℕ → Op → (Fact → Bool) → Pos → ℕ → Type 0
AsksKind m kind k o held p bit = p ≡ effect k → bit ≡ function_bit kind → is_bit m p bit ≡ true → held (dead k) ≡ false → Keeps m held kind o

-- what is spoken of for it
abbrev pub SpeaksKind : Module → FunctionFact → ℕ → Op → Pos → Fact → Type 0
SpeaksKind m kind k o p y = (p ≡ effect k) × (is_bit m p (function_bit kind) ≡ true) × Concerns kind o × ((y ≡ dead k) ⊎ KeepsSpeaks m kind o y)

-- the same for each fact of control
abbrev pub AsksInstr : Module → ℕ → Instr → (Fact → Bool) → Pos → ℕ → Type 0
AsksInstr m k i held p bit = AsksKind m NoUnwind k i.op held p bit × (AsksKind m NoReturn k i.op held p bit × AsksKind m NoFree k i.op held p bit)

abbrev pub SpeaksInstr : Module → ℕ → Instr → Pos → Fact → Type 0
SpeaksInstr m k i p y = SpeaksKind m NoUnwind k i.op p y ⊎ (SpeaksKind m NoReturn k i.op p y ⊎ SpeaksKind m NoFree k i.op p y)

-- ---- effects and bodies

-- each instruction of segment k
abbrev pub AsksSeg : Module → ℕ → Seg → (Fact → Bool) → Pos → ℕ → Type 0
AsksSeg m k seg = AskAll seg.instrs (λ at i. AsksInstr m k i)

abbrev pub SpeaksSeg : Module → ℕ → Seg → Pos → Fact → Type 0
SpeaksSeg m k seg = SpeakAny seg.instrs (λ at i. SpeaksInstr m k i)

-- each segment
abbrev pub AsksEffects : Module → (Fact → Bool) → Pos → ℕ → Type 0
AsksEffects m = AskAll m.segs (λ k seg. AsksSeg m k seg)

abbrev pub SpeaksEffects : Module → Pos → Fact → Type 0
SpeaksEffects m = SpeakAny m.segs (λ k seg. SpeaksSeg m k seg)

-- the effect of segment k has the bits of control that its body has
abbrev pub AsksBody : Module → ℕ → (Fact → Bool) → Pos → ℕ → Type 0
AsksBody m k held p bit = (f : ℕ) → IsSegIn m f k → p ≡ function f → IsSet ALL_CONTROL bit → is_bit m p bit ≡ true → Has held (effect k) bit

abbrev pub SpeaksBody : Module → ℕ → Pos → Fact → Type 0
SpeaksBody m k p y = (f : ℕ) × IsSegIn m f k × (p ≡ function f) × HasSome m p ALL_CONTROL × (y.pos ≡ effect k) × IsSet ALL_CONTROL y.bit

-- each segment of each body
abbrev pub AsksBodies : Module → (Fact → Bool) → Pos → ℕ → Type 0
AsksBodies m = AskAll m.segs (λ k seg. AsksBody m k)

abbrev pub SpeaksBodies : Module → Pos → Fact → Type 0
SpeaksBodies m = SpeakAny m.segs (λ k seg. SpeaksBody m k)

-- ---- terms

-- the call has the fact
abbrev pub AsksCall : Module → FunctionFact → Op → (Fact → Bool) → ℕ → Type 0
AsksCall m kind o held bit = call_has m held kind o ≡ true

-- the instruction keeps the fact
abbrev pub AsksKeeps : Module → FunctionFact → Op → (Fact → Bool) → ℕ → Type 0
AsksKeeps m kind o held bit = Keeps m held kind o

-- ---- landing pads

-- a landing pad that catches all stands in the segment
abbrev pub has_pad : Seg → Bool
has_pad seg = list_any (λ i. is_catch_all i.op) seg.instrs

-- the unwind edge leads to a landing pad that catches all
abbrev pub is_caught : Module → Op → Bool
is_caught m (op.Invoke call normal unwind) = catches_all m unwind.0
is_caught m _ = false

-- of each segment, whether such a landing pad stands in it
abbrev pub pads_of : Module → List Bool
pads_of m = map has_pad m.segs

-- ---- instructions

abbrev pub is_resume : Op → Bool
is_resume (op.Resume val) = true
is_resume _ = false

abbrev pub is_ret : Op → Bool
is_ret (op.Ret val) = true
is_ret _ = false
