-- What bodies return.
use Rattle.std.specs.Prelude.{◌≡◌, ◌⊎◌, ℕ, Bool, true, false, None, Some}
use Rattle.ir_module.specs.declared.op.Written.{Written}
use Rattle.ir_module.specs.declared.op.Op.{Op}
use Rattle.ir_module.specs.declared.op.Op.TheVariants as op
use Rattle.ir_module.specs.declared.op.Instr.{Instr}
use Rattle.ir_module.specs.declared.module.Spot.{Spot}
use Rattle.ir_module.specs.declared.module.Module.{Module}
use Rattle.ir_module.specs.Places.{instr_at, IsIn}
use Rattle.facts.specs.Kinds.{ValueFact, HasBytes, OwnAlloca, Unknown, class_bit}
use Rattle.facts.specs.Facts.{Fact, dead_at}
use Rattle.facts.specs.Known.{written_has, OperandSpeaks}

-- bytes that are returned are in no alloca of the body, since those are gone
abbrev pub Outlasts : Module → (Fact → Bool) → Written → ValueFact → Type 0
Outlasts m held w (HasBytes count) = (written_has m held w (class_bit OwnAlloca) ≡ true) × (written_has m held w (class_bit Unknown) ≡ true)
Outlasts m held w _ = Unit {0}

-- a `ret` returns an operand that has the bit
abbrev pub RetHas : Module → (Fact → Bool) → Op → ℕ → ValueFact → Type 0
RetHas m held (op.Ret None) bit kind = ⊥
RetHas m held (op.Ret (Some w)) bit kind = (written_has m held w bit ≡ true) × Outlasts m held w kind
RetHas m held _ bit kind = Unit {0}

-- each `ret` of body f that is not dead returns it
abbrev pub ReturnHas : Module → (Fact → Bool) → ℕ → ℕ → ValueFact → Type 0
ReturnHas m held f bit kind = (s : Spot) (instr : Instr) → IsIn m f s → instr_at m s ≡ Some instr → held (dead_at s) ≡ false → RetHas m held instr.op bit kind

-- ---- what the rule speaks of

-- for bytes, of the classes of the operand
abbrev pub OutlastSpeaks : Written → ValueFact → Fact → Type 0
OutlastSpeaks w (HasBytes count) y = OperandSpeaks w (class_bit OwnAlloca) y ⊎ OperandSpeaks w (class_bit Unknown) y
OutlastSpeaks w kind y = ⊥

-- a `ret` speaks of its segment and of its operand
abbrev pub RetSpeaks : Spot → Op → ℕ → ValueFact → Fact → Type 0
RetSpeaks s (op.Ret None) bit kind y = y ≡ dead_at s
RetSpeaks s (op.Ret (Some w)) bit kind y = (y ≡ dead_at s) ⊎ (OperandSpeaks w bit y ⊎ OutlastSpeaks w kind y)
RetSpeaks s _ bit kind y = ⊥

-- each `ret` of the body speaks
abbrev pub ReturnSpeaks : Module → ℕ → ℕ → ValueFact → Fact → Type 0
ReturnSpeaks m f bit kind y = (s : Spot) × (instr : Instr) × IsIn m f s × (instr_at m s ≡ Some instr) × RetSpeaks s instr.op bit kind y
