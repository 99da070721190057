-- What the rule of `nounwind` asks of single instructions.
use Rattle.std.proofs.Common.{◌≡◌, ℕ, Bool, true, false, Some, refl, subst}
use Rattle.ir_module.specs.declared.module.Module.{Module}
use Rattle.ir_module.specs.declared.module.Spot.{Spot}
use Rattle.ir_module.specs.declared.op.Instr.{Instr}
use Rattle.ir_module.specs.declared.op.Written.{Written}
use Rattle.ir_module.specs.declared.op.Op.TheVariants as op
use Rattle.ir_module.specs.Places.{instr_at, IsIn}
use Rattle.facts.specs.Facts.{Fact, dead_at, nounwind_of}
use Rattle.facts.specs.Functions.{KeepsNounwind}
use Rattle.facts.specs.Justified.{SupportsItself}

-- a `resume` keeps nothing from unwinding, and it is not dead
pub resume_unwinds : (m : Module) (held : Fact → Bool) → SupportsItself m held → (f : ℕ) (s : Spot) (instr : Instr) (val : Written) → IsIn m f s →
    instr_at m s ≡ Some instr → instr.op ≡ op.Resume val → held (dead_at s) ≡ false → held (nounwind_of f) ≡ false
resume_unwinds m held is f s instr val within at resumes live = by (held (nounwind_of f)) refl
  where
    by : (b : Bool) → held (nounwind_of f) ≡ b → b ≡ false
    by false e = refl
    by true e = absurd (subst (KeepsNounwind m held) resumes ((is (nounwind_of f) e).1 s instr within at live))
