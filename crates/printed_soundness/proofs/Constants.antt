-- Of constants nothing is said: no kind of fact of values is built, and of a constant those alone are counted that are.
use Rattle.std.proofs.Common.{◌≡◌, ◌&&◌, ℕ, Bool, true, false, List, All, refl, sym, subst, true≢false}
use Rattle.std.proofs.lemmas.List.Elements.{All-from_recursion}
use Rattle.shelf.proofs.Every.{every_always}
use Rattle.ir_module.specs.declared.op.Operand.{Operand}
use Rattle.ir_module.specs.declared.op.Operand.TheVariants as operand
use Rattle.ir_module.specs.declared.op.Written.{Written}
use Rattle.ir_module.specs.declared.module.Module.{Module}
use Rattle.facts.specs.Facts.{Fact}
use Rattle.facts.specs.Known.{written_has}
use Rattle.ir_machine.specs.Runs.{Done}
use Rattle.manifest.specs.Argument.{counts, of_operand}
use Rattle.laws_printed.specs.Printed.{is_constant, ConstantsAreRight}

-- no bit of a constant is counted
uncounted : (o : Operand) → is_constant o ≡ true → (bit : ℕ) → counts o bit ≡ false
uncounted (operand.Value v) is bit = absurd (true≢false (sym is))
uncounted (operand.Int bits fits) is bit = refl
uncounted (operand.Truth value) is bit = refl
uncounted operand.Zero is bit = refl
uncounted operand.Null is bit = refl
uncounted operand.Undef is bit = refl
uncounted operand.Poison is bit = refl
uncounted (operand.Global g) is bit = refl
uncounted (operand.Func f) is bit = refl
uncounted (operand.Offset base bytes inbounds wrap) is bit = refl
uncounted (operand.WrongOffset rule) is bit = refl
uncounted (operand.Parts shape first count) is bit = refl
uncounted (operand.AnyInt first count) is bit = refl

unknown : (m : Module) (held : Fact → Bool) (w : Written) (bit : ℕ) → is_constant w.val ≡ true → of_operand m held w bit ≡ true → ⊥
unknown m held w bit is on = true≢false (sym (subst (λ b. (b && written_has m held w bit) ≡ true) (uncounted w.val is bit) on))

-- so constants are right in every run
pub constants_right : (m : Module) (held : Fact → Bool) (steps : List Done) → All (ConstantsAreRight m held) steps
constants_right m held steps =
    All-from_recursion (ConstantsAreRight m held) steps (every_always (ConstantsAreRight m held) steps
    (λ d a s instr call at w x begins made stands is_call is_arg is pointer passed bit on. absurd (unknown m held w bit is on)))
