-- An accepted text is not refused.
use Rattle.std.proofs.Common.{◌≡◌, ◌≢◌, ◌≤◌, ℕ, List, length, refl, subst}
use Rattle.attr_ids.specs.declared.status.Status.{Status}
use Rattle.attr_ids.specs.declared.status.Status.TheVariants as status
use Rattle.accept.specs.declared.refusal.Refusal.{Refusal}
use Rattle.accept.specs.declared.refusal.Refusal.TheVariants as refusal
use Rattle.accept.specs.Causes.{IsCause}
use Rattle.one_answer.proofs.Refusing.{not_refused}
use Rattle.attrib.specs.Annotated.{IsAccepted}
use Rattle.attrib.specs.Lines.{IsLine}
use Rattle.attrib.specs.Run.{RefusesWith}

pub want_of_memory : (b : List ℕ) → IsAccepted b → (why : Refusal) → IsCause b why → why ≡ refusal.NoMemory
want_of_memory b is why cause = not_refused b is.0 is.1 why cause

pub accepted_is_small : (b : List ℕ) → IsAccepted b → length b ≤ 67108864
accepted_is_small b is = is.1.checked.is_module.2.parsed.read.tokens.small

-- no line says why it is refused
pub no_line : (b line : List ℕ) → IsAccepted b → RefusesWith b line → ⊥
no_line b line is why = subst (λ x. IsLine b x line) (want_of_memory b is why.0 why.1) why.2

-- what is left of the statuses where none of the others is answered
pub only_memory : (s : Status) → (s ≡ status.Refused → ⊥) → (s ≡ status.WriteFault → ⊥) →
    (s ≢ status.Done) × (s ≢ status.Usage) × (s ≢ status.ReadFault) → s ≡ status.NoMemory
only_memory status.Done refused fault others = absurd (others.0 refl)
only_memory status.Refused refused fault others = absurd (refused refl)
only_memory status.Usage refused fault others = absurd (others.1 refl)
only_memory status.ReadFault refused fault others = absurd (others.2 refl)
only_memory status.WriteFault refused fault others = absurd (fault refl)
only_memory status.NoMemory refused fault others = refl
