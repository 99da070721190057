-- What is known of arms and cases that were looked up one after the other.
use Rattle.std.specs.Prelude.{ℕ, ◌≡◌, ◌<◌, Bool, true, List, slice_get, Option, Some}
use Rattle.ir_module.specs.declared.op.Arm.{Arm}
use Rattle.ir_module.specs.declared.op.Case.{Case}
use Rattle.ir_module.specs.declared.module.Module.{Module}
use Rattle.ir_module.specs.Operands.{literal}
use Rattle.ir_operands.specs.Same.{AreOneValue}

-- `first` tells for each block of the first i arms the number of an arm from it, with which the others from it are one value
pub record AreLed (m : Module) (numbers : List ℕ) (arms : List Arm) (first : ℕ → Option ℕ) (i : ℕ) : Type 0 where
  pub each : (x k : ℕ) → first x ≡ Some k → (a : Arm) × (k < i) × (slice_get arms k ≡ Some a) × (a.from.0 ≡ x)
  pub led : (j : ℕ) (b : Arm) → j < i → slice_get arms j ≡ Some b
      → (k : ℕ) × (a : Arm) × (first b.from.0 ≡ Some k) × (slice_get arms k ≡ Some a) × AreOneValue m.types numbers m.parts a.val b.val

-- the numbers of the first i cases are those that `has` tells, and no two of them are one
pub record AreSeen (m : Module) (cases : List Case) (has : ℕ → Bool) (i : ℕ) : Type 0 where
  pub from : (n : ℕ) → has n ≡ true → (k : ℕ) × (c : Case) × (k < i) × (slice_get cases k ≡ Some c) × (literal m c.val ≡ Some n)
  pub all : (k n : ℕ) (c : Case) → k < i → slice_get cases k ≡ Some c → literal m c.val ≡ Some n → has n ≡ true
  pub distinct : (j k n : ℕ) (a b : Case) → j < i → k < i → slice_get cases j ≡ Some a → slice_get cases k ≡ Some b → literal m a.val ≡ Some n
      → literal m b.val ≡ Some n → j ≡ k
