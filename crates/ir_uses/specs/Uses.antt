-- What the use lists of a module are.
use Rattle.std.specs.Prelude.{◌≡◌, ◌<◌, ℕ, List, Some, slice_get, length}
use Rattle.ir_module.specs.declared.op.Operand.TheVariants as operand
use Rattle.ir_module.specs.declared.op.Written.{Written}
use Rattle.ir_module.specs.declared.op.Instr.{Instr}
use Rattle.ir_module.specs.declared.module.Spot.{Spot}
use Rattle.ir_module.specs.declared.module.Module.{Module}
use Rattle.ir_module.specs.Places.{instr_at}
use Rattle.ir_module.specs.Operands.{operands}
use Rattle.ir_module.specs.Calls.{direct_callee, is_open}
use Rattle.ir_uses.specs.declared.lists.Use.{Use}
use Rattle.ir_uses.specs.declared.use_lists.Uses.{Uses}
use Rattle.ir_uses.specs.Order.{IsBefore, IsCallBefore}

-- the operand at this place is the value number v
pub record IsUseAt (m : Module) (v : ℕ) (u : Use) : Type 0 where
  pub instr : Instr
  pub written : Written
  pub at_spot : instr_at m u.spot ≡ Some instr
  pub is_operand : slice_get (operands instr.op) u.operand ≡ Some written
  pub is_value : written.val ≡ operand.Value (record { 0 = v })

-- the list has each use of value v once, in text order
pub record IsUseList (m : Module) (v : ℕ) (us : List Use) : Type 0 where
  pub each : (k : ℕ) (u : Use) → slice_get us k ≡ Some u → IsUseAt m v u
  pub all : (u : Use) → IsUseAt m v u → (k : ℕ) × (slice_get us k ≡ Some u)
  pub order : (i k : ℕ) (a b : Use) → i < k → slice_get us i ≡ Some a → slice_get us k ≡ Some b → IsBefore a b

-- the instruction at this spot is a direct call of function f
pub record IsCallAt (m : Module) (f : ℕ) (c : Spot) : Type 0 where
  pub instr : Instr
  pub at_spot : instr_at m c ≡ Some instr
  pub is_call : direct_callee m instr.op ≡ Some (record { 0 = f })

-- the list has each direct call of function f once, in text order
pub record IsCallList (m : Module) (f : ℕ) (cs : List Spot) : Type 0 where
  pub each : (k : ℕ) (c : Spot) → slice_get cs k ≡ Some c → IsCallAt m f c
  pub all : (c : Spot) → IsCallAt m f c → (k : ℕ) × (slice_get cs k ≡ Some c)
  pub order : (i k : ℕ) (a b : Spot) → i < k → slice_get cs i ≡ Some a → slice_get cs k ≡ Some b → IsCallBefore a b

-- these are the use lists of the module: of each value, and of each function its direct calls and whether it is an open body
pub record AreUsesOf (m : Module) (u : Uses) : Type 0 where
  pub values : (v : ℕ) → v < length m.values → (us : List Use) × (slice_get u.values v ≡ Some us) × IsUseList m v us
  pub callers : (f : ℕ) → f < length m.funcs → (cs : List Spot) × (slice_get u.callers f ≡ Some cs) × IsCallList m f cs
  pub bodies : (f : ℕ) → f < length m.funcs → slice_get u.bodies f ≡ Some (is_open m f)
