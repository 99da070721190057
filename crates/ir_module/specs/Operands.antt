-- What instructions name: their operands, and which of these are literals.
use Rattle.std.specs.Prelude.{ℕ, Bool, true, false, if◌then◌else◌, slice_get, List, [], ◌∷◌, map, Option, None, Some}
use Rattle.ir_types.specs.declared.ir_type.IrType.{IrType}
use Rattle.ir_types.specs.declared.ir_type.IrType.TheVariants.{Int}
use Rattle.ir_module.specs.declared.op.Op.{Op}
use Rattle.ir_module.specs.declared.op.Op.TheVariants as op
use Rattle.ir_module.specs.declared.op.Operand.{Operand}
use Rattle.ir_module.specs.declared.op.Operand.TheVariants as operand
use Rattle.ir_module.specs.declared.op.Written.{Written}
use Rattle.ir_module.specs.declared.module.Module.{Module}

abbrev pub optional : Option Written → List Written
optional None = []
optional (Some w) = w ∷ []

-- the operands of an instruction in the order in which they are written; labels are none
abbrev pub operands : Op → List Written
operands (op.Bin kind flagged a b) = a ∷ b ∷ []
operands (op.Icmp pred flagged a b) = a ∷ b ∷ []
operands (op.Cast kind flagged a) = a ∷ []
operands (op.Select c a b) = c ∷ a ∷ b ∷ []
operands (op.Freeze a) = a ∷ []
operands (op.Phi arms) = map (λ arm. arm.val) arms
operands (op.Alloca ty count align) = optional count
operands (op.Load ptr align volatile) = ptr ∷ []
operands (op.Store val ptr align volatile) = val ∷ ptr ∷ []
operands (op.Gep elem base indices inbounds wrap) = base ∷ indices
operands (op.Call call) = call.callee ∷ call.args
operands (op.Invoke call normal unwind) = call.callee ∷ call.args
operands (op.LandingPad catch_all clauses) = map (λ clause. clause.val) clauses
operands (op.Resume val) = val ∷ []
operands (op.Ret val) = optional val
operands (op.Jump to) = []
operands (op.Branch c so otherwise) = c ∷ []
operands (op.Switch on other cases) = on ∷ map (λ case. case.val) cases
operands op.Unreachable = []

abbrev pub is_int : Option IrType → Bool
is_int (Some (Int width)) = true
is_int _ = false

abbrev pub literal_in : Option IrType → Operand → Option ℕ
literal_in ty (operand.Int bits fits) = if fits then Some bits else None
literal_in ty (operand.Truth value) = if value then Some 1 else Some 0
literal_in ty operand.Zero = if is_int ty then Some 0 else None
literal_in ty _ = None

-- the number that a literal stands for: an integer that fits its width, `true` or `false`, or `zeroinitializer` at an integer type
abbrev pub literal : Module → Written → Option ℕ
literal m w = literal_in (slice_get m.types w.ty.0) w.val
