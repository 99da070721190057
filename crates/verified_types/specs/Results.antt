-- Which types instructions have: those that their text writes.
use Rattle.std.specs.Prelude.{◌≡◌, Some}
use Rattle.attr_ids.specs.declared.ids.TypeId.{TypeId}
use Rattle.ir_module.specs.declared.op.Op.{Op}
use Rattle.ir_module.specs.declared.op.Op.TheVariants as op
use Rattle.ir_module.specs.declared.op.Instr.{Instr}
use Rattle.ir_module.specs.declared.module.Spot.{Spot}
use Rattle.ir_module.specs.declared.module.Module.{Module}
use Rattle.ir_module.specs.Places.{instr_at}
use Rattle.ir_module.specs.WellFormed.{Each}
use Rattle.ir_operands.specs.Types.{type_of, IsIntegerOf, IsPointer}

-- The type is the one that the operation writes (LangRef, "Instruction Reference"): that of its operands or arms, or of what its call
-- returns; a comparison gives an i1, and what makes an address a pointer. All others write a type of their own, or have no result.
abbrev pub WritesType : Module → TypeId → Op → Type 0
WritesType m t (op.Bin kind flagged a b) = a.ty ≡ t
WritesType m t (op.Icmp pred flagged a b) = IsIntegerOf 1 (type_of m.types t)
WritesType m t (op.Select c a b) = a.ty ≡ t
WritesType m t (op.Freeze a) = a.ty ≡ t
WritesType m t (op.Phi arms) = Each arms (λ k arm. arm.val.ty ≡ t)
WritesType m t (op.Alloca ty count align) = IsPointer (type_of m.types t)
WritesType m t (op.Gep elem base indices inbounds wrap) = IsPointer (type_of m.types t)
WritesType m t (op.Call call) = call.func_ty.ret ≡ t
WritesType m t (op.Invoke call normal unwind) = call.func_ty.ret ≡ t
WritesType m t _ = Unit {0}

-- so has each instruction of the module
abbrev pub AreResultsWritten : Module → Type 0
AreResultsWritten m = (s : Spot) (instr : Instr) → instr_at m s ≡ Some instr → WritesType m instr.ty instr.op
