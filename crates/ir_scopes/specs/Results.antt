-- Which instructions give a value: all but stores and those whose type is void.
use Rattle.std.specs.Prelude.{ℕ, Bool, true, false, not, List, slice_index}
use Rattle.ir_tree.specs.declared.types.Ty.{Ty}
use Rattle.ir_tree.specs.declared.types.Ty.TheVariants as ty
use Rattle.ir_tree.specs.declared.instructions.Instr.{Instr}
use Rattle.ir_tree.specs.declared.instructions.Instr.TheVariants as instr

-- the type is void, or is named and its content is
abbrev pub is_void : List ℕ → (ℕ → Bool) → Ty → Bool
is_void ids void (ty.Void at) = true
is_void ids void (ty.Named at) = void (slice_index ids at)
is_void ids void _ = false

-- the instruction gives a value
abbrev pub gives_result : List ℕ → (ℕ → Bool) → Instr → Bool
gives_result ids void (instr.Binop op flags t left right) = not (is_void ids void t)
gives_result ids void (instr.Icmp x) = true
gives_result ids void (instr.Cast op flags of to) = not (is_void ids void to)
gives_result ids void (instr.Select x) = not (is_void ids void x.yes.ty)
gives_result ids void (instr.Freeze op of) = not (is_void ids void of.ty)
gives_result ids void (instr.Phi op t arms) = not (is_void ids void t)
gives_result ids void (instr.Alloca x) = true
gives_result ids void (instr.Load op volatile t from align) = not (is_void ids void t)
gives_result ids void (instr.Store x) = false
gives_result ids void (instr.GetElementPtr op flags elem operands) = true
gives_result ids void (instr.Call x) = not (is_void ids void x.called.callee.result)
gives_result ids void (instr.Cleanup op t cleanup clauses) = not (is_void ids void t)
gives_result ids void (instr.LandingPad op t clauses) = not (is_void ids void t)
