-- What is named by operands is there: what the tests of a module that is well formed stand on.
use Rattle.std.specs.Prelude.{ℕ, List}
use Rattle.ir_module.specs.declared.op.Written.{Written}
use Rattle.ir_module.specs.declared.op.Instr.{Instr}
use Rattle.ir_module.specs.declared.module.Module.{Module}
use Rattle.ir_module.specs.Formed.{IsType, IsOperandIn, IsInstrIn}
use Rattle.ir_module.specs.WellFormed.{Each}

-- the type of an operand is there, and what it names, in some function
abbrev pub IsNamed : Module → Written → Type 0
IsNamed m w = IsType m w.ty × ((f : ℕ) × IsOperandIn m f w.val)

abbrev pub AreNamed : Module → List Written → Type 0
AreNamed m ws = Each ws (λ k w. IsNamed m w)

-- all that an instruction names is there, in some function
abbrev pub HasNames : Module → Instr → Type 0
HasNames m instr = (f : ℕ) × IsInstrIn m f instr
