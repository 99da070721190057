use Rattle.std.proofs.Common.{◌≡◌, ◌<◌, ℕ, slice_get, Some}
use Rattle.ir_module.specs.declared.op.Instr.{Instr}
use Rattle.ir_rules.specs.Blocks.{IsPad}
use Rattle.ir_rules.proofs.blocks.any_pad.Given as goal

abbrev pub invariant-loop-i : goal.invariant-loop-i
invariant-loop-i l = (k : ℕ) (x : Instr) → k < l.i → slice_get l.instrs k ≡ Some x → IsPad x.op → ⊥
