use Rattle.std.proofs.Common.{take, drop}
use Rattle.std.specs.List.{list_any}
use Rattle.ir_module.specs.Operands.{operands}
use Rattle.ir_module.specs.Calls.{names}
use Rattle.ir_uses.specs.Raised.{Raises}
use Rattle.ir_uses.proofs.taken.mark_instr.Given as goal

abbrev pub invariant-loop-at : goal.invariant-loop-at
invariant-loop-at l = Raises l.initial.flags l.flags (λ f. list_any (names f) (drop l.first (take l.at (operands l.instr.op))))
