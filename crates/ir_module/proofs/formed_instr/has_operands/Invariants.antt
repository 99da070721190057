use Rattle.ir_module.specs.Operands.{operands}
use Rattle.ir_module.specs.Formed.{IsType, IsOperandIn}
use Rattle.ir_module.proofs.Each.{EachOf}
use Rattle.ir_module.proofs.formed_instr.has_operands.Given as goal

abbrev pub invariant-loop-at : goal.invariant-loop-at
invariant-loop-at l = EachOf l.at (operands l.op) (λ k w. IsType l.m w.ty × IsOperandIn l.m l.f w.val)
