use Rattle.std.proofs.Common.{ℕ, List, arith, sym}
use Rattle.ir_module.specs.declared.op.Written.{Written}
use Rattle.ir_module.specs.Operands.{operands}
use Rattle.ir_module.specs.Formed.{IsType, IsOperandIn}
use Rattle.ir_module.proofs.Each.{one_more, one_more_none, answered}
use Rattle.ir_module.proofs.formed_instr.has_operands.Goals as goal
use Rattle.ir_module.proofs.formed_instr.has_operands.Goals.{in-Some+else-not-is_operand, in_default}

pub loop-at-preserved : goal.loop-at-preserved
loop-at-preserved c =
    let ops : List Written = operands c.args.op.now in
    let named : ℕ → Written → Type 0 = λ k w. IsType c.args.m.now w.ty × IsOperandIn c.args.m.now c.args.f w.val in
    elim c.match-operand_at.branch [
      | in-Some+else-not-is_operand w ↦
          one_more named ops c.loop-at.at w.in-Some.w.now c.loop-at.invariant (sym w.in-Some.ensures) (w.is_operand.ensures.0 w.if-not-is_operand.false)
      | in_default w ↦ one_more_none named ops c.loop-at.at c.loop-at.invariant w.in_default.ensures
    ]

pub returns : goal.returns
returns c =
    answered (λ k w. IsType c.args.m.now w.ty × IsOperandIn c.args.m.now c.args.f w.val) (operands c.args.op.now) c.loop-at.at c.loop-at.invariant
    (omega (arith, c.operand_count-at-end.ensures))
