use Rattle.ir_rules.proofs.Named.{operands_named}
use Rattle.ir_rules.proofs.values.has_scalars.Goals as goal

pub has_scalar_operands-requires-clause-named : goal.has_scalar_operands-requires-clause-named
has_scalar_operands-requires-clause-named c = operands_named c.args.m.now c.args.instr.now c.requires.named

pub returns-then-has_scalar_result : goal.returns-then-has_scalar_result
returns-then-has_scalar_result c = (
  λ t. record { result = c.has_scalar_result.ensures.0 c.if-has_scalar_result.true; operands = c.has_scalar_operands.ensures.0 t },
  λ h.
      c.has_scalar_operands.ensures.1 h.operands,
)
