use Rattle.ir_rules.proofs.Named.{operands_named}
use Rattle.ir_rules.proofs.operations.indexes.Goals as goal

pub operands_keep-requires-clause-named : goal.operands_keep-requires-clause-named
operands_keep-requires-clause-named c = operands_named c.args.m.now c.args.instr.now c.requires.named

pub returns-then-has_indices : goal.returns-then-has_indices
returns-then-has_indices c = (
  λ t. record { indices = c.has_indices.ensures.0 c.if-has_indices.true; constants = c.operands_keep.ensures.0 t },
  λ h. c.operands_keep.ensures.1
      h.constants,
)
