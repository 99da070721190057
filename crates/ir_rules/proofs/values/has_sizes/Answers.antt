use Rattle.ir_rules.proofs.Named.{operands_named}
use Rattle.ir_rules.proofs.values.has_sizes.Goals as goal

pub operands_keep-requires-clause-named : goal.operands_keep-requires-clause-named
operands_keep-requires-clause-named c = operands_named c.args.m.now c.args.instr.now c.requires.named

pub returns-then-has_sized_type : goal.returns-then-has_sized_type
returns-then-has_sized_type c = (
  λ t. record { type = c.has_sized_type.ensures.0 c.if-has_sized_type.true; constants = c.operands_keep.ensures.0 t },
  λ h. c.operands_keep.ensures.1
      h.constants,
)
