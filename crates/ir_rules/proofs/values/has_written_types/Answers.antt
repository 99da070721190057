use Rattle.ir_rules.proofs.Named.{operands_named}
use Rattle.ir_rules.proofs.values.has_written_types.Goals as goal

pub has_written_operands-requires-clause-named : goal.has_written_operands-requires-clause-named
has_written_operands-requires-clause-named c = operands_named c.args.m.now c.args.instr.now c.requires.named

pub returns-then-has_written_operands : goal.returns-then-has_written_operands
returns-then-has_written_operands c = (
  λ t. record { operands = c.has_written_operands.ensures.0 c.if-has_written_operands.true; name = c.is_named_well.ensures.0 t },
  λ h.
      c.is_named_well.ensures.1 h.name,
)
