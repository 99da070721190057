use Rattle.ir_rules.proofs.operations.leads_on.Goals as goal

pub returns-then-are_integer_operands : goal.returns-then-are_integer_operands
returns-then-are_integer_operands c = (
  λ t. record { integers = c.are_integer_operands.ensures.0 c.if-are_integer_operands.true; part = c.leads_somewhere.ensures.0 t },
  λ h.
      c.leads_somewhere.ensures.1 h.part,
)
