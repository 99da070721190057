use Rattle.ir_rules.proofs.values.has_written_operands.Goals as goal

pub returns-then-typed_fit_written : goal.returns-then-typed_fit_written
returns-then-typed_fit_written c = (
  λ t. record { operands = c.typed_fit_written.ensures.0 c.if-typed_fit_written.true; callee = c.has_fitting_callee.ensures.0 t },
  λ h.
      c.has_fitting_callee.ensures.1 h.callee,
)
