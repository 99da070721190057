use Rattle.ir_module.specs.Operands.{optional}
use Rattle.ir_rules.proofs.Named.{constants_named}
use Rattle.ir_rules.proofs.entities.is_sized_global.Goals as goal

pub optional_keeps-requires-clause-named : goal.optional_keeps-requires-clause-named
optional_keeps-requires-clause-named c = constants_named c.args.m.now (optional c.args.global.now.init) c.requires.named.init

pub returns-then-has_sized_init : goal.returns-then-has_sized_init
returns-then-has_sized_init c = (
  λ t. record { type = c.has_sized_init.ensures.0 c.if-has_sized_init.true; constants = c.optional_keeps.ensures.0 t },
  λ h. c.optional_keeps.ensures.1
      h.constants,
)
