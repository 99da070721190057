use Rattle.ir_module.specs.Operands.{optional}
use Rattle.ir_rules.proofs.Named.{constants_named}
use Rattle.ir_rules.proofs.entities.init_keeps.Goals as goal

pub optional_keeps-requires-clause-named : goal.optional_keeps-requires-clause-named
optional_keeps-requires-clause-named c = constants_named c.args.m.now (optional c.args.global.now.init) c.requires.named.init
