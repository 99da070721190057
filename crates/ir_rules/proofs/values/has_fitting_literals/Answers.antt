use Rattle.ir_rules.proofs.Named.{operands_named}
use Rattle.ir_rules.proofs.values.has_fitting_literals.Goals as goal

pub operands_keep-requires-clause-named : goal.operands_keep-requires-clause-named
operands_keep-requires-clause-named c = operands_named c.args.m.now c.args.instr.now c.requires.named
