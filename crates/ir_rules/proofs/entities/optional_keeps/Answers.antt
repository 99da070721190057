use Rattle.ir_module.specs.declared.op.Written.{Written}
use Rattle.ir_operands.specs.Constants.{Keeps}
use Rattle.ir_rules.proofs.Named.{init_named}
use Rattle.ir_rules.proofs.Told.{of_one, of_none}
use Rattle.ir_rules.proofs.entities.optional_keeps.Goals as goal

pub operand_keeps-requires-clause-named : goal.operand_keeps-requires-clause-named
operand_keeps-requires-clause-named c = init_named c.args.m.now c.args.init.now c.in-Some.w c.in-Some.is c.requires.named

pub returns-in-Some : goal.returns-in-Some
returns-in-Some c =
    of_one (λ (w : Written). Keeps c.args.m.now.types c.args.numbers.now c.args.m.now.parts c.args.rule w) c.args.init.now c.in-Some.w
    c.operand_keeps.result c.in-Some.is c.operand_keeps.ensures

pub returns-in-None : goal.returns-in-None
returns-in-None c = of_none (λ (w : Written). Keeps c.args.m.now.types c.args.numbers.now c.args.m.now.parts c.args.rule w) c.args.init.now c.in-None.is
