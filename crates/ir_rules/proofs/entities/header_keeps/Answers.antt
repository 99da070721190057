use Rattle.std.proofs.Common.{ℕ, List, subst, sym}
use Rattle.ir_module.specs.declared.op.Written.{Written}
use Rattle.ir_operands.specs.Constants.{Keeps}
use Rattle.ir_rules.specs.Named.{AreNamed}
use Rattle.ir_rules.proofs.Named.{constants_named}
use Rattle.ir_rules.proofs.Told.{each_of}
use Rattle.ir_rules.proofs.entities.header_keeps.Goals as goal

pub each_keeps-requires-clause-named : goal.each_keeps-requires-clause-named
each_keeps-requires-clause-named c = subst (λ (ws : List Written). AreNamed c.args.m.now ws) (sym c.as_slice.ensures)
    (constants_named c.args.m.now c.args.func.now.extra c.requires.named)

pub returns : goal.returns
returns c = each_of (λ (k : ℕ) (w : Written). Keeps c.args.m.now.types c.args.numbers.now c.args.m.now.parts c.args.rule w) c.as_slice.result.now
    c.args.func.now.extra c.each_keeps.result c.as_slice.ensures c.each_keeps.ensures
