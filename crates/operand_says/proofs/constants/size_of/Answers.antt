use Rattle.std.proofs.Common.{sym, ap, arith}
use Rattle.facts.specs.Displacements.{or_else}
use Rattle.operand_says.proofs.Sizes.{no_size}
use Rattle.operand_says.proofs.constants.size_of.Goals as goal

pub returns-then-t-len : goal.returns-then-t-len
returns-then-t-len c = sym (ap (or_else 0) (no_size c.args.m.now.types c.args.t.0 (omega (arith, c.if-t-len.true, c.len.ensures))))
