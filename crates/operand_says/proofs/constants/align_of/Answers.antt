use Rattle.std.proofs.Common.{sym, ap, arith}
use Rattle.facts.specs.Displacements.{or_else}
use Rattle.operand_says.proofs.Sizes.{no_alignment}
use Rattle.operand_says.proofs.constants.align_of.Goals as goal

pub returns-then-t-len : goal.returns-then-t-len
returns-then-t-len c = sym (ap (or_else 1) (no_alignment c.args.m.now.types c.args.t.0 (omega (arith, c.if-t-len.true, c.len.ensures))))
