use Rattle.std.proofs.Common.{sym}
use Rattle.aa_control.proofs.Begins.{block_begins}
use Rattle.aa_control.proofs.dying.start.Goals as goal

pub returns-clause-there : goal.returns-clause-there
returns-clause-there c = block_begins c.args.m.now c.args.block.0 c.in_ok-b.b.now c.requires.formed (sym c.in_ok-b.ensures.value)
