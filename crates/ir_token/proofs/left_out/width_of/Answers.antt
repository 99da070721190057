use Rattle.std.proofs.Common.{◌∙◌}
use Rattle.ir_token.proofs.Widths.{width_more}
use Rattle.ir_token.proofs.left_out.width_of.Goals as goal

pub loop-c-preserved : goal.loop-c-preserved
loop-c-preserved c = c.min-width.ensures ∙ width_more c.args.digits.now c.loop-c.c-index c.loop-c.width c.requires c.loop-c-test.true c.loop-c.invariant
