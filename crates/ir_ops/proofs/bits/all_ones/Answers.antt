use Rattle.ir_ops.proofs.Arithmetic.{all_ones_is}
use Rattle.ir_ops.proofs.bits.all_ones.Goals as goal

pub returns : goal.returns
returns c = all_ones_is c.args.width c.requires.1
