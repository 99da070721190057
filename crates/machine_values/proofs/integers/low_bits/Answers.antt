use Rattle.ir_ops.proofs.Arithmetic.{masked}
use Rattle.machine_values.proofs.integers.low_bits.Goals as goal

pub returns : goal.returns
returns c = masked c.args.number c.args.width c.all_ones.result c.all_ones.ensures
