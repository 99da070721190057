use Rattle.ir_ops.proofs.Table.{table_law}
use Rattle.ir_ops.proofs.laws.table_is_integer_mathematics.Goals as goal

pub returns : goal.returns
returns c = table_law
