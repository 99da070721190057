use Rattle.ir_scopes.proofs.Counter.{counted_from_zero}
use Rattle.ir_scopes.proofs.laws.unnamed_things_are_counted.Goals as goal

pub returns : goal.returns
returns c = counted_from_zero
